-- One more choice is made, or refused; at the end all are made.
use Rattle.std.specs.Prelude.{flat_map, map}
use Rattle.std.proofs.lemmas.Result.{err_from_is_err_and}
use Rattle.specify_model.specs.Faults.{style_faults}
use Rattle.specify_values.specs.Seen.{view_style}
use Rattle.specify_values.proofs.InTurn.{exit, none-left}
use Rattle.elab_ends.specs.Seen.{bit_seen}
use Rattle.specify_paths.specs.Words.{style_at}
use Rattle.specify_paths.proofs.FirstFault.{refused-at, faultless-at}
use Rattle.specify_paths.proofs.Chosen.{next-style, all-styles}
use Rattle.specify_paths.proofs.styles.styles_of.Goals as goal

pub returns-in_err-add_style-clause-told : goal.returns-in_err-add_style-clause-told
returns-in_err-add_style-clause-told c =
    exit c.from_residual.result (flat_map (style_faults c.args.table.now) (map view_style c.args.texts.now)) c.in_err-add_style.field-0.0
    (err_from_is_err_and c.from_residual.result c.from_residual.ensures.1)
    (refused-at view_style (style_faults c.args.table.now) c.args.texts.now c.loop-text.text-index _ c.in_err-add_style.field-0.0 c.loop-text-test.true c.loop-text.invariant.1
    c.in_err-add_style.ensures.told)

pub loop-text-preserved : goal.loop-text-preserved
loop-text-preserved c = (
  λ i lt.
      next-style c.args.table.now c.args.texts.now c.loop-text.text-index _ (style_at c.loop-text.styles i) (style_at c.add_style.new.styles i) (bit_seen c.args.table.now i) c.loop-text-test.true
      (c.loop-text.invariant.0 i lt) (c.in_ok-add_style.ensures.styles i lt),
  faultless-at view_style (style_faults c.args.table.now) c.args.texts.now c.loop-text.text-index _ c.loop-text-test.true c.in_ok-add_style.ensures.told c.loop-text.invariant.1,
)

pub returns-clause-styles : goal.returns-clause-styles
returns-clause-styles c = λ i lt.
    all-styles c.args.table.now c.args.texts.now c.loop-text.text-index (style_at c.loop-text.styles i) (bit_seen c.args.table.now i) c.loop-text-test.false (c.loop-text.invariant.0 i lt)

pub returns-clause-told : goal.returns-clause-told
returns-clause-told c = none-left view_style (style_faults c.args.table.now) c.args.texts.now c.loop-text.text-index c.loop-text-test.false c.loop-text.invariant.1
