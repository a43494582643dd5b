-- A choice that is made, or that chooses none.
use Rattle.std.proofs.Common.{sym, ◌∙◌, ap, subst}
use Rattle.std.proofs.lemmas.Result.{err_from_is_err_and}
use Rattle.specify_model.specs.Faults.{style_faults}
use Rattle.specify_values.specs.Seen.{view_style}
use Rattle.specify_values.proofs.InTurn.{exit}
use Rattle.elab_ends.specs.Seen.{AreInRow, bit_seen, bits_seen}
use Rattle.specify_paths.specs.Words.{style_at}
use Rattle.specify_paths.proofs.Chosen.{made, not-made}
use Rattle.specify_paths.proofs.styles.add_style.Goals as goal

pub returns-in_err-check_terms-clause-told : goal.returns-in_err-check_terms-clause-told
returns-in_err-check_terms-clause-told c =
    exit c.from_residual.result (style_faults c.args.table.now (view_style c.args.text)) c.in_err-check_terms.field-0.0 (err_from_is_err_and c.from_residual.result c.from_residual.ensures.1)
    c.in_err-check_terms.ensures

pub returns-in_default-clause-styles : goal.returns-in_default-clause-styles
returns-in_default-clause-styles c = λ i lt.
    not-made c.args.table.now c.requires (view_style c.args.text) (style_at c.args.styles.now i) (bit_seen c.args.table.now i) c.in_default.ensures

pub returns-clause-styles : goal.returns-clause-styles
returns-clause-styles c = λ i lt.
    c.in_ok-choose.ensures i
    ∙ made c.args.table.now c.requires (view_style c.args.text) c.in-Some.style c.deref.result.now (style_at c.args.styles.now) i c.in-Some.ensures
    (ap (bits_seen c.args.table.now) c.deref.ensures.value ∙ c.in_ok-bits.ensures.bits) (subst (AreInRow c.args.table.now) (sym c.deref.ensures.value) c.in_ok-bits.ensures.row) lt
