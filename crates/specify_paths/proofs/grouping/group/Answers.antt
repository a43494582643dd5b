-- One more path is grouped.
use Rattle.std.specs.Prelude.{[], take}
use Rattle.std.proofs.Common.{sym, ◌∙◌, ap}
use Rattle.std.proofs.lemmas.List.{take_all}
use Rattle.specify_paths.specs.Words.{first_to_each, grouped, outputs_in, style_at}
use Rattle.specify_paths.proofs.Added.{taken}
use Rattle.specify_paths.proofs.grouping.group.Goals as goal

pub loop-path-preserved : goal.loop-path-preserved
loop-path-preserved c =
    let next = c.in_ok-add_path.ensures (take c.loop-path.path-index c.args.paths.now) c.loop-path.invariant.0 c.loop-path.invariant.1 in
    let more = taken c.args.paths.now c.loop-path.path-index c.path-item.result c.loop-path-test.true c.path-item.is in
    (next.0 ∙ ap (λ ps. outputs_in (first_to_each [] ps)) (sym more), next.1 ∙ ap (grouped (style_at c.args.styles.now)) (sym more))

pub returns : goal.returns
returns c = c.loop-path.invariant.1 ∙ ap (grouped (style_at c.args.styles.now)) (take_all c.loop-path.path-index c.args.paths.now c.loop-path-test.false)
