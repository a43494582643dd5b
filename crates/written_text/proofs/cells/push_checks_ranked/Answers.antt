use Rattle.std.proofs.Common.{◌∙◌, ◌++◌, ap}
use Rattle.written_text.specs.Page.{check_lines_at}
use Rattle.written_text.proofs.BlockLaws.{flat_step}
use Rattle.written_text.proofs.CellLaws.{check_lines_is}
use Rattle.written_text.proofs.cells.push_checks_ranked.Goals as goal

pub loop-number-preserved : goal.loop-number-preserved
loop-number-preserved c =
    let i = c.loop-number.number-index in
    flat_step (check_lines_at c.args.page.now c.args.rank) c.args.checks.now i c.args.text.now.items c.loop-number.text.items c.push_check_if_ranked.new.text.items c.loop-number-test.true c.loop-number.invariant
    (c.in_ok-push_check_if_ranked.ensures ∙ ap (λ t. c.loop-number.text.items ++ t)
    (check_lines_is c.args.page.now c.requires.page c.args.rank _ c.index-timing.result.now c.index.result.now (c.requires.checks.within i 0 c.loop-number-test.true) c.index-timing.ensures c.index.ensures
    (c.requires.checks.scopes i 0 c.loop-number-test.true)))
