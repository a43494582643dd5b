-- The groups, the unused waivers, and the counts.
use Rattle.std.proofs.lemmas.Result.{on_ok_weaker}
use Rattle.tally_violations.proofs.TextLaws.{figures_told}
use Rattle.tally_violations.proofs.figures.push_figures.Goals as goal

pub returns : goal.returns
returns c =
    on_ok_weaker c.push_counts.result
    (λ last. figures_told _ _ _ _ c.args.name.now c.args.all.now c.args.ordered.now c.args.waivers.now c.saturating_sub.result c.saturating_sub.ensures c.in_ok-push_groups.ensures c.in_ok-push_unused.ensures last)
    c.push_counts.ensures
