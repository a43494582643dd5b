-- One group more.
use Rattle.std.proofs.Common.{arith, length}
use Rattle.std.proofs.lemmas.List.{length-drop}
use Rattle.tally_violations.proofs.GroupLaws.{group_told, within_more}
use Rattle.tally_violations.proofs.figures.push_groups.Goals as goal

pub loop-first-preserved : goal.loop-first-preserved
loop-first-preserved c = record {
  within = within_more c.loop-first.at c.same_len-size.result c.args.ordered.now c.in-Some.rest.now c.in-Some.first.now c.in-Some.ensures.cases.0 c.same_len-size.ensures.within;
  told = group_told _ _ _ c.loop-first.at c.same_len-size.result c.args.ordered.now c.in-Some.rest.now c.in-Some.first.now c.in-Some.ensures.cases.0 c.same_len-size.ensures.size c.in_ok-push_group.ensures c.loop-first.invariant.told;
}
