use Rattle.std.proofs.Common.{map}
use Rattle.time_checks.specs.declared.violations.Violation.{Violation}
use Rattle.time_checks.specs.AdjustedSeen.{all_seen}
use Rattle.time_checks.specs.Seen.{violation_seen}
use Rattle.time_checks.proofs.ListLaws.{continues-more}
use Rattle.time_checks.proofs.SeeingLaws.{found_more, latest_more}
use Rattle.time_checks.proofs.seeing.see_checks.Goals as goal

pub loop-number-preserved : goal.loop-number-preserved
loop-number-preserved c = record {
  latest = latest_more (all_seen c.args.checks.now) c.args.last.now c.args.values.now c.args.time c.args.work.now c.loop-number.number-index 0 c.args.latest.now c.loop-number.latest c.see_check.new.latest c.loop-number-test.true c.loop-number.invariant.latest c.see_check.ensures.latest;
  found = found_more (all_seen c.args.checks.now) c.args.last.now c.args.values.now c.args.time c.args.work.now c.loop-number.number-index 0 c.args.latest.now c.loop-number.latest
      (map (λ (v : Violation). violation_seen v) c.args.violations.now.items) (map (λ (v : Violation). violation_seen v) c.loop-number.violations.items) (map (λ (v : Violation). violation_seen v) c.see_check.new.violations.items)
      c.requires.once c.loop-number-test.true c.loop-number.invariant.latest c.loop-number.invariant.found c.in_ok-see_check.ensures.found;
  kept = continues-more c.args.violations.now.items c.loop-number.violations.items c.see_check.new.violations.items c.loop-number.invariant.kept c.see_check.ensures.kept;
}
