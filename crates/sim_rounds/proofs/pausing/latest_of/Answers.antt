use Rattle.std.proofs.Common.{arith}
use Rattle.time_checks.specs.Events.{latest_since}
use Rattle.time_checks.specs.Violations.{earlier_at, latest_events}
use Rattle.sim_rounds.proofs.PausingLaws.{each_more, each_whole}
use Rattle.sim_rounds.proofs.pausing.latest_of.Goals as goal

pub loop-check-preserved : goal.loop-check-preserved
loop-check-preserved c = λ snapshots stands.
    let checker = c.args.checker.now in
    each_more (λ number check. latest_since (earlier_at checker.earlier number) check snapshots) checker.checks c.loop-check.check _ c.loop-check.latest.items c.push.new.self.items (latest_events checker.earlier checker.checks snapshots) c.latest.result
    (omega (arith, c.loop-check-test.true, c.requires)) (c.latest.ensures snapshots stands) (c.loop-check.invariant snapshots stands) c.in_ok-push.ensures.items

pub returns : goal.returns
returns c = λ snapshots stands.
    let checker = c.args.checker.now in
    each_whole (λ number check. latest_since (earlier_at checker.earlier number) check snapshots) checker.checks c.loop-check.check c.loop-check.latest.items (latest_events checker.earlier checker.checks snapshots)
    (omega (arith, c.loop-check-test.false, c.requires)) (c.loop-check.invariant snapshots stands)
