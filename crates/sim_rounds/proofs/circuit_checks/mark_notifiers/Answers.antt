use Rattle.std.specs.Prelude.{IfSome, All, length}
use Rattle.std.proofs.Common.{◌≡◌, ◌<◌, arith, subst}
use Rattle.sim_rounds.proofs.NotifierLaws.{named_more}
use Rattle.sim_rounds.proofs.circuit_checks.mark_notifiers.Goals as goal

pub mark_notifier-requires-clause-notifiers : goal.mark_notifier-requires-clause-notifiers
mark_notifier-requires-clause-notifiers c =
    let same : length c.args.marks.now ≡ length c.loop-violation.marks = (let a = c.loop-violation.auto.marks in omega arith) in
    subst (λ n. All (λ k. IfSome k.notifier (λ m. m < n)) c.args.checks.now) same c.requires.notifiers

pub loop-violation-preserved : goal.loop-violation-preserved
loop-violation-preserved c =
    let same : length c.args.marks.now ≡ length c.loop-violation.marks = (let a = c.loop-violation.auto.marks in omega arith) in
    record {
      marked = c.mark_notifier.ensures.marked;
      capacity = omega (arith, c.mark_notifier.ensures.capacity, c.loop-violation.invariant.capacity);
      marks = λ net l. named_more c.args.checks.now c.args.violations.now c.loop-violation.violation-index _ c.args.marks.now c.loop-violation.marks c.mark_notifier.new.marks net c.loop-violation-test.true (c.loop-violation.invariant.marks net l)
          (c.mark_notifier.ensures.marks net (subst (λ n. net < n) same l));
    }
