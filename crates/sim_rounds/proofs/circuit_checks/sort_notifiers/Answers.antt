use Rattle.std.specs.Prelude.{length, map}
use Rattle.std.proofs.lemmas.List.Sorted.{IsNonDecreasingBy-from_sort}
use Rattle.time_checks.specs.Seen.{violation_seen}
use Rattle.time_checks.proofs.TouchLaws.{marks-moved}
use Rattle.sim_rounds.proofs.NotifierLaws.{sorted_numbers}
use Rattle.sim_rounds.proofs.circuit_checks.sort_notifiers.Goals as goal

pub returns-clause-marked : goal.returns-clause-marked
returns-clause-marked c = marks-moved c.mark_notifiers.new.marks c.mark_notifiers.new.list.items c.sort_unstable.new.self.items c.sort_unstable.ensures.permutation c.mark_notifiers.ensures.marked

pub returns-clause-list : goal.returns-clause-list
returns-clause-list c =
    sorted_numbers c.args.checks.now (map (λ v. violation_seen v) c.args.violations.now) c.args.marks.now c.mark_notifiers.new.marks c.sort_unstable.new.self.items (length c.args.marks.now) c.requires.none c.mark_notifiers.auto.marks
    (marks-moved c.mark_notifiers.new.marks c.mark_notifiers.new.list.items c.sort_unstable.new.self.items c.sort_unstable.ensures.permutation c.mark_notifiers.ensures.marked)
    (IsNonDecreasingBy-from_sort (λ x. x) c.sort_unstable.new.self.items c.sort_unstable.ensures.sorted) c.mark_notifiers.ensures.marks
