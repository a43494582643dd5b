use Rattle.std.proofs.lemmas.List.Sorted.{IsNonDecreasingBy-from_sort}
use Rattle.time_checks.proofs.TouchLaws.{marks-moved}
use Rattle.time_checks.proofs.touching.sort_checks.Goals as goal

pub returns-clause-marked : goal.returns-clause-marked
returns-clause-marked c = marks-moved c.mark_checks.new.marks c.mark_checks.new.list.items c.sort_unstable.new.self.items c.sort_unstable.ensures.permutation c.mark_checks.ensures.marked

pub returns-clause-sorted : goal.returns-clause-sorted
returns-clause-sorted c = IsNonDecreasingBy-from_sort (λ x. x) c.sort_unstable.new.self.items c.sort_unstable.ensures.sorted
