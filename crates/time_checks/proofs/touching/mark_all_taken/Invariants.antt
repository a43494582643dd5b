use Rattle.std.proofs.Common.{◌≡◌, ◌≤◌, take}
use Rattle.std.specs.List.{filter}
use Rattle.std.specs.Vec.{vec_capacity}
use Rattle.fan_round.specs.Work.{with_marks, AreMarked}
use Rattle.time_checks.specs.Watching.{takes}
use Rattle.time_checks.proofs.touching.mark_all_taken.Given as goal

abbrev pub invariant-loop-number : goal.invariant-loop-number
invariant-loop-number l = record {
  marks : l.marks ≡ with_marks (filter (takes l.watches l.net l.change) (take l.number-index l.numbers)) l.fn.marks;
  marked : AreMarked l.marks l.list.items;
  capacity : vec_capacity l.fn.list ≤ vec_capacity l.list;
}
