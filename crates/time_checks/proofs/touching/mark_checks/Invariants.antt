use Rattle.std.proofs.Common.{◌≡◌, ◌≤◌, take}
use Rattle.std.specs.Vec.{vec_capacity}
use Rattle.fan_round.specs.Work.{with_readers, AreMarked}
use Rattle.time_checks.specs.Watching.{taken_fan}
use Rattle.time_checks.proofs.touching.mark_checks.Given as goal

abbrev pub invariant-loop-net : goal.invariant-loop-net
invariant-loop-net l = record {
  marks : l.marks ≡ with_readers (taken_fan l.watches l.last l.values l.index) (take l.net-index l.changed) l.fn.marks;
  marked : AreMarked l.marks l.list.items;
  capacity : vec_capacity l.fn.list ≤ vec_capacity l.list;
}
