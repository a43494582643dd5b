-- All that is cleared is the driver's list, and it gets shorter.
use Rattle.std.proofs.Common.{◌≡◌, ◌<◌, ◌≤◌, [], length}
use Rattle.sg_model.specs.Agenda.{list_at, with_list}
use Rattle.event_wheel.proofs.agenda.clear_from.Given as goal

abbrev pub invariant-loop-wheel : goal.invariant-loop-wheel
invariant-loop-wheel g l = record {
  table : with_list l.wheel.lists l.driver [] ≡ with_list l.fn.wheel.lists l.driver [];
  driver : l.driver < length l.wheel.lists;
  spare : l.fn.wheel.spare ≤ l.wheel.spare;
  buckets : l.wheel.buckets ≡ l.fn.wheel.buckets;
}

abbrev pub decreases-loop-wheel : goal.decreases-loop-wheel
decreases-loop-wheel g l = length (list_at l.wheel.lists l.driver)
