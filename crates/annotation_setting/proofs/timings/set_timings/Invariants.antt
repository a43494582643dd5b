-- The new timings so far are set, and there is room for the others.
use Rattle.std.proofs.Common.{◌≡◌, ◌≤◌, length, take, drop, is_some}
use Rattle.std.specs.List.{filter}
use Rattle.annotation_setting.specs.Timings.{with_timings}
use Rattle.annotation_setting.proofs.timings.set_timings.Given as goal

abbrev pub invariant-loop-index : goal.invariant-loop-index
invariant-loop-index l = record {
  circuit : l.opened.circuit ≡ with_timings (take l.index l.timings) l.fn.opened.circuit;
  room : length (filter (λ t. is_some t) (drop l.index l.timings)) ≤ l.opened.room;
}
