-- The legs and paths so far are there.
use Rattle.std.proofs.Common.{◌≤◌, length}
use Rattle.sg_circuit.specs.Seen.{circuit_seen}
use Rattle.annotation_places.specs.Indexes.{nothing, Holds, stands_in}
use Rattle.annotation_places.proofs.place_indexes.spots_by_scope.Given as goal

abbrev pub invariant-loop-number : goal.invariant-loop-number
invariant-loop-number l = record {
  reached : l.number ≤ length l.spots;
  holds : Holds nothing l.index (stands_in (circuit_seen l.parts)) l.number;
}
