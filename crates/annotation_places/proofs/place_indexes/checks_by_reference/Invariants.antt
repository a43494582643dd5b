-- The checks so far are there.
use Rattle.std.proofs.Common.{◌≤◌, length}
use Rattle.sg_circuit.specs.Seen.{circuit_seen}
use Rattle.annotation_places.specs.Indexes.{nothing, Holds, refers_to}
use Rattle.annotation_places.proofs.place_indexes.checks_by_reference.Given as goal

abbrev pub invariant-loop-number : goal.invariant-loop-number
invariant-loop-number l = record {
  reached : l.number ≤ length l.parts.checks.items;
  holds : Holds nothing l.index (refers_to (circuit_seen l.parts)) l.number;
}
