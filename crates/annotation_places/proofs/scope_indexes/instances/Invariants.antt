-- The scopes so far are there.
use Rattle.std.proofs.Common.{◌≤◌, length}
use Rattle.sg_circuit.specs.Seen.{circuit_seen}
use Rattle.annotation_places.specs.Indexes.{nothing, Holds, is_inside}
use Rattle.annotation_places.proofs.scope_indexes.instances.Given as goal

abbrev pub invariant-loop-number : goal.invariant-loop-number
invariant-loop-number l = record {
  reached : l.number ≤ length l.parts.scopes.items;
  holds : Holds nothing l.index (is_inside (circuit_seen l.parts)) l.number;
}
