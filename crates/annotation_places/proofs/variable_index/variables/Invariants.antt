-- Those of the scopes so far are there.
use Rattle.std.proofs.Common.{◌≤◌, length}
use Rattle.sg_circuit.specs.Seen.{circuit_seen}
use Rattle.annotation_places.specs.Indexes.{HoldsVariables}
use Rattle.annotation_places.proofs.variable_index.variables.Given as goal

abbrev pub invariant-loop-number : goal.invariant-loop-number
invariant-loop-number l = record {
  reached : l.number ≤ length l.parts.scopes.items;
  holds : HoldsVariables (circuit_seen l.parts) l.index l.number;
}
