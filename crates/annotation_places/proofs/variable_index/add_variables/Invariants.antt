-- The variables so far are there.
use Rattle.std.proofs.Common.{◌≤◌, length, map}
use Rattle.sg_circuit.specs.Seen.{variable_seen}
use Rattle.annotation_index.specs.Index.{list_at}
use Rattle.annotation_places.specs.Indexes.{Holds, is_called}
use Rattle.annotation_places.proofs.variable_index.add_variables.Given as goal

abbrev pub invariant-loop-place : goal.invariant-loop-place
invariant-loop-place l = record {
  reached : l.place ≤ length l.variables;
  holds : Holds (list_at l.initial.index) l.index (is_called l.scope (map (λ v. variable_seen v) l.variables)) l.place;
}
