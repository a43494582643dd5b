-- What is there, followed by what is left, is the whole.
use Rattle.std.proofs.Common.{◌≤◌, ◌-◌, ◌^◌, length, map, flat_map}
use Rattle.std.specs.List.{range_with_len}
use Rattle.vl_tree.specs.Seen.{view_name}
use Rattle.elab_elements.specs.Words.{port_legs}
use Rattle.elab_elements.proofs.Putting.{Completes}
use Rattle.elab_elements.proofs.legs.add_all_legs.Given as goal

abbrev pub invariant-loop-variable : goal.invariant-loop-variable
invariant-loop-variable l = record {
  few : length l.made.elements.items ≤ 2 ^ 22;
  left : Completes l.initial.made (flat_map (port_legs l.scope (map view_name l.ports) l.place l.table l.inner l.outer) (range_with_len 0 (length l.table - 0))) l.made
      (flat_map (port_legs l.scope (map view_name l.ports) l.place l.table l.inner l.outer) (range_with_len l.variable (length l.table - l.variable)));
}
