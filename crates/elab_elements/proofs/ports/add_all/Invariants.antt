-- What is there, followed by what is left, is the whole.
use Rattle.std.proofs.Common.{◌≤◌, ◌^◌, length, flat_map, drop}
use Rattle.elab_elements.specs.Words.{port_puts}
use Rattle.elab_elements.proofs.Putting.{Completes}
use Rattle.elab_elements.proofs.ports.add_all.Given as goal

abbrev pub invariant-loop-constant : goal.invariant-loop-constant
invariant-loop-constant l = record {
  few : length l.made.elements.items ≤ 2 ^ 22;
  left : Completes l.initial.made (flat_map (port_puts l.scope l.table l.leaf l.inner l.outer) l.constants) l.made
      (flat_map (port_puts l.scope l.table l.leaf l.inner l.outer) (drop l.constant-index l.constants));
}
