use Rattle.std.proofs.Common.{◌≤◌, All, length, take}
use Rattle.sim_machine.proofs.elements.widest.Given as goal

abbrev pub invariant-loop-element : goal.invariant-loop-element
invariant-loop-element l = All (λ e. length e.inputs.items ≤ l.width) (take l.element-index l.elements)
