use Rattle.std.proofs.Common.{◌≡◌, map, take}
use Rattle.sg_model.specs.Values.{value_at}
use Rattle.sim_rounds.proofs.restoring.output_values.Given as goal

abbrev pub invariant-loop-element : goal.invariant-loop-element
invariant-loop-element l = l.values.items ≡ map (λ e. value_at l.nets e.output) (take l.element-index l.elements)
