-- What is there, followed by what is left, is the whole.
use Rattle.std.proofs.Common.{◌≡◌, ◌++◌, map, drop}
use Rattle.std.specs.List.{filter}
use Rattle.elab_nets.specs.Inputs.{is_input_at}
use Rattle.elab_nets.proofs.inputs.add_constants.Given as goal

abbrev pub invariant-loop-constant : goal.invariant-loop-constant
invariant-loop-constant l =
    (l.places.items ++ filter (is_input_at l.table) (map (λ c. c.bit) (drop l.constant-index l.constants)) ≡ l.initial.places.items ++ filter (is_input_at l.table) (map (λ c. c.bit) l.constants))
