-- What is there, followed by what is left, is the whole.
use Rattle.std.proofs.Common.{◌≡◌, ◌++◌, ◌-◌, map}
use Rattle.std.specs.List.{range_with_len}
use Rattle.elab_nets.specs.Inputs.{bound_at, number_in}
use Rattle.elab_nets.proofs.outside.add_numbers.Given as goal

abbrev pub invariant-loop-place : goal.invariant-loop-place
invariant-loop-place l =
    (l.outer.items ++ map (λ i. number_in l.row (bound_at l.bits i)) (range_with_len l.place (l.count - l.place))
    ≡ l.initial.outer.items ++ map (λ i. number_in l.row (bound_at l.bits i)) (range_with_len 0 l.count))
