-- What is there, followed by what is left, is the whole.
use Rattle.std.proofs.Common.{◌≡◌, ◌++◌, ◌-◌, length}
use Rattle.std.specs.List.{filter, range_with_len}
use Rattle.elab_laws.specs.Handing.{all_bits}
use Rattle.elab_nets.specs.Inputs.{is_free_at}
use Rattle.elab_nets.proofs.inputs.add_free.Given as goal

abbrev pub invariant-loop-place : goal.invariant-loop-place
invariant-loop-place l =
    (l.places.items ++ filter (is_free_at l.table l.bits) (range_with_len l.place (length (all_bits l.table) - l.place))
    ≡ l.initial.places.items ++ filter (is_free_at l.table l.bits) (range_with_len 0 (length (all_bits l.table))))
