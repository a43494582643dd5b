-- What is there, followed by what is left, is the whole.
use Rattle.std.proofs.Common.{◌≡◌, ◌++◌, List, All, map, drop}
use Rattle.std.specs.Prelude.{filter_map}
use Rattle.elab_bits.specs.Seen.{IsInRow, view_bit}
use Rattle.elab_model.specs.Names.{Variable}
use Rattle.elab_model.specs.Terms.{net_bit}
use Rattle.elab_ends.specs.Seen.{bits_seen, AreInRow}
use Rattle.elab_ends.proofs.terms.add_places.Given as goal

abbrev pub invariant-loop-bit : goal.invariant-loop-bit
invariant-loop-bit l =
    ((vs : List Variable) → bits_seen vs l.places.items ++ filter_map net_bit (map (view_bit vs) (drop l.bit-index l.bits)) ≡ bits_seen vs l.initial.places.items ++ filter_map net_bit (map (view_bit vs) l.bits))
    × ((vs : List Variable) → All (IsInRow vs) l.bits → AreInRow vs l.initial.places.items → AreInRow vs l.places.items)
