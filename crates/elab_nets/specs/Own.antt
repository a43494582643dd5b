-- The nets of an instance's own, and the numbers of its bits, from what lies outside them.
use Rattle.std.specs.Prelude.{ℕ, List, [], ◌∷◌, Bool, ◌&&◌, Option, Some, None, if◌then◌else◌}
use Rattle.sg_circuit.specs.declared.nets.Net.{Net}
use Rattle.sg_circuit.specs.declared.nets.Driver.TheVariants.{Nobody}
use Rattle.elab_model.specs.Bits.{index_at}
use Rattle.elab_model.specs.Homes.{is_input}
use Rattle.elab_model.specs.Names.{Variable}

-- a bit is given the number of what lies outside, but where a Leg stands: at the inputs of a leaf
abbrev pub given_in : Bool → Variable × ℕ → Option ℕ → Option ℕ
given_in leaf b o = if is_input b.0.port && leaf then None else o

abbrev pub given_row : Bool → List (Variable × ℕ) → List (Option ℕ) → List (Option ℕ)
given_row leaf [] os = []
given_row leaf (b ∷ bs) [] = []
given_row leaf (b ∷ bs) (o ∷ os) = given_in leaf b o ∷ given_row leaf bs os

-- the nets of the bits that are given none
abbrev pub net_at : ℕ → Variable × ℕ → Net
net_at scope b = record { scope = scope; name = b.0.name; bit = index_at b.0.range b.1; driver = Nobody }

abbrev pub new_nets : ℕ → List (Variable × ℕ) → List (Option ℕ) → List Net
new_nets scope [] os = []
new_nets scope (b ∷ bs) [] = []
new_nets scope (b ∷ bs) (None ∷ os) = net_at scope b ∷ new_nets scope bs os
new_nets scope (b ∷ bs) (Some n ∷ os) = new_nets scope bs os
