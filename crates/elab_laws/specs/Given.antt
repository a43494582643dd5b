-- What the bits of a variable are given, from the bits of what its port is bound to.
use Rattle.std.specs.Prelude.{◌≡◌, ℕ, List, Option, Some, None, map, replicate, length, if◌then◌else◌}
use Rattle.std.specs.Option.{option_map}
use Rattle.elab_laws.specs.Handing.{given_by}
use Rattle.elab_model.specs.Bits.{Bit, bits}
use Rattle.elab_model.specs.Connections.{connection_at}
use Rattle.elab_model.specs.Hierarchy.{Step}
use Rattle.elab_model.specs.Homes.{is_shared}
use Rattle.elab_model.specs.Names.{variables}
use Rattle.elab_model.specs.Ports.{port_list}
use Rattle.vl_tree.specs.Tree.{Source}

abbrev pub number_of_bit : (List ℕ → ℕ → ℕ) → Bit → Option ℕ
number_of_bit number b = given_by number (Some b)

-- the bits that a name is bound to, where its nets are those of the parent
abbrev pub bound_bits : Source → Step → Step → List ℕ → Option (List Bit)
bound_bits source s parent n =
    if is_shared source s n then option_map (λ e. bits (variables parent.definition) e) (connection_at s.connections (port_list s.definition) n) else None

abbrev pub given_bits : (List ℕ → ℕ → ℕ) → ℕ → Option (List Bit) → List (Option ℕ)
given_bits number w None = replicate w None
given_bits number w (Some bs) = map (number_of_bit number) bs

-- a variable is bound to as many bits as it has
abbrev pub IsAsWide : ℕ → Option (List Bit) → Type 0
IsAsWide w None = Unit {0}
IsAsWide w (Some bs) = length bs ≡ w
