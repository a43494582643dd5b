-- The constants of a port that is connected, by their places in the row.
use Rattle.std.specs.Prelude.{◌≡◌, ℕ, ◌+◌, ◌<◌, List, [], ◌∷◌, ◌++◌, All, Option, Some, None, length, flat_map}
use Rattle.std.specs.List.{enumerate_from}
use Rattle.vl_tree.specs.Tree.{Expression}
use Rattle.elab_model.specs.Bits.{Bit, net, constant, bits}
use Rattle.elab_model.specs.Names.{Variable}
use Rattle.elab_laws.specs.Handing.{all_bits}
use Rattle.elab_bits.specs.declared.bits.Bit as code_bit
use Rattle.elab_bits.specs.declared.bits.Bit.TheVariants as bit
use Rattle.elab_ports.specs.declared.constants.PortConstant as code
use Rattle.elab_ports.specs.Binding.{room_at}

-- a constant among the code's bits, which begin at a place of the row
abbrev pub code_constant : ℕ → ℕ × code_bit.Bit → List code.PortConstant
code_constant start (p, bit.Net i) = []
code_constant start (p, bit.Constant at v) = record { bit = start + p; place = at; value = v } ∷ []

abbrev pub code_constants : ℕ → List code_bit.Bit → List code.PortConstant
code_constants start bs = flat_map (code_constant start) (enumerate_from 0 bs)

-- the same of the definition's bits
abbrev pub placed_constant : ℕ → ℕ × Bit → List code.PortConstant
placed_constant start (p, net m q) = []
placed_constant start (p, constant at v) = record { bit = start + p; place = at; value = v } ∷ []

abbrev pub placed_from : Option ℕ → List Bit → List code.PortConstant
placed_from None bs = []
placed_from (Some start) bs = flat_map (placed_constant start) (enumerate_from 0 bs)

abbrev pub placed_constants : List Variable → List Variable → List ℕ × Expression → List code.PortConstant
placed_constants vs child e = placed_from (room_at child e.0 (length (bits vs e.1))) (bits vs e.1)

abbrev pub HavePlaces : List Variable → List code.PortConstant → Type 0
HavePlaces child cs = All (λ c. c.bit < length (all_bits child)) cs

-- the constants of ports that are connected, added to others
pub record Places (vs child : List Variable) (es : List (List ℕ × Expression)) (old new : List code.PortConstant) : Type 0 where
  pub added : new ≡ old ++ flat_map (placed_constants vs child) es
  pub row : HavePlaces child old → HavePlaces child new
