-- The bits of terminals, as the code adds them: outputs left, and inputs right.
use Rattle.std.specs.Prelude.{◌≡◌, ℕ, List, ◌++◌, map, flat_map, take, drop}
use Rattle.std.specs.List.{All}
use Rattle.vl_tree.specs.Tree.{Expression}
use Rattle.elab_model.specs.Bits.{Bit, bits}
use Rattle.elab_model.specs.Elements.{only_bit}
use Rattle.elab_model.specs.Names.{Variable}
use Rattle.elab_bits.specs.Seen.{view_bit, IsInRow}
use Rattle.elab_elements.specs.declared.terminals.Terminals.{Terminals}

-- the bits of so many outputs, and of what stands behind them, by the variables of the module
abbrev pub outputs_of : List Variable → (outputs : ℕ) → List Expression → List Bit
outputs_of vs outputs es = flat_map (λ e. only_bit (bits vs e)) (take outputs es)

abbrev pub inputs_of : List Variable → (outputs : ℕ) → List Expression → List Bit
inputs_of vs outputs es = flat_map (bits vs) (drop outputs es)

-- these come behind those that were there
pub record AddsTerminals (vs : List Variable) (outputs : ℕ) (es : List Expression) (old new : Terminals) : Type 0 where
  pub left : map (view_bit vs) new.left.items ≡ map (view_bit vs) old.left.items ++ outputs_of vs outputs es
  pub right : map (view_bit vs) new.right.items ≡ map (view_bit vs) old.right.items ++ inputs_of vs outputs es

abbrev pub AreBitsInRow : List Variable → Terminals → Type 0
AreBitsInRow vs t = All (IsInRow vs) t.left.items × All (IsInRow vs) t.right.items
