-- What a port that is connected writes into the row of what the bits are bound to.
use Rattle.std.specs.Prelude.{◌≡◌, ℕ, ◌+◌, List, ◌++◌, All, IfSome, Option, Some, None, length, map, take, drop, nat_le, if◌then◌else◌}
use Rattle.std.specs.List.{fold}
use Rattle.std.specs.Option.{option_map}
use Rattle.vl_tree.specs.Tree.{Expression}
use Rattle.elab_model.specs.Bits.{Bit, bits}
use Rattle.elab_model.specs.Names.{Variable}
use Rattle.elab_laws.specs.Handing.{all_bits}
use Rattle.elab_variables.specs.Seen.{place_named}
use Rattle.elab_bits.specs.Seen.{view_bit, IsInRow}
use Rattle.elab_bits.specs.declared.bits.Bit as code_bit

-- the place of a port's first bit in the row, if so many bits have room from there on
abbrev pub room_from : List Variable → ℕ → Option ℕ → Option ℕ
room_from vs width None = None
room_from vs width (Some k) = if nat_le (length (all_bits (take k vs)) + width) (length (all_bits vs)) then Some (length (all_bits (take k vs))) else None

abbrev pub room_at : List Variable → List ℕ → ℕ → Option ℕ
room_at vs n width = room_from vs width (place_named vs n)

-- others in the place of some elements, from a place on
abbrev pub put : {A : Type 0} → ℕ → List A → List A → List A
put start ys xs = take start xs ++ (ys ++ drop (start + length ys) xs)

abbrev pub put_at : {A : Type 0} → Option ℕ → List A → List A → List A
put_at None ys xs = xs
put_at (Some start) ys xs = put start ys xs

-- a port that is connected takes the bits of its expression
abbrev pub bind : List Variable → List Variable → List (Option Bit) → List ℕ × Expression → List (Option Bit)
bind vs child xs e = put_at (room_at child e.0 (length (bits vs e.1))) (map Some (bits vs e.1)) xs

abbrev pub AreInRow : List Variable → List (Option code_bit.Bit) → Type 0
AreInRow vs xs = All (λ b. IfSome b (IsInRow vs)) xs

-- ports that are connected, written into a row
pub record Binds (vs child : List Variable) (es : List (List ℕ × Expression)) (old new : List (Option code_bit.Bit)) : Type 0 where
  pub bound : map (option_map (view_bit vs)) new ≡ fold (bind vs child) (map (option_map (view_bit vs)) old) es
  pub long : length new ≡ length old
  pub row : AreInRow vs old → AreInRow vs new
