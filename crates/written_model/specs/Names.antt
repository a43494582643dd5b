-- What names are written in an SDF file (IEEE 1497-2001, the clause on identifiers).
use Rattle.std.specs.Prelude.{ℕ, zero, suc, ◌==◌, ℤ, pos, ◌+ℤ◌, ◌-ℤ◌, int_le, List, [], ◌∷◌, ◌++◌, length, Option, Some, None, codes, flat_map, unwrap_or, if◌then◌else◌}
use Rattle.std.specs.Char.{is_ascii_digit}
use Rattle.std.specs.Fmt.{signed_decimal}
use Rattle.std.specs.List.{position_from}
use Rattle.std.specs.Option.{option_map}
use Rattle.sg_text.specs.Names.{is_name_byte}
use Rattle.sg_circuit.specs.declared.scopes.Range.{Range}
use Rattle.sg_circuit.specs.Circuit.{Circuit, Variable, scope_at}

-- ---- spelling

-- a byte stands behind a backslash where it is none of a plain name's
abbrev pub escaped : ℕ → List ℕ
escaped b = if is_name_byte b then b ∷ [] else 92 ∷ b ∷ []

-- and at the front where it is a digit, so that no name is a number or a constant
abbrev pub first_escaped : ℕ → List ℕ
first_escaped b = if is_ascii_digit b then 92 ∷ b ∷ [] else escaped b

abbrev pub name_text : List ℕ → List ℕ
name_text [] = []
name_text (b ∷ bs) = first_escaped b ++ flat_map escaped bs

-- a bit select
abbrev pub index_text : Option ℤ → List ℕ
index_text None = []
index_text (Some i) = codes "[" ++ (signed_decimal i ++ codes "]")

-- names with the divider `/` between
abbrev pub names_text : List (List ℕ) → List ℕ
names_text [] = []
names_text (n ∷ []) = name_text n
names_text (n ∷ m ∷ more) = name_text n ++ (codes "/" ++ names_text (m ∷ more))

-- ---- nets

-- a variable's name and, of a vector, the index of one of its bits
pub record BitName : Type 0 where
  pub name : List ℕ
  pub index : Option ℤ

-- the index of the bit at a position from the left (IEEE 1364-2005, 4.3.1)
abbrev pub index_at : Range → ℕ → ℤ
index_at r k = if int_le r.right r.left then r.left -ℤ pos k else r.left +ℤ pos k

abbrev pub bit_at : Variable → ℕ → BitName
bit_at v k = record { name = v.name; index = option_map (λ (r : Range). index_at r k) v.range }

-- how a variable names a net, if it has it
abbrev pub named_by : Variable → ℕ → Option BitName
named_by v net = option_map (bit_at v) (position_from (λ n. n == net) 0 v.bits)

-- how the first of a scope's variables that has a net names it
abbrev pub name_of : List Variable → ℕ → BitName
name_of [] net = record { name = []; index = None }
name_of (v ∷ vs) net = unwrap_or (named_by v net) (name_of vs net)

-- ---- scopes

-- the top, which has no parent, isn't named
abbrev pub below : (ℕ → List (List ℕ)) → List ℕ → Option ℕ → List (List ℕ)
below path name None = []
below path name (Some parent) = path parent ++ name ∷ []

-- the names that lead from the top to a scope, no more of them than the turns (IEEE 1497-2001, cell instances)
abbrev pub names_in : ℕ → Circuit → ℕ → List (List ℕ)
names_in zero c s = []
names_in (suc turns) c s = below (names_in turns c) (scope_at c s).name (scope_at c s).parent

abbrev pub names_to : Circuit → ℕ → List (List ℕ)
names_to c s = names_in (length c.scopes) c s
