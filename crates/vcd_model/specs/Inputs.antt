-- Which variables of a dump stand for inputs of the circuit (IEEE 1364-2005, 18.2.3.4, 18.2.3.6, 18.2.3.8).
use Rattle.std.specs.Prelude.{ℕ, ◌==◌, ◌+◌, ◌&&◌, Bool, false, List, [], ◌∷◌, ◌++◌, length, filter_map, drop, take, reverse, nat_lt, bytes_eq, Option, Some, None, if◌then◌else◌}
use Rattle.std.specs.List.{list_any}
use Rattle.sg_circuit.specs.Circuit.{Circuit, Variable}
use Rattle.vcd_form.specs.Kinds.{is_range_text}
use Rattle.vcd_form.specs.Written.{Declaration, Section, declares, enters, leaves, remark, timescale}
use Rattle.stim_read.specs.Inputs.{input_named, nets_of}

-- a name without the `\` of an escaped one
abbrev pub bare : List ℕ → List ℕ
bare [] = []
bare (b ∷ bs) = if b == 92 then bs else b ∷ bs

-- the names of open scopes, the innermost first, joined by points
abbrev pub path : List (List ℕ) → List ℕ
path [] = []
path (n ∷ []) = n
path (n ∷ m ∷ ns) = path (m ∷ ns) ++ (46 ∷ n)

-- the scopes that are open behind a section
abbrev pub scopes_after : List (List ℕ) → Section → List (List ℕ)
scopes_after scopes remark = scopes
scopes_after scopes (timescale power) = scopes
scopes_after scopes (enters name) = bare name ∷ scopes
scopes_after scopes leaves = drop 1 scopes
scopes_after scopes (declares d) = scopes

-- each section, with the scopes that are open before it
abbrev pub with_scopes : List (List ℕ) → List Section → List (List (List ℕ) × Section)
with_scopes scopes [] = []
with_scopes scopes (s ∷ ss) = (scopes, s) ∷ with_scopes (scopes_after scopes s) ss

abbrev pub placed_sections : List Section → List (List (List ℕ) × Section)
placed_sections ss = with_scopes [] ss

-- whether some section opens a scope of a path
abbrev pub opens_at : List ℕ → List (List ℕ) → Section → Bool
opens_at scope scopes (enters name) = bytes_eq (path (bare name ∷ scopes)) scope
opens_at scope scopes _ = false

abbrev pub has_scope : List ℕ → List Section → Bool
has_scope scope ss = list_any (λ p. opens_at scope p.0 p.1) (placed_sections ss)

-- the declarations in scopes of that path
abbrev pub is_at : List ℕ → List (List ℕ) → Bool
is_at scope [] = false
is_at scope (n ∷ ns) = bytes_eq (path (n ∷ ns)) scope

abbrev pub declared_at : List ℕ → List (List ℕ) → Section → Option Declaration
declared_at scope scopes (declares d) = if is_at scope scopes then Some d else None
declared_at scope scopes _ = None

abbrev pub own : List ℕ → List Section → List Declaration
own scope ss = filter_map (λ p. declared_at scope p.0 p.1) (placed_sections ss)

-- all declarations
abbrev pub declared : Section → Option Declaration
declared (declares d) = Some d
declared _ = None

abbrev pub all_declared : List Section → List Declaration
all_declared ss = filter_map declared ss

-- ---- names

-- a name, and its range as it is written
abbrev pub Called : Type 0
Called = List ℕ × Option (List ℕ)

-- where a range stands at the end of a plain name: behind the first byte, from the last `[` on
abbrev pub last_bracket : ℕ → ℕ → List ℕ → ℕ
last_bracket found at [] = found
last_bracket found at (b ∷ bs) = last_bracket (if b == 91 then at else found) (at + 1) bs

abbrev pub front_len : List ℕ → ℕ
front_len text = last_bracket 0 0 text

abbrev pub split_name : List ℕ → Called
split_name text =
    let n = front_len text in
    if nat_lt 0 n && is_range_text (drop n text) then (take n text, Some (drop n text)) else (text, None)

-- an escaped name, and one with a range apart, stand whole
abbrev pub called_by : List ℕ → Option (List ℕ) → Called
called_by name (Some range) = (bare name, Some range)
called_by [] None = ([], None)
called_by (b ∷ bs) None = if b == 92 then (bs, None) else split_name (b ∷ bs)

abbrev pub called : Declaration → Called
called d = called_by d.name d.range

-- what is between the brackets, if it is one number
abbrev pub inside : List ℕ → List ℕ
inside range = reverse (drop 1 (reverse (drop 1 range)))

abbrev pub has_colon : List ℕ → Bool
has_colon text = list_any (λ b. b == 58) text

abbrev pub index_of : Option (List ℕ) → Option (List ℕ)
index_of None = None
index_of (Some range) = if has_colon range then None else Some (inside range)

-- ---- inputs

-- The nets that a declaration of an input stands for, left first: all bits, or the one of the index. None where the width isn't theirs.
abbrev pub of_width : ℕ → Option (List ℕ) → Option (List ℕ)
of_width width None = None
of_width width (Some nets) = if length nets == width then Some nets else None

abbrev pub nets_at : Declaration → Variable → Option (List ℕ)
nets_at d v = of_width d.width (nets_of (index_of (called d).1) v)

-- the input that a declaration stands for, if there is one
abbrev pub input_of : Circuit → Declaration → Option Variable
input_of circuit d = input_named circuit (called d).0
