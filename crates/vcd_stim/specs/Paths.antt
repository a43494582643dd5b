-- How much of the path of a scope is read in open scopes.
use Rattle.std.specs.Prelude.{ℕ, ◌+◌, ◌-◌, ◌==◌, nat_le, nat_eq, Bool, false, List, [], ◌∷◌, ◌++◌, drop, length, slice_get, Option, Some, None, option_and_then, if◌then◌else◌}
use Rattle.std.specs.List.{starts_with}

-- where a front of a text ends once a piece more is read, if that stands there
abbrev pub goes_on : List ℕ → ℕ → List ℕ → Option ℕ
goes_on text at piece = if nat_le at (length text) then (if starts_with nat_eq (drop at text) piece then Some (at + length piece) else None) else None

abbrev pub inner_front : List ℕ → List ℕ → Option ℕ → Option ℕ
inner_front scope name outer = option_and_then (λ at. goes_on scope at name) (option_and_then (λ at. goes_on scope at (46 ∷ [])) outer)

-- within the outer scope, if there is one
abbrev pub next_front : List ℕ → Option (Option ℕ) → List ℕ → Option ℕ
next_front scope None name = goes_on scope 0 name
next_front scope (Some outer) name = inner_front scope name outer

-- the innermost stands last
abbrev pub last_front : List (Option ℕ) → Option (Option ℕ)
last_front fs = slice_get fs (length fs - 1)

-- of open scopes, the outermost first, how much of the path each reads
abbrev pub fronts : List ℕ → List (List ℕ) → List (Option ℕ)
fronts scope [] = []
fronts scope (n ∷ ns) = fronts scope ns ++ next_front scope (last_front (fronts scope ns)) n ∷ []

abbrev pub is_whole_front : List ℕ → Option ℕ → Bool
is_whole_front scope None = false
is_whole_front scope (Some read) = read == length scope

abbrev pub is_whole_last : List ℕ → Option (Option ℕ) → Bool
is_whole_last scope None = false
is_whole_last scope (Some front) = is_whole_front scope front
