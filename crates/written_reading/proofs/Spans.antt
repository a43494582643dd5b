-- Where tokens stand whose meanings are known.
use Rattle.std.specs.Prelude.{◌≡◌, ℕ, ◌+◌, List, [], ◌∷◌, ◌++◌, Some, slice_get}
use Rattle.std.proofs.Common.{refl}
use Rattle.sdf_lex.specs.Tokens.{Meaning, Lexeme}

abbrev pub IsAt : List Lexeme → ℕ → Meaning → Type 0
IsAt ts i m = (t : Lexeme) × (slice_get ts i ≡ Some t) × (t.meaning ≡ m)

-- from i up to j the tokens mean these
abbrev pub Spans : List Lexeme → ℕ → List Meaning → ℕ → Type 0
Spans ts i [] j = j ≡ i
Spans ts i (m ∷ ms) j = IsAt ts i m × Spans ts (i + 1) ms j

pub record Split (ts : List Lexeme) (i : ℕ) (ms ns : List Meaning) (j : ℕ) : Type 0 where
  pub middle : ℕ
  pub front : Spans ts i ms middle
  pub back : Spans ts middle ns j

pub split : (ts : List Lexeme) (i : ℕ) (ms ns : List Meaning) (j : ℕ) → Spans ts i (ms ++ ns) j → Split ts i ms ns j
split ts i [] ns j s = record { middle = i; front = refl; back = s }
split ts i (m ∷ ms) ns j s = let p = split ts (i + 1) ms ns j s.1 in record { middle = p.middle; front = (s.0, p.front); back = p.back }
