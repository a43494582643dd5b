-- How deep parentheses stand within one another, over all tokens of a file.
use Rattle.std.specs.Prelude.{◌≡◌, ℕ, suc, ◌-◌, ◌+◌, ◌<◌, ◌≤◌, List, [], ◌∷◌, take, Some, slice_get}
use Rattle.sdf_lex.specs.Tokens.{Meaning, Lexeme, left_token, right_token}

-- how many are open behind a token; one that closes nothing counts for nothing
abbrev pub depth_behind : ℕ → Meaning → ℕ
depth_behind depth left_token = suc depth
depth_behind depth right_token = depth - 1
depth_behind depth _ = depth

-- and behind several
abbrev pub depth_from : ℕ → List Lexeme → ℕ
depth_from depth [] = depth
depth_from depth (t ∷ ts) = depth_from (depth_behind depth t.meaning) ts

-- with the token at i more than 32 are open
abbrev pub Exceeds : List Lexeme → ℕ → Type 0
Exceeds ts i = (t : Lexeme) × (slice_get ts i ≡ Some t) × (32 < depth_from 0 (take (i + 1) ts))

-- and with none before
abbrev pub IsTooDeep : List Lexeme → ℕ → Type 0
IsTooDeep ts i = Exceeds ts i × ((j : ℕ) → j < i → Exceeds ts j → ⊥)

abbrev pub NoneTooDeep : List Lexeme → Type 0
NoneTooDeep ts = (i : ℕ) → Exceeds ts i → ⊥

-- behind a depth, none of these tokens is too deep
abbrev pub AreShallow : ℕ → List Lexeme → Type 0
AreShallow depth [] = Unit {0}
AreShallow depth (t ∷ ts) = (depth_behind depth t.meaning ≤ 32) × AreShallow (depth_behind depth t.meaning) ts
