-- What holds of all conditions, as statements.
use Rattle.std.specs.Prelude.{◌≡◌, ◌↔◌, ℕ, List, length}
use Rattle.cond_expr.specs.Token.{Tok}
use Rattle.cond_expr.specs.Tree.{Cond}
use Rattle.cond_expr.specs.Grammar.{expression, FailsConditionAt, IsCondition}
use Rattle.cond_expr.specs.Same.{IsCore}
use Rattle.cond_expr.specs.Vocabulary.{own_words, words_of_condition}

-- tokens spell one condition at most, whatever the depth
abbrev pub OneCondition : Type 0
OneCondition =
    (ts : List Tok) (d e : ℕ) (x y : Cond ℕ) → (expression d).language.Spells ts 0 x (length ts) → (expression e).language.Spells ts 0 y (length ts) → x ≡ y

-- one token fails at most
abbrev pub OneFailingToken : Type 0
OneFailingToken = (ts : List Tok) (e f : ℕ) → FailsConditionAt ts e → FailsConditionAt ts f → e ≡ f

-- a list has one core at most
abbrev pub OneCore : Type 0
OneCore = (ts a b : List Tok) → IsCore ts a → IsCore ts b → a ≡ b

-- a condition's own tokens are its words: they spell themselves alone, and exactly where they are a condition
abbrev pub OwnWords : Type 0
OwnWords = (ts xs : List Tok) → (words_of_condition own_words).Spells ts 0 xs (length ts) ↔ ((xs ≡ ts) × IsCondition ts)
