-- The operators of conditions (IEEE 1497-2001, the clause on conditional expressions) and their spellings.
use Rattle.std.specs.Prelude.{ℕ, List, [], ◌∷◌, Bool, Option, Some, None, is_some, codes, nat_eq, if◌then◌else◌}
use lib.Pointwise.{pointwise}
use Rattle.std.specs.Borrow.{Bor}
use Rattle.cond_expr.specs.declared.tokens.Op.{Op}
use Rattle.cond_expr.specs.declared.tokens.Op.TheVariants as op

-- an operator and its spelling
pub record Row : Type 0 where
  pub text : List ℕ
  pub operator : Op

abbrev pub spells : List ℕ → Op → Row
spells text operator = record { text = text; operator = operator }

unfoldable pub operator_rows : List Row
operator_rows =
    spells (codes "~") op.Tilde ∷ spells (codes "!") op.Bang ∷ spells (codes "&") op.And ∷ spells (codes "|") op.Or
    ∷ spells (codes "^") op.Xor ∷ spells (codes "==") op.Equal ∷ spells (codes "!=") op.Unequal
    ∷ spells (codes "===") op.CaseEqual ∷ spells (codes "!==") op.CaseUnequal ∷ spells (codes "~^") op.TildeXor
    ∷ spells (codes "^~") op.XorTilde ∷ spells (codes "&&") op.AndAnd ∷ spells (codes "||") op.OrOr ∷ []

-- the operator of the first of some rows with a spelling
abbrev pub operator_in : List ℕ → List Row → Option Op
operator_in text [] = None
operator_in text (r ∷ rs) = if pointwise nat_eq r.text text then Some r.operator else operator_in text rs

-- the operator that a text spells
unfoldable pub operator_of : List ℕ → Option Op
operator_of text = operator_in text operator_rows

abbrev pub is_operator : List ℕ → Bool
is_operator text = is_some (operator_of text)

-- a row of the code's table
abbrev pub row : Bor (List ℕ) × Op → Row
row r = record { text = r.0.now; operator = r.1 }
