-- The tokens of a condition as numbers: of each a tag, how many numbers follow, and these.
use Rattle.std.specs.Prelude.{ℕ, ℤ, pos, List, [], ◌∷◌, length, flat_map, unsigned_abs, int_lt, if◌then◌else◌}
use Rattle.sg_logic.specs.declared.values.Value.{Value}
use Rattle.sg_logic.specs.declared.values.Value.TheVariants.{Zero, One, X, Z}
use Rattle.cond_expr.specs.declared.tokens.Op.{Op}
use Rattle.cond_expr.specs.declared.tokens.Op.TheVariants as op
use Rattle.cond_expr.specs.declared.tokens.Tok.TheVariants as tok
use Rattle.cond_expr.specs.Token.{Tok}

abbrev pub value_number : Value → ℕ
value_number Zero = 0
value_number One = 1
value_number X = 2
value_number Z = 3

abbrev pub operator_number : Op → ℕ
operator_number op.Tilde = 0
operator_number op.Bang = 1
operator_number op.And = 2
operator_number op.Or = 3
operator_number op.Xor = 4
operator_number op.Equal = 5
operator_number op.Unequal = 6
operator_number op.CaseEqual = 7
operator_number op.CaseUnequal = 8
operator_number op.TildeXor = 9
operator_number op.XorTilde = 10
operator_number op.AndAnd = 11
operator_number op.OrOr = 12

abbrev pub index_tag : ℤ → ℕ
index_tag i = if int_lt i (pos 0) then 2 else 1

abbrev pub word_code : (tag : ℕ) → List ℕ → List ℕ
word_code tag numbers = tag ∷ length numbers ∷ numbers

abbrev pub token_tag : Tok → ℕ
token_tag (tok.Name name) = 0
token_tag (tok.Index i) = index_tag i
token_tag (tok.Const value) = 3
token_tag (tok.Op operator) = 4
token_tag tok.Left = 5
token_tag tok.Right = 6

abbrev pub token_numbers : Tok → List ℕ
token_numbers (tok.Name name) = name
token_numbers (tok.Index i) = unsigned_abs i ∷ []
token_numbers (tok.Const value) = value_number value ∷ []
token_numbers (tok.Op operator) = operator_number operator ∷ []
token_numbers tok.Left = []
token_numbers tok.Right = []

abbrev pub token_code : Tok → List ℕ
token_code t = word_code (token_tag t) (token_numbers t)

abbrev pub tokens_code : List Tok → List ℕ
tokens_code ts = flat_map token_code ts
