-- Tokens that the definition takes for the same are equal.
use Rattle.std.proofs.Common.{◌≡◌, refl, sym, ap, ◌∙◌, subst, ℕ, ℤ, List, [], ◌∷◌, slice_index_or, true, arith}
use Rattle.std.specs.Prelude.{◌==◌, ◌&&◌, int_le, nat_le, pos, negsuc}
use Rattle.std.specs.Bool.{Decides}
use Rattle.std.specs.Cmp.{unsigned_Decides}
use Rattle.std.proofs.lemmas.Bool.{and_parts}
use Rattle.std.proofs.lemmas.Bool.Decides.{nat_tests}
use Rattle.std.proofs.lemmas.Slice.Eq.{bytes_eq-Decides}
use Rattle.sg_logic.specs.declared.values.Value.{Value}
use Rattle.sg_logic.specs.declared.values.Value.TheVariants as value
use Rattle.sg_logic.specs.Values.{is_same}
use Rattle.cond_expr.specs.declared.tokens.Op.{Op}
use Rattle.cond_expr.specs.declared.tokens.Op.TheVariants as op
use Rattle.cond_expr.specs.Token.{Tok}
use Rattle.cond_expr.specs.declared.tokens.Tok.TheVariants as tok
use Rattle.annotation_model.specs.Same.{op_number, token_eq, tokens_eq}

-- ---- numbers, constants, operators

between : (a b : ℕ) → (nat_le a b && nat_le b a) ≡ true → a ≡ b
between a b e = grind (arith, nat_tests)

same_index : (i j : ℤ) → (int_le i j && int_le j i) ≡ true → i ≡ j
same_index (pos a) (pos b) e = ap pos (between a b e)
same_index (pos a) (negsuc b) e = absurd cc
same_index (negsuc a) (pos b) e = absurd cc
same_index (negsuc a) (negsuc b) e = ap negsuc (sym (between b a e))

index_itself : (i : ℤ) → (int_le i i && int_le i i) ≡ true
index_itself (pos a) = grind (arith, nat_tests)
index_itself (negsuc a) = grind (arith, nat_tests)

same_value : (v w : Value) → is_same v w ≡ true → v ≡ w
same_value value.Zero value.Zero e = refl
same_value value.One value.One e = refl
same_value value.X value.X e = refl
same_value value.Z value.Z e = refl
same_value v w e = absurd cc

value_itself : (v : Value) → is_same v v ≡ true
value_itself value.Zero = refl
value_itself value.One = refl
value_itself value.X = refl
value_itself value.Z = refl

op_of : ℕ → Op
op_of n = slice_index_or (op.Tilde ∷ op.Bang ∷ op.And ∷ op.Or ∷ op.Xor ∷ op.Equal ∷ op.Unequal ∷ op.CaseEqual ∷ op.CaseUnequal ∷ op.TildeXor ∷ op.XorTilde ∷ op.AndAnd ∷ op.OrOr ∷ []) n op.Tilde

op_back : (o : Op) → op_of (op_number o) ≡ o
unfolding op_of
op_back op.Tilde = refl
op_back op.Bang = refl
op_back op.And = refl
op_back op.Or = refl
op_back op.Xor = refl
op_back op.Equal = refl
op_back op.Unequal = refl
op_back op.CaseEqual = refl
op_back op.CaseUnequal = refl
op_back op.TildeXor = refl
op_back op.XorTilde = refl
op_back op.AndAnd = refl
op_back op.OrOr = refl

same_op : (o p : Op) → (op_number o == op_number p) ≡ true → o ≡ p
same_op o p e = sym (op_back o) ∙ ap op_of ((unsigned_Decides (op_number o) (op_number p)).0 e) ∙ op_back p

-- ---- tokens

same_token : (a b : Tok) → token_eq a b ≡ true → a ≡ b
same_token (tok.Name x) (tok.Name y) e = ap tok.Name ((bytes_eq-Decides x y).0 e)
same_token (tok.Index i) (tok.Index j) e = ap tok.Index (same_index i j e)
same_token (tok.Const v) (tok.Const w) e = ap tok.Const (same_value v w e)
same_token (tok.Op o) (tok.Op p) e = ap tok.Op (same_op o p e)
same_token tok.Left tok.Left e = refl
same_token tok.Right tok.Right e = refl
same_token a b e = absurd cc

token_itself : (a : Tok) → token_eq a a ≡ true
token_itself (tok.Name x) = (bytes_eq-Decides x x).1 refl
token_itself (tok.Index i) = index_itself i
token_itself (tok.Const v) = value_itself v
token_itself (tok.Op o) = (unsigned_Decides (op_number o) (op_number o)).1 refl
token_itself tok.Left = refl
token_itself tok.Right = refl

same_tokens : (xs ys : List Tok) → tokens_eq xs ys ≡ true → xs ≡ ys
same_tokens [] [] e = refl
same_tokens [] (y ∷ ys) e = absurd cc
same_tokens (x ∷ xs) [] e = absurd cc
same_tokens (x ∷ xs) (y ∷ ys) e =
    let p = and_parts (token_eq x y) (tokens_eq xs ys) e in
    ap (λ z. z ∷ xs) (same_token x y p.0) ∙ ap (λ zs. y ∷ zs) (same_tokens xs ys p.1)

tokens_themselves : (xs : List Tok) → tokens_eq xs xs ≡ true
tokens_themselves [] = refl
tokens_themselves (x ∷ xs) = ap (λ b. b && tokens_eq xs xs) (token_itself x) ∙ tokens_themselves xs

pub tokens_eq-decides : (xs ys : List Tok) → Decides (tokens_eq xs ys) (xs ≡ ys)
tokens_eq-decides xs ys = (same_tokens xs ys, λ e. subst (λ zs. tokens_eq xs zs ≡ true) e (tokens_themselves xs))
