-- Tokens have the same code where they are the same.
use Rattle.std.proofs.Common.{◌≡◌, refl, sym, ◌∙◌, ap, ℕ, suc, List, [], ◌∷◌, ◌++◌, length, slice_index_or, arith, ℤ, pos, negsuc, neg_ℤ, true, false}
use Rattle.std.proofs.lemmas.Int.{ints}
use Rattle.std.specs.Prelude.{◌==◌, if◌then◌else◌, unsigned_abs, int_lt}
use Rattle.sg_logic.specs.declared.values.Value.{Value}
use Rattle.sg_logic.specs.declared.values.Value.TheVariants.{Zero, One, X, Z}
use Rattle.cond_expr.specs.declared.tokens.Op.{Op}
use Rattle.cond_expr.specs.declared.tokens.Op.TheVariants as op
use Rattle.cond_expr.specs.declared.tokens.Tok.TheVariants as tok
use Rattle.cond_expr.specs.Token.{Tok}
use Rattle.written_faults.specs.Codes.{value_number, operator_number, index_tag, word_code, token_tag, token_numbers, tokens_code}

-- ---- words

parts : (xs ys us vs : List ℕ) → length xs ≡ length ys → xs ++ us ≡ ys ++ vs → (xs ≡ ys) × (us ≡ vs)
parts [] [] us vs l e = (refl, e)
parts [] (y ∷ ys) us vs l e = absurd (omega (arith, l))
parts (x ∷ xs) [] us vs l e = absurd (omega (arith, l))
parts (x ∷ xs) (y ∷ ys) us vs l e =
    let head : x ≡ y = cc in
    let tail : xs ++ us ≡ ys ++ vs = cc in
    let rest = parts xs ys us vs (omega (arith, l)) tail in
    (ap (λ z. z ∷ xs) head ∙ ap (λ zs. y ∷ zs) rest.0, rest.1)

words : (s t : ℕ) (xs ys us vs : List ℕ) → word_code s xs ++ us ≡ word_code t ys ++ vs → (s ≡ t) × (xs ≡ ys) × (us ≡ vs)
words s t xs ys us vs e =
    let tag : s ≡ t = cc in
    let long : length xs ≡ length ys = cc in
    let rest : xs ++ us ≡ ys ++ vs = cc in
    let p = parts xs ys us vs long rest in
    (tag, p.0, p.1)

-- ---- tokens

abbrev value_of : ℕ → Value
value_of n = slice_index_or (Zero ∷ One ∷ X ∷ Z ∷ []) n X

abbrev operator_of : ℕ → Op
operator_of n =
    slice_index_or
    (op.Tilde ∷ op.Bang ∷ op.And ∷ op.Or ∷ op.Xor ∷ op.Equal ∷ op.Unequal ∷ op.CaseEqual ∷ op.CaseUnequal ∷ op.TildeXor ∷ op.XorTilde ∷ op.AndAnd ∷ op.OrOr ∷ []) n op.Tilde

abbrev first : List ℕ → ℕ
first ns = slice_index_or ns 0 0

abbrev token_of : ℕ → List ℕ → Tok
token_of tag ns =
    if tag == 0 then tok.Name ns else if tag == 1 then tok.Index (pos (first ns)) else if tag == 2 then tok.Index (neg_ℤ (pos (first ns)))
    else if tag == 3 then tok.Const (value_of (first ns)) else if tag == 4 then tok.Op (operator_of (first ns)) else if tag == 5 then tok.Left else tok.Right

value-back : (v : Value) → value_of (value_number v) ≡ v
value-back Zero = refl
value-back One = refl
value-back X = refl
value-back Z = refl

operator-back : (o : Op) → operator_of (operator_number o) ≡ o
operator-back op.Tilde = refl
operator-back op.Bang = refl
operator-back op.And = refl
operator-back op.Or = refl
operator-back op.Xor = refl
operator-back op.Equal = refl
operator-back op.Unequal = refl
operator-back op.CaseEqual = refl
operator-back op.CaseUnequal = refl
operator-back op.TildeXor = refl
operator-back op.XorTilde = refl
operator-back op.AndAnd = refl
operator-back op.OrOr = refl

index-back : (i : ℤ) → token_of (index_tag i) (unsigned_abs i ∷ []) ≡ tok.Index i
index-back (pos n) = ap (λ b. token_of (if b then 2 else 1) (n ∷ [])) above
  where
    above : int_lt (pos n) (pos 0) ≡ false
    above = grind (arith, ints)
index-back (negsuc n) = ap (λ b. token_of (if b then 2 else 1) (suc n ∷ [])) below
  where
    below : int_lt (negsuc n) (pos 0) ≡ true
    below = grind (arith, ints)

token-back : (t : Tok) → token_of (token_tag t) (token_numbers t) ≡ t
token-back (tok.Name name) = refl
token-back (tok.Index i) = index-back i
token-back (tok.Const value) = ap (λ v. tok.Const v) (value-back value)
token-back (tok.Op operator) = ap (λ o. tok.Op o) (operator-back operator)
token-back tok.Left = refl
token-back tok.Right = refl

-- ---- lists of tokens

pub same_tokens : (xs ys : List Tok) → tokens_code xs ≡ tokens_code ys → xs ≡ ys
same_tokens [] [] e = refl
same_tokens [] (y ∷ ys) e = absurd cc
same_tokens (x ∷ xs) [] e = absurd cc
same_tokens (x ∷ xs) (y ∷ ys) e =
    let w = words (token_tag x) (token_tag y) (token_numbers x) (token_numbers y) (tokens_code xs) (tokens_code ys) e in
    let head : x ≡ y = sym (token-back x) ∙ (ap (λ n. token_of n (token_numbers x)) w.0 ∙ ap (token_of (token_tag y)) w.1 ∙ token-back y) in
    ap (λ t. t ∷ xs) head ∙ ap (λ ts. y ∷ ts) (same_tokens xs ys w.2)
