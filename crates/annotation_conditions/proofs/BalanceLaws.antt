-- A list of tokens is balanced where the count of open parentheses says so.
use Rattle.std.proofs.Common.{◌≡◌, refl, sym, ap, ◌∙◌, ℕ, zero, suc, ◌+◌, ◌≤◌, List, [], ◌∷◌, Option, Some, None, unwrap_or, take, arith}
use Rattle.std.specs.Prelude.{true}
use Rattle.std.proofs.lemmas.Bool.Decides.{nat_tests}
use Rattle.cond_expr.specs.Token.{Tok}
use Rattle.cond_expr.specs.declared.tokens.Tok.TheVariants as tok
use Rattle.cond_expr.specs.Same.{lefts, rights, IsBalanced}
use Rattle.cond_expr.proofs.Cores.{lefts-append, rights-append}
use Rattle.annotation_model.specs.Same.{open_behind, is_zero, is_balanced}

-- Behind n open parentheses no front closes more than are open, and m are open at the end.
record Opens (n : ℕ) (ts : List Tok) (m : ℕ) : Type 0 where
  pub fronts : (k : ℕ) → rights (take k ts) ≤ n + lefts (take k ts)
  pub whole : rights ts + m ≡ n + lefts ts

one_before : (t : Tok) (ts : List Tok) (n after m : ℕ) → rights (t ∷ []) + after ≡ n + lefts (t ∷ []) → Opens after ts m → Opens n (t ∷ ts) m
one_before t ts n after m passes o = record {
  fronts = fronts;
  whole = omega (arith, passes, o.whole, lefts-append (t ∷ []) ts, rights-append (t ∷ []) ts);
}
  where
    fronts : (k : ℕ) → rights (take k (t ∷ ts)) ≤ n + lefts (take k (t ∷ ts))
    fronts zero = omega arith
    fronts (suc k) = omega (arith, passes, o.fronts k, lefts-append (t ∷ []) (take k ts), rights-append (t ∷ []) (take k ts))

one_behind : (t : Tok) (ts : List Tok) (n after m : ℕ) → rights (t ∷ []) + after ≡ n + lefts (t ∷ []) → Opens n (t ∷ ts) m → Opens after ts m
one_behind t ts n after m passes o = record {
  fronts = λ k. let f = o.fronts (suc k) in omega (arith, passes, f, lefts-append (t ∷ []) (take k ts), rights-append (t ∷ []) (take k ts));
  whole = omega (arith, passes, o.whole, lefts-append (t ∷ []) ts, rights-append (t ∷ []) ts);
}

none_open : (ts : List Tok) → open_behind None ts ≡ None
none_open [] = refl
none_open (t ∷ ts) = none_open ts

some_is : (n m : ℕ) → Some n ≡ Some m → n ≡ m
some_is n m e = ap (λ (o : Option ℕ). unwrap_or o 0) e

none_is : (m : ℕ) → ◌≡◌ {A = Option ℕ} None (Some m) → ⊥
none_is m e = absurd cc

no_tokens : (n : ℕ) → (k : ℕ) → rights (take k []) ≤ n + lefts (take k [])
no_tokens n zero = omega arith
no_tokens n (suc k) = omega arith

-- what is counted as open is open
counted : (n m : ℕ) (ts : List Tok) → open_behind (Some n) ts ≡ Some m → Opens n ts m
counted n m [] e = record { fronts = no_tokens n; whole = omega (arith, some_is n m e) }
counted n m (tok.Left ∷ ts) e = one_before tok.Left ts n (suc n) m (omega arith) (counted (suc n) m ts e)
counted zero m (tok.Right ∷ ts) e = absurd (none_is m (sym (none_open ts) ∙ e))
counted (suc n) m (tok.Right ∷ ts) e = one_before tok.Right ts (suc n) n m (omega arith) (counted n m ts e)
counted n m (tok.Name name ∷ ts) e = one_before (tok.Name name) ts n n m (omega arith) (counted n m ts e)
counted n m (tok.Index index ∷ ts) e = one_before (tok.Index index) ts n n m (omega arith) (counted n m ts e)
counted n m (tok.Const value ∷ ts) e = one_before (tok.Const value) ts n n m (omega arith) (counted n m ts e)
counted n m (tok.Op op ∷ ts) e = one_before (tok.Op op) ts n n m (omega arith) (counted n m ts e)

-- what is open is counted
open_is_counted : (n m : ℕ) (ts : List Tok) → Opens n ts m → open_behind (Some n) ts ≡ Some m
open_is_counted n m [] o = ap Some (omega (arith, o.whole))
open_is_counted n m (tok.Left ∷ ts) o = open_is_counted (suc n) m ts (one_behind tok.Left ts n (suc n) m (omega arith) o)
open_is_counted zero m (tok.Right ∷ ts) o = absurd (omega (arith, o.fronts 1))
open_is_counted (suc n) m (tok.Right ∷ ts) o = open_is_counted n m ts (one_behind tok.Right ts (suc n) n m (omega arith) o)
open_is_counted n m (tok.Name name ∷ ts) o = open_is_counted n m ts (one_behind (tok.Name name) ts n n m (omega arith) o)
open_is_counted n m (tok.Index index ∷ ts) o = open_is_counted n m ts (one_behind (tok.Index index) ts n n m (omega arith) o)
open_is_counted n m (tok.Const value ∷ ts) o = open_is_counted n m ts (one_behind (tok.Const value) ts n n m (omega arith) o)
open_is_counted n m (tok.Op op ∷ ts) o = open_is_counted n m ts (one_behind (tok.Op op) ts n n m (omega arith) o)

zero_is : (o : Option ℕ) → is_zero o ≡ true → o ≡ Some 0
zero_is None e = absurd cc
zero_is (Some n) e = ap Some (grind (arith, nat_tests))

pub balanced_if_counted : (ts : List Tok) → is_balanced ts ≡ true → IsBalanced ts
balanced_if_counted ts e =
    let o = counted 0 0 ts (zero_is (open_behind (Some 0) ts) e) in
    record { fronts = λ k. omega (arith, o.fronts k); whole = omega (arith, o.whole) }

pub counted_if_balanced : (ts : List Tok) → IsBalanced ts → is_balanced ts ≡ true
counted_if_balanced ts b = ap is_zero (open_is_counted 0 0 ts (record { fronts = λ k. omega (arith, b.fronts k); whole = omega (arith, b.whole) }))
