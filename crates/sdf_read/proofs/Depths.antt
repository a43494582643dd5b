-- Counting the parentheses that are open, token by token.
use Rattle.std.proofs.Common.{◌≡◌, ℕ, zero, suc, ◌+◌, ◌<◌, ◌≤◌, Bool, true, false, List, [], ◌∷◌, take, Some, None, refl, sym, ap, ◌∙◌, arith, inl, inr, subst}
use Rattle.std.specs.Prelude.{slice_get, ◌↔◌, IsTrue}
use Rattle.std.proofs.lemmas.Bool.{cases_lt}
use Rattle.sdf_lex.specs.Tokens.{Lexeme}
use Rattle.sdf_read.specs.Depth.{depth_behind, depth_from, Exceeds, IsTooDeep, NoneTooDeep}

one_more : (d : ℕ) (ts : List Lexeme) (i : ℕ) (t : Lexeme) → slice_get ts i ≡ Some t → depth_from d (take (suc i) ts) ≡ depth_behind (depth_from d (take i ts)) t.meaning
one_more d [] i t e = absurd cc
one_more d (x ∷ xs) zero t e = let same : x ≡ t = cc in ap (λ (y : Lexeme). depth_behind d y.meaning) same
one_more d (x ∷ xs) (suc i) t e = one_more (depth_behind d x.meaning) xs i t e

pub not_deep : (b : Bool) (depth : ℕ) → IsTrue b ↔ (32 < depth) → b ≡ false → depth ≤ 32
not_deep b depth h e = elim (cases_lt 32 depth) [
  | inl lt ↦ let f : true ≡ false = sym (h.1 lt) ∙ e in absurd cc
  | inr ge ↦ ge
]

-- So many tokens were looked at, and so many parentheses are open behind them, never more than 32.
pub record Looked (ts : List Lexeme) (i depth : ℕ) : Type 0 where
  pub is : depth ≡ depth_from 0 (take i ts)
  pub few : depth ≤ 32
  pub before : (j : ℕ) → j < i → Exceeds ts j → ⊥

pub at_first : (ts : List Lexeme) → Looked ts 0 0
at_first ts = record { is = refl; few = omega arith; before = λ j lt. absurd (omega (arith, lt)) }

module _ (ts : List Lexeme) (i depth behind : ℕ) (so_far : Looked ts i depth) (t : Lexeme) (at : slice_get ts i ≡ Some t) (is : behind ≡ depth_behind depth t.meaning) where
  here : behind ≡ depth_from 0 (take (i + 1) ts)
  here =
      let next : suc i ≡ i + 1 = omega arith in
      is ∙ (ap (λ (d : ℕ). depth_behind d t.meaning) so_far.is ∙ (sym (one_more 0 ts i t at) ∙ ap (λ (n : ℕ). depth_from 0 (take n ts)) next))

  pub goes_on : behind ≤ 32 → Looked ts (i + 1) behind
  goes_on few = record { is = here; few = few; before = before }
    where
      before : (j : ℕ) → j < i + 1 → Exceeds ts j → ⊥
      before j lt e = elim (cases_lt j i) [
        | inl less ↦ so_far.before j less e
        | inr ge ↦ let same : j ≡ i = omega (arith, lt, ge) in let f : 32 < depth_from 0 (take (i + 1) ts) = subst (λ (k : ℕ). 32 < depth_from 0 (take (k + 1) ts)) same e.2 in omega (arith, few, f, here)
      ]

  pub too_deep : 32 < behind → IsTooDeep ts i
  too_deep lt = ((t, at, omega (arith, lt, here)), so_far.before)

pub none_left : (ts : List Lexeme) (i depth : ℕ) → Looked ts i depth → slice_get ts i ≡ None → NoneTooDeep ts
none_left ts i depth so_far none j e = elim (cases_lt j i) [
  | inl less ↦ so_far.before j less e
  | inr ge ↦ past ts i j none ge e.0 e.1
]
  where
    past : (ts : List Lexeme) (i j : ℕ) → slice_get ts i ≡ None → i ≤ j → (t : Lexeme) → slice_get ts j ≡ Some t → ⊥
    past [] i j none ge t e = cc
    past (x ∷ xs) zero j none ge t e = cc
    past (x ∷ xs) (suc i) zero none ge t e = omega (arith, ge)
    past (x ∷ xs) (suc i) (suc j) none ge t e = past xs i j none (omega (arith, ge)) t e
