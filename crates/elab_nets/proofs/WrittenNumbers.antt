-- Numbers that are written at places of a row, one after another, with as many nets.
use Rattle.std.specs.Prelude.{◌≡◌, ◌⊎◌, ℕ, zero, suc, ◌+◌, ◌-◌, ◌<◌, ◌==◌, List, [], ◌∷◌, ◌++◌, Bool, true, false, Option, Some, length, map, drop, slice_get, set, refl}
use Rattle.std.specs.List.{range_with_len}
use Rattle.std.proofs.Common.{sym, ◌∙◌, ap, arith, inl, inr, subst, get_or, drop-cons, add-zero, length-append}
use Rattle.sg_text.specs.declared.refusals.Refused.{Refused}
use Rattle.elab_model.specs.declared.kinds.ElabKind.{ElabKind}
use Rattle.elab_numbering.specs.Refusals.{RefusesCount}
use Rattle.std.proofs.lemmas.Bool.{eqb-true}
use Rattle.std.proofs.lemmas.Bool.Decides.{nat_tests}
use Rattle.elab_laws.specs.Words.{In}
use Rattle.elab_nets.specs.Written.{AreRightOrAmong, AreMeant}

-- one more is there
pub one-longer : {A : Type 0} (xs new : List A) (x : A) (start k : ℕ) → new ≡ xs ++ x ∷ [] → length xs ≡ start + k → length new ≡ start + (k + 1)
one-longer xs new x start k n e = let s : (start + k) + 1 ≡ start + (k + 1) = omega arith in ap length n ∙ length-append xs (x ∷ []) ∙ ap (λ l. l + 1) e ∙ s

-- what is refused with so many more to come is refused for all
pub too-many : (r : Refused ElabKind) (now start k places : ℕ) → now ≡ start + k → k < places → ((more : ℕ) → RefusesCount (now + 1 + more) r) → RefusesCount (start + places) r
too-many r now start k places e lt h =
    let s : now + 1 + (places - (k + 1)) ≡ start + places = omega arith in
    subst (λ n. RefusesCount n r) s (h (places - (k + 1)))

-- what is written stands there, and the rest stays
get-written : {A : Type 0} (xs : List A) (i : ℕ) (y o : A) → slice_get (set xs i y) i ≡ Some o → o ≡ y
get-written [] i y o e = cc
get-written (x ∷ xs) zero y o e = cc
get-written (x ∷ xs) (suc i) y o e = get-written xs i y o e

get-kept : {A : Type 0} (xs : List A) (i j : ℕ) (y : A) → ((j ≡ i) → ⊥) → slice_get (set xs i y) j ≡ slice_get xs j
get-kept [] i j y h = refl
get-kept (x ∷ xs) zero zero y h = absurd (h refl)
get-kept (x ∷ xs) zero (suc j) y h = refl
get-kept (x ∷ xs) (suc i) zero y h = refl
get-kept (x ∷ xs) (suc i) (suc j) y h = get-kept xs i j y (λ e. h (ap suc e))

-- one is written, which is meant there
one-written : (meant : ℕ → Option ℕ) (p n : ℕ) (places : List ℕ) (row : List (Option ℕ)) → meant p ≡ Some n → AreRightOrAmong meant (p ∷ places) row → AreRightOrAmong meant places (set row p (Some n))
one-written meant p n places row is h i o e = by (i == p) refl
  where
    other : ((i ≡ p) → ⊥) → (o ≡ meant i) ⊎ In i places
    other differs =
        elim (h i o (sym (get-kept row p i (Some n) differs) ∙ e)) [
          | inl r ↦ inl r
          | inr (inl same) ↦ absurd (differs same)
          | inr (inr later) ↦ inr later
        ]

    by : (b : Bool) → (i == p) ≡ b → (o ≡ meant i) ⊎ In i places
    by true t =
        let same : i ≡ p = eqb-true i p t in
        let there : slice_get (set row p (Some n)) p ≡ Some o = ap (slice_get (set row p (Some n))) (sym same) ∙ e in
        inl (get-written row p (Some n) o there ∙ sym is ∙ ap meant (sym same))
    by false t = other (λ same. grind (arith, nat_tests))

-- the number that is meant at a place
meant-at : (meant : ℕ → Option ℕ) (next : ℕ) (places : List ℕ) (k d : ℕ) → k < length places → AreMeant meant next places → meant (get_or places k d) ≡ Some (next + k)
meant-at meant next [] k d lt e = absurd (omega arith)
meant-at meant next (p ∷ places) zero d lt e = ap (first (Some next)) e ∙ ap (λ n. Some n) (sym (add-zero next))
  where
    first : Option ℕ → List (Option ℕ) → Option ℕ
    first o [] = o
    first o (n ∷ ns) = n
meant-at meant next (p ∷ places) (suc k) d lt e =
    let n : (next + 1) + k ≡ next + suc k = omega arith in
    meant-at meant (next + 1) places k d (omega arith) (ap rest e) ∙ ap (λ n. Some n) n
  where
    rest : List (Option ℕ) → List (Option ℕ)
    rest [] = []
    rest (n ∷ ns) = ns

-- one place fewer is left
pub fewer-left : (meant : ℕ → Option ℕ) (next n : ℕ) (places : List ℕ) (k d : ℕ) (row : List (Option ℕ)) → k < length places → n ≡ next + k → AreMeant meant next places
    → AreRightOrAmong meant (drop k places) row → AreRightOrAmong meant (drop (k + 1) places) (set row (get_or places k d) (Some n))
fewer-left meant next n places k d row lt is all h =
    let s : suc k ≡ k + 1 = omega arith in
    let left : drop k places ≡ get_or places k d ∷ drop (k + 1) places = drop-cons places k d lt ∙ ap (λ j. get_or places k d ∷ drop j places) s in
    one-written meant (get_or places k d) n (drop (k + 1) places) row (meant-at meant next places k d lt all ∙ ap (λ n. Some n) (sym is)) (subst (λ ps. AreRightOrAmong meant ps row) left h)

all-right : (meant : ℕ → Option ℕ) (a : ℕ) (row : List (Option ℕ)) → ((i : ℕ) (o : Option ℕ) → slice_get row i ≡ Some o → o ≡ meant (a + i)) → row ≡ map meant (range_with_len a (length row))
all-right meant a [] h = refl
all-right meant a (o ∷ row) h =
    let here : o ≡ meant a = h 0 o refl ∙ ap meant (add-zero a) in
    let there = all-right meant (a + 1) row (λ i x e. let s : a + suc i ≡ (a + 1) + i = omega arith in h (suc i) x e ∙ ap meant s) in
    ap (λ y. y ∷ row) here ∙ ap (λ ys. meant a ∷ ys) there

-- no place is left
pub none-left : (meant : ℕ → Option ℕ) (places : List ℕ) (row : List (Option ℕ)) → places ≡ [] → AreRightOrAmong meant places row → row ≡ map meant (range_with_len 0 (length row))
none-left meant places row e h = all-right meant 0 row (λ i o at. let z : i ≡ 0 + i = omega arith in right i o at ∙ ap meant z)
  where
    right : (i : ℕ) (o : Option ℕ) → slice_get row i ≡ Some o → o ≡ meant i
    right i o at = elim (subst (λ ps. (o ≡ meant i) ⊎ In i ps) e (h i o at)) [ inl r ↦ r | inr r ↦ absurd r ]
