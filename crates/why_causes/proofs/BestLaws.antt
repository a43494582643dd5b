-- Of some elements the first that none beats, and one pass that keeps the best so far.
use Rattle.std.specs.Prelude.{◌≡◌, Bool, true, false, cond, List, [], ◌∷◌, ◌++◌, filter, slice_get, Option, Some, None, refl}
use Rattle.std.specs.List.{list_all, AllByRecursion, cons_option}
use Rattle.std.proofs.Common.{sym, ◌∙◌, ap, subst, append_assoc, append-nil}
use Rattle.why_causes.specs.Best.{better_of}
use Rattle.why_causes.proofs.Lists.{each-append, each-weaker, all-from, all-mid-false, filter-none, filter-mid}

-- one beats another, and one is no better than another
pub record IsOrder {A : Type 0} (beats over : A → A → Bool) : Type 0 where
  pub itself : (a : A) → over a a ≡ true
  pub beaten : (a b : A) → beats a b ≡ true → (over b a ≡ true) × (over a b ≡ false)
  pub unbeaten : (a b : A) → beats a b ≡ false → over a b ≡ true
  pub through : (a b c : A) → beats a b ≡ true → beats b c ≡ true → beats a c ≡ true
  pub past : (a b c : A) → beats a b ≡ true → beats c b ≡ false → beats a c ≡ true

-- the elements are some that b beats, b, and some that don't beat b
pub record IsFirstBest {A : Type 0} (beats : A → A → Bool) (xs : List A) (b : A) : Type 0 where
  pub front : List A
  pub back : List A
  pub is : xs ≡ front ++ b ∷ back
  pub beaten : AllByRecursion (λ q. beats b q ≡ true) front
  pub unbeaten : AllByRecursion (λ q. beats q b ≡ false) back

first-one : {A : Type 0} (beats : A → A → Bool) (p : A) → IsFirstBest beats (p ∷ []) p
first-one beats p = record { front = []; back = []; is = refl; beaten = tt; unbeaten = tt }

-- one more that doesn't beat the best
first-stays : {A : Type 0} (beats : A → A → Bool) (xs : List A) (b p : A) → IsFirstBest beats xs b → beats p b ≡ false → IsFirstBest beats (xs ++ p ∷ []) b
first-stays beats xs b p h e = record {
  front = h.front;
  back = h.back ++ p ∷ [];
  is = ap (λ ys. ys ++ p ∷ []) h.is ∙ append_assoc h.front (b ∷ h.back) (p ∷ []);
  beaten = h.beaten;
  unbeaten = each-append (λ q. beats q b ≡ false) h.back (p ∷ []) h.unbeaten (e, tt);
}

-- one more that beats it
first-moves : {A : Type 0} (beats over : A → A → Bool) (order : IsOrder beats over) (xs : List A) (b p : A) → IsFirstBest beats xs b → beats p b ≡ true → IsFirstBest beats (xs ++ p ∷ []) p
first-moves beats over order xs b p h e = record {
  front = xs;
  back = [];
  is = refl;
  beaten = subst (λ ys. AllByRecursion (λ q. beats p q ≡ true) ys) (sym h.is)
      (each-append (λ q. beats p q ≡ true) h.front (b ∷ h.back)
      (each-weaker (λ q. beats b q ≡ true) (λ q. beats p q ≡ true) h.front (λ q k. order.through p b q e k) h.beaten)
      (e, each-weaker (λ q. beats q b ≡ false) (λ q. beats p q ≡ true) h.back (λ q k. order.past p b q e k) h.unbeaten));
  unbeaten = tt;
}

-- those that none beats
abbrev pub best : {A : Type 0} → (A → A → Bool) → List A → List A
best over xs = filter (λ x. list_all (λ y. over y x) xs) xs

first-is : {A : Type 0} (beats over : A → A → Bool) (order : IsOrder beats over) (xs : List A) (b : A) → IsFirstBest beats xs b → slice_get (best over xs) 0 ≡ Some b
first-is {A} beats over order xs b h =
    let test : A → Bool = λ x. list_all (λ y. over y x) xs in
    let passes : test b ≡ true = ap (list_all (λ y. over y b)) h.is ∙ all-from (λ y. over y b) (h.front ++ b ∷ h.back)
    (each-append (λ y. over y b ≡ true) h.front (b ∷ h.back)
    (each-weaker (λ q. beats b q ≡ true) (λ y. over y b ≡ true) h.front (λ q k. (order.beaten b q k).0) h.beaten)
    (order.itself b, each-weaker (λ q. beats q b ≡ false) (λ y. over y b ≡ true) h.back (λ q k. order.unbeaten q b k) h.unbeaten)) in
    let fail : AllByRecursion (λ x. test x ≡ false) h.front = each-weaker (λ q. beats b q ≡ true) (λ x. test x ≡ false) h.front
    (λ q k. ap (list_all (λ y. over y q)) h.is ∙ all-mid-false (λ y. over y q) h.front b h.back (order.beaten b q k).1) h.beaten in
    ap (λ ys. slice_get (filter test ys) 0) h.is
    ∙ (ap (λ ys. slice_get ys 0) (filter-mid test h.front b h.back passes) ∙ ap (λ ys. slice_get (ys ++ b ∷ filter test h.back) 0) (filter-none test h.front fail))

-- one pass from the best so far on
abbrev run : {A : Type 0} → (A → A → Bool) → Option A → List A → Option A
run beats so_far [] = so_far
run beats so_far (x ∷ xs) = run beats (better_of beats so_far (Some x)) xs

run-append : {A : Type 0} (beats : A → A → Bool) (so_far : Option A) (xs ys : List A) → run beats so_far (xs ++ ys) ≡ run beats (run beats so_far xs) ys
run-append beats so_far [] ys = refl
run-append beats so_far (x ∷ xs) ys = run-append beats (better_of beats so_far (Some x)) xs ys

-- what it comes to
record Ran {A : Type 0} (beats : A → A → Bool) (b : A) (before xs : List A) : Type 0 where
  result : A
  is : run beats (Some b) xs ≡ Some result
  first : IsFirstBest beats (before ++ xs) result

ran : {A : Type 0} (beats over : A → A → Bool) (order : IsOrder beats over) (b : A) (before xs : List A) → IsFirstBest beats before b → Ran beats b before xs
ran beats over order b before [] h = record { result = b; is = refl; first = subst (λ ys. IsFirstBest beats ys b) (sym (append-nil before)) h }
ran {A} beats over order b before (x ∷ xs) h = at (beats x b) refl
    (λ k. ran beats over order x (before ++ x ∷ []) xs (first-moves beats over order before b x h k))
    (λ k. ran beats over order b (before ++ x ∷ []) xs (first-stays beats before b x h k))
  where
    moved : (c : A) → (so_far : Option A) → so_far ≡ Some c → better_of beats (Some b) (Some x) ≡ so_far → Ran beats c (before ++ x ∷ []) xs → Ran beats b before (x ∷ xs)
    moved c so_far e k r = record {
      result = r.result;
      is = ap (λ o. run beats o xs) (k ∙ e) ∙ r.is;
      first = subst (λ ys. IsFirstBest beats ys r.result) (append_assoc before (x ∷ []) xs) r.first;
    }

    at : (c : Bool) → beats x b ≡ c → (beats x b ≡ true → Ran beats x (before ++ x ∷ []) xs) → (beats x b ≡ false → Ran beats b (before ++ x ∷ []) xs) → Ran beats b before (x ∷ xs)
    at true e yes_then no_then = moved x (Some x) refl (ap (λ d. cond d (Some x) (Some b)) e) (yes_then e)
    at false e yes_then no_then = moved b (Some b) refl (ap (λ d. cond d (Some x) (Some b)) e) (no_then e)

-- the first that none beats is what the pass comes to
first-run : {A : Type 0} (beats over : A → A → Bool) (order : IsOrder beats over) (xs : List A) → slice_get (best over xs) 0 ≡ run beats None xs
first-run beats over order [] = refl
first-run beats over order (x ∷ xs) =
    let r = ran beats over order x (x ∷ []) xs (first-one beats x) in
    first-is beats over order (x ∷ xs) r.result r.first ∙ sym r.is

-- one element more, if there is one
pub first-more : {A : Type 0} (beats over : A → A → Bool) (order : IsOrder beats over) (xs : List A) (o : Option A)
    → slice_get (best over (xs ++ cons_option o [])) 0 ≡ better_of beats (slice_get (best over xs) 0) o
first-more {A} beats over order xs None = ap (λ ys. slice_get (best over ys) 0) (append-nil xs) ∙ at (slice_get (best over xs) 0)
  where
    at : (o : Option A) → o ≡ better_of beats o None
    at None = refl
    at (Some a) = refl
first-more beats over order xs (Some x) =
    first-run beats over order (xs ++ x ∷ []) ∙ (run-append beats None xs (x ∷ []) ∙ ap (λ o. better_of beats o (Some x)) (sym (first-run beats over order xs)))
