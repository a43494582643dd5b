-- One candidate more, and what has been picked when all were seen.
use Rattle.std.specs.Prelude.{◌≡◌, ◌≢◌, refl, ℕ, ◌+◌, ◌<◌, ◌≤◌, ◌==◌, ◌&&◌, ◌||◌, Bool, true, false, if◌then◌else◌, List, [], ◌∷◌, ◌++◌, length, take, slice_index_or, slice_set}
use Rattle.std.proofs.Common.{ap, sym, ◌∙◌, subst, arith, inl, inr}
use Rattle.std.proofs.Math.Bool.{or-false, or-true}
use Rattle.std.proofs.lemmas.Bool.{cases_eq, and_parts, and_right}
use Rattle.std.proofs.lemmas.List.{get_or-set_same, get_or-set_other, take_more, take_all, append_assoc, append-nil}
use Rattle.annotation_model.specs.Listed.{occurrences, IsListOf}
use Rattle.annotation_model.specs.Ports.{has}
use Rattle.annotation_model.proofs.ListedLaws.{test_same, test_other, occurs_here, occurs_later, occurrences-append}
use Rattle.annotation_index.specs.Picking.{ArePicked, HasEach}

pub has-append : (k : ℕ) (xs ys : List ℕ) → has k (xs ++ ys) ≡ (has k xs || has k ys)
has-append k [] ys = refl
has-append k (x ∷ xs) ys = by (x == k) (has-append k xs ys)
  where
    by : (b : Bool) → has k (xs ++ ys) ≡ (has k xs || has k ys) → (b || has k (xs ++ ys)) ≡ ((b || has k xs) || has k ys)
    by true e = refl
    by false e = e

pub has_one : (k c : ℕ) (xs : List ℕ) → c ≡ k → has k (xs ++ c ∷ []) ≡ true
has_one k c xs e = has-append k xs (c ∷ []) ∙ (ap (λ b. has k xs || (b || false)) (test_same c k e) ∙ or-true (has k xs))

pub has_other : (k c : ℕ) (xs : List ℕ) → c ≢ k → has k (xs ++ c ∷ []) ≡ has k xs
has_other k c xs e = has-append k xs (c ∷ []) ∙ (ap (λ b. has k xs || (b || false)) (test_other c k e) ∙ or-false (has k xs))

-- nothing was seen, nothing is marked or listed
pub picked_none : (test : ℕ → Bool) (marks : List Bool) → ((k : ℕ) → slice_index_or marks k false ≡ false) → ArePicked test [] marks []
picked_none test marks clear = record { marked = clear; each = λ k. refl }

-- a candidate that passes and isn't marked yet
pub picked_on : (test : ℕ → Bool) (seen : List ℕ) (marks : List Bool) (found : List ℕ) (c : ℕ) → c < length marks → slice_index_or marks c false ≡ false → test c ≡ true
    → ArePicked test seen marks found → ArePicked test (seen ++ c ∷ []) (slice_set marks c true) (found ++ c ∷ [])
picked_on test seen marks found c l m t h = record { marked = marked; each = each }
  where
    new : (k : ℕ) → c ≡ k → (has k (seen ++ c ∷ []) && test k) ≡ true
    new k e = ap (λ b. b && test k) (has_one k c seen e) ∙ (ap test (sym e) ∙ t)

    old : (k : ℕ) → c ≢ k → (has k (seen ++ c ∷ []) && test k) ≡ (has k seen && test k)
    old k e = ap (λ b. b && test k) (has_other k c seen e)

    marked : (k : ℕ) → slice_index_or (slice_set marks c true) k false ≡ (has k (seen ++ c ∷ []) && test k)
    marked k = elim (cases_eq c k) [
      | inl e ↦ ap (λ n. slice_index_or (slice_set marks c true) n false) (sym e) ∙ (get_or-set_same marks c true false l ∙ sym (new k e))
      | inr e ↦ get_or-set_other marks c k true false (λ q. e (sym q)) ∙ (h.marked k ∙ sym (old k e))
    ]

    none : occurrences c found ≡ 0
    none = h.each c ∙ ap (λ b. if b then 1 else 0) (sym (h.marked c) ∙ m)

    each : (k : ℕ) → occurrences k (found ++ c ∷ []) ≡ (if has k (seen ++ c ∷ []) && test k then 1 else 0)
    each k = elim (cases_eq c k) [
      | inl e ↦ (let one : occurrences k (c ∷ []) ≡ 0 + 1 = occurs_here c k [] e in
          let zero_k : occurrences k found ≡ 0 = subst (λ n. occurrences n found ≡ 0) e none in
          let sum : occurrences k (found ++ c ∷ []) ≡ occurrences k found + occurrences k (c ∷ []) = occurrences-append k found (c ∷ []) in
          let all : occurrences k (found ++ c ∷ []) ≡ 1 = omega (arith, one, zero_k, sum) in
          all ∙ ap (λ b. if b then 1 else 0) (sym (new k e)))
      | inr e ↦ (let none_k : occurrences k (c ∷ []) ≡ 0 = occurs_later c k [] e in
          let sum : occurrences k (found ++ c ∷ []) ≡ occurrences k found + occurrences k (c ∷ []) = occurrences-append k found (c ∷ []) in
          let all : occurrences k (found ++ c ∷ []) ≡ occurrences k found = omega (arith, none_k, sum) in
          all ∙ (h.each k ∙ ap (λ b. if b then 1 else 0) (sym (old k e))))
    ]

-- a candidate that changes nothing: what is so of it already is so when it was seen
picked_same : (test : ℕ → Bool) (seen : List ℕ) (marks : List Bool) (found : List ℕ) (c : ℕ) → (has c seen && test c) ≡ test c
    → ArePicked test seen marks found → ArePicked test (seen ++ c ∷ []) marks found
picked_same test seen marks found c s h = record { marked = λ k. h.marked k ∙ same k; each = λ k. h.each k ∙ ap (λ b. if b then 1 else 0) (same k) }
  where
    same : (k : ℕ) → (has k seen && test k) ≡ (has k (seen ++ c ∷ []) && test k)
    same k = elim (cases_eq c k) [
      | inl e ↦ subst (λ n. (has n seen && test n) ≡ test n) e s ∙ ap (λ b. b && test k) (sym (has_one k c seen e))
      | inr e ↦ ap (λ b. b && test k) (sym (has_other k c seen e))
    ]

pub picked_again : (test : ℕ → Bool) (seen : List ℕ) (marks : List Bool) (found : List ℕ) (c : ℕ) → slice_index_or marks c false ≡ true
    → ArePicked test seen marks found → ArePicked test (seen ++ c ∷ []) marks found
picked_again test seen marks found c m h =
    let passes : (has c seen && test c) ≡ true = sym (h.marked c) ∙ m in
    picked_same test seen marks found c (passes ∙ sym (and_parts (has c seen) (test c) passes).1) h

pub picked_off : (test : ℕ → Bool) (seen : List ℕ) (marks : List Bool) (found : List ℕ) (c : ℕ) → test c ≡ false
    → ArePicked test seen marks found → ArePicked test (seen ++ c ∷ []) marks found
picked_off test seen marks found c t h = picked_same test seen marks found c (and_right (has c seen) (test c) t ∙ sym t) h

-- What was picked is exactly what passes, each once, where the candidates have each place that passes: looking up by an index gives the filter's places.
pub picked_all : (test : ℕ → Bool) (seen : List ℕ) (marks : List Bool) (found : List ℕ) → HasEach test seen → ArePicked test seen marks found → IsListOf test found
picked_all test seen marks found has_each h = record { each = λ k. h.each k ∙ ap (λ b. if b then 1 else 0) (same k (test k) refl) }
  where
    same : (k : ℕ) (b : Bool) → test k ≡ b → (has k seen && test k) ≡ test k
    same k true e = ap (λ b. b && test k) (has_each.each k e)
    same k false e = and_right (has k seen) (test k) e ∙ sym e

-- the candidates of a list, one after another
pub picked_more : (test : ℕ → Bool) (seen xs : List ℕ) (i blank : ℕ) (marks : List Bool) (found : List ℕ) → i < length xs
    → ArePicked test ((seen ++ take i xs) ++ slice_index_or xs i blank ∷ []) marks found → ArePicked test (seen ++ take (i + 1) xs) marks found
picked_more test seen xs i blank marks found l h =
    subst (λ ks. ArePicked test ks marks found) (append_assoc seen (take i xs) (slice_index_or xs i blank ∷ []) ∙ ap (λ ks. seen ++ ks) (sym (take_more xs i blank l))) h

pub picked_first : (test : ℕ → Bool) (seen : List ℕ) (marks : List Bool) (found : List ℕ) → ArePicked test seen marks found → ArePicked test (seen ++ []) marks found
picked_first test seen marks found h = subst (λ ks. ArePicked test ks marks found) (sym (append-nil seen)) h

pub picked_last : (test : ℕ → Bool) (seen xs : List ℕ) (i : ℕ) (marks : List Bool) (found : List ℕ) → length xs ≤ i → ArePicked test (seen ++ take i xs) marks found → ArePicked test (seen ++ xs) marks found
picked_last test seen xs i marks found l h = subst (λ ks. ArePicked test (seen ++ ks) marks found) (take_all i xs l) h
