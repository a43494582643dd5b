-- Marks that are unset.
use Rattle.std.specs.Prelude.{◌≡◌, ◌≢◌, refl, ℕ, ◌+◌, ◌<◌, ◌≤◌, ◌&&◌, ◌||◌, not, nat_lt, Bool, true, false, if◌then◌else◌, All, List, [], ◌∷◌, ◌++◌, length, take, slice_index_or, slice_set}
use Rattle.std.proofs.Common.{ap, sym, ◌∙◌, subst, arith, inl, inr}
use Rattle.std.proofs.Math.Bool.{and-true, and-false}
use Rattle.std.proofs.lemmas.Bool.{cases_eq}
use Rattle.std.proofs.lemmas.Bool.Decides.{nat_tests}
use Rattle.std.proofs.lemmas.List.{get_or-set_same, get_or-set_other, get_or_past, take_more, take_all}
use Rattle.std.proofs.lemmas.List.Elements.{All-from_get_or}
use Rattle.annotation_model.specs.Listed.{occurrences}
use Rattle.annotation_model.specs.Ports.{has}
use Rattle.annotation_model.proofs.ListedLaws.{test_same, test_other, occurs_at, occurs_later}
use Rattle.annotation_index.specs.Picking.{ArePicked}
use Rattle.annotation_index.proofs.PickLaws.{has_one, has_other, picked_none}

-- the marks of a table without those of places
abbrev pub AreUnset : (old : List Bool) → (places : List ℕ) → (new : List Bool) → Type 0
AreUnset old places new = (k : ℕ) → slice_index_or new k false ≡ (slice_index_or old k false && not (has k places))

pub unset-none : (marks : List Bool) → AreUnset marks [] marks
unset-none marks k = sym (and-true (slice_index_or marks k false))

pub unset-more : (old new : List Bool) (places : List ℕ) (i d : ℕ) → i < length places → All (λ k. k < length new) places → AreUnset old (take i places) new
    → AreUnset old (take (i + 1) places) (slice_set new (slice_index_or places i d) false)
unset-more old new places i d l within h k = elim (cases_eq place k) [
  | inl e ↦ ap (λ n. slice_index_or (slice_set new place false) n false) (sym e)
      ∙ (get_or-set_same new place false false (within i d l)
      ∙ sym (ap (λ ks. slice_index_or old k false && not (has k ks)) more ∙ (ap (λ b. slice_index_or old k false && not b) (last e) ∙ and-false (slice_index_or old k false))))
  | inr e ↦ get_or-set_other new place k false false (λ q. e (sym q))
      ∙ (h k ∙ sym (ap (λ ks. slice_index_or old k false && not (has k ks)) more ∙ ap (λ b. slice_index_or old k false && not b) (other e)))
]
  where
    place : ℕ
    place = slice_index_or places i d

    more : take (i + 1) places ≡ take i places ++ place ∷ []
    more = take_more places i d l

    last : place ≡ k → has k (take i places ++ place ∷ []) ≡ true
    last e = has_one k place (take i places) e

    other : place ≢ k → has k (take i places ++ place ∷ []) ≡ has k (take i places)
    other e = has_other k place (take i places) e

pub unset-all : (old new : List Bool) (places : List ℕ) (i : ℕ) → length places ≤ i → AreUnset old (take i places) new → AreUnset old places new
unset-all old new places i l h k = h k ∙ ap (λ ks. slice_index_or old k false && not (has k ks)) (take_all i places l)

-- ---- what was picked is marked, and nothing else

picked-marked : (test : ℕ → Bool) (seen : List ℕ) (marks : List Bool) (found : List ℕ) (k : ℕ) → ArePicked test seen marks found → 0 < occurrences k found → slice_index_or marks k false ≡ true
picked-marked test seen marks found k h l = h.marked k ∙ by (has k seen && test k) refl
  where
    by : (b : Bool) → (has k seen && test k) ≡ b → b ≡ true
    by true e = refl
    by false e = let none : occurrences k found ≡ 0 = h.each k ∙ ap (λ b. if b then 1 else 0) e in absurd (omega (arith, none, l))

marked-within : (marks : List Bool) (k : ℕ) → slice_index_or marks k false ≡ true → k < length marks
marked-within marks k h = by (nat_lt k (length marks)) refl
  where
    below : nat_lt k (length marks) ≡ true → k < length marks
    below e = grind (arith, nat_tests)

    past : nat_lt k (length marks) ≡ false → length marks ≤ k
    past e = grind (arith, nat_tests)

    by : (b : Bool) → nat_lt k (length marks) ≡ b → k < length marks
    by true e = below e
    by false e = absurd (let f : slice_index_or marks k false ≡ false = get_or_past marks k false (past e) in cc)

pub picked-within : (test : ℕ → Bool) (seen : List ℕ) (marks : List Bool) (found : List ℕ) → ArePicked test seen marks found → All (λ k. k < length marks) found
picked-within test seen marks found h =
    All-from_get_or (λ k. k < length marks) found 0
    (λ i l. marked-within marks (slice_index_or found i 0) (picked-marked test seen marks found (slice_index_or found i 0) h (occurs_at found i 0 l)))

has-occurring : (k : ℕ) (xs : List ℕ) → 0 < occurrences k xs → has k xs ≡ true
has-occurring k [] l = absurd (omega (arith, l))
has-occurring k (x ∷ xs) l = elim (cases_eq x k) [
  | inl e ↦ ap (λ b. b || has k xs) (test_same x k e)
  | inr e ↦ ap (λ b. b || has k xs) (test_other x k e) ∙ has-occurring k xs (let f = occurs_later x k xs e in omega (arith, f, l))
]

-- without what was picked no mark is set
pub picked-unset : (test : ℕ → Bool) (seen : List ℕ) (marks : List Bool) (found : List ℕ) (new : List Bool) → ArePicked test seen marks found → AreUnset marks found new
    → (k : ℕ) → slice_index_or new k false ≡ false
picked-unset test seen marks found new h unset k = unset k ∙ by (has k seen && test k) refl
  where
    by : (b : Bool) → (has k seen && test k) ≡ b → (slice_index_or marks k false && not (has k found)) ≡ false
    by true e =
        let one : occurrences k found ≡ 1 = h.each k ∙ ap (λ b. if b then 1 else 0) e in
        ap (λ b. slice_index_or marks k false && not b) (has-occurring k found (omega (arith, one))) ∙ and-false (slice_index_or marks k false)
    by false e = ap (λ b. b && not (has k found)) (h.marked k ∙ e)

-- ---- from no mark on

picked-from : (test : ℕ → Bool) (marks : List Bool) (found : List ℕ) → ((k : ℕ) → slice_index_or marks k false ≡ false) → found ≡ [] → ArePicked test [] marks found
picked-from test marks found clear e = subst (λ ks. ArePicked test [] marks ks) (sym e) (picked_none test marks clear)

-- what was picked, where a call tells what is so behind all that was seen before
pub picked_of : (test : ℕ → Bool) (candidates first found : List ℕ) (old new : List Bool) → ((k : ℕ) → slice_index_or old k false ≡ false) → first ≡ []
    → ((seen : List ℕ) → ArePicked test seen old first → ArePicked test (seen ++ candidates) new found) → ArePicked test candidates new found
picked_of test candidates first found old new clear e h = h [] (picked-from test old first clear e)
