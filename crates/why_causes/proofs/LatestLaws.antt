-- The latest and the earliest of candidates, one more at a time.
use Rattle.std.specs.Prelude.{◌≡◌, ℕ, ◌+◌, ◌<◌, ◌≤◌, nat_lt, nat_le, true, false, List, length, take, filter_map, slice_get, slice_index_or, Option}
use Rattle.std.specs.List.{enumerate_from}
use Rattle.std.proofs.Common.{sym, ◌∙◌, ap, arith}
use Rattle.std.proofs.lemmas.Bool.Decides.{nat_tests}
use Rattle.why_causes.specs.declared.changes.Candidate.{Candidate}
use Rattle.why_causes.specs.Candidates.{time_of, latest, earliest}
use Rattle.why_causes.specs.Best.{later_of, earlier_of, is_later, is_earlier}
use Rattle.why_causes.proofs.Lists.{mapped-more, numbered-all}
use Rattle.why_causes.proofs.BestLaws.{IsOrder, first-more}

less-itself : (a : ℕ) → nat_le a a ≡ true
less-itself a = grind (arith, nat_tests)

less-most : (a b : ℕ) → nat_lt a b ≡ true → nat_le a b ≡ true
less-most a b h = grind (arith, nat_tests)

less-not : (a b : ℕ) → nat_lt a b ≡ true → nat_le b a ≡ false
less-not a b h = grind (arith, nat_tests)

not-less : (a b : ℕ) → nat_lt a b ≡ false → nat_le b a ≡ true
not-less a b h = grind (arith, nat_tests)

less-less : (a b c : ℕ) → nat_lt a b ≡ true → nat_lt b c ≡ true → nat_lt a c ≡ true
less-less a b c h k = grind (arith, nat_tests)

less-past : (a b c : ℕ) → nat_lt a b ≡ true → nat_lt c b ≡ false → nat_lt a c ≡ true
less-past a b c h k = grind (arith, nat_tests)

past-less : (a b c : ℕ) → nat_lt b a ≡ true → nat_lt b c ≡ false → nat_lt c a ≡ true
past-less a b c h k = grind (arith, nat_tests)

pub later-order : IsOrder is_later (λ c d. nat_le (time_of c) (time_of d))
later-order = record {
  itself = λ c. less-itself (time_of c);
  beaten = λ c d h. (less-most (time_of d) (time_of c) h, less-not (time_of d) (time_of c) h);
  unbeaten = λ c d h. not-less (time_of d) (time_of c) h;
  through = λ c d e h k. less-less (time_of e) (time_of d) (time_of c) k h;
  past = λ c d e h k. past-less (time_of c) (time_of d) (time_of e) h k;
}

pub earlier-order : IsOrder is_earlier (λ c d. nat_le (time_of d) (time_of c))
earlier-order = record {
  itself = λ c. less-itself (time_of c);
  beaten = λ c d h. (less-most (time_of c) (time_of d) h, less-not (time_of c) (time_of d) h);
  unbeaten = λ c d h. not-less (time_of c) (time_of d) h;
  through = λ c d e h k. less-less (time_of c) (time_of d) (time_of e) h k;
  past = λ c d e h k. less-past (time_of c) (time_of d) (time_of e) h k;
}

module _ {X : Type 0} (h : ℕ × X → Option Candidate) (xs : List X) (i : ℕ) where
  -- of the first so many
  abbrev pub latest_to : Option Candidate
  latest_to = slice_get (latest (filter_map h (take i (enumerate_from 0 xs)))) 0

  abbrev pub earliest_to : Option Candidate
  earliest_to = slice_get (earliest (filter_map h (take i (enumerate_from 0 xs)))) 0

  pub latest-all : (best : Option Candidate) → length xs ≤ i → best ≡ latest_to → best ≡ slice_get (latest (filter_map h (enumerate_from 0 xs))) 0
  latest-all best l e = e ∙ ap (λ ps. slice_get (latest (filter_map h ps)) 0) (numbered-all xs i l)

  pub earliest-all : (best : Option Candidate) → length xs ≤ i → best ≡ earliest_to → best ≡ slice_get (earliest (filter_map h (enumerate_from 0 xs))) 0
  earliest-all best l e = e ∙ ap (λ ps. slice_get (earliest (filter_map h ps)) 0) (numbered-all xs i l)

pub latest-more : {X : Type 0} (h : ℕ × X → Option Candidate) (xs : List X) (i : ℕ) (x d : X) (best found new : Option Candidate)
    → i < length xs → x ≡ slice_index_or xs i d → best ≡ latest_to h xs i → found ≡ h (i, x) → new ≡ later_of best found → new ≡ latest_to h xs (i + 1)
latest-more h xs i x d best found new l is e f n =
    n ∙ (ap (λ o. later_of o found) e ∙ (ap (later_of (latest_to h xs i)) f
    ∙ (sym (first-more is_later _ later-order (filter_map h (take i (enumerate_from 0 xs))) (h (i, x)))
    ∙ ap (λ cs. slice_get (latest cs) 0) (sym (mapped-more h xs i x d l is)))))

pub earliest-more : {X : Type 0} (h : ℕ × X → Option Candidate) (xs : List X) (i : ℕ) (x d : X) (best found new : Option Candidate)
    → i < length xs → x ≡ slice_index_or xs i d → best ≡ earliest_to h xs i → found ≡ h (i, x) → new ≡ earlier_of best found → new ≡ earliest_to h xs (i + 1)
earliest-more h xs i x d best found new l is e f n =
    n ∙ (ap (λ o. earlier_of o found) e ∙ (ap (earlier_of (earliest_to h xs i)) f
    ∙ (sym (first-more is_earlier _ earlier-order (filter_map h (take i (enumerate_from 0 xs))) (h (i, x)))
    ∙ ap (λ cs. slice_get (earliest cs) 0) (sym (mapped-more h xs i x d l is)))))
