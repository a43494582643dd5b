-- The first of the inputs that were never set, and the one that became x first.
use Rattle.std.specs.Prelude.{◌≡◌, ℕ, ◌+◌, ◌&&◌, Bool, true, false, cond, List, [], ◌∷◌, filter, position, Option, Some, None, option_map, slice_get, unwrap_or, refl}
use Rattle.std.specs.List.{enumerate_from, position_from}
use Rattle.std.proofs.Common.{sym, ◌∙◌, ap}
use Rattle.std.proofs.lemmas.Iterator.Adapters.{position_from-zero}
use Rattle.why_causes.specs.declared.changes.Change.{Change}
use Rattle.why_causes.specs.declared.changes.Candidate.{Candidate}
use Rattle.why_causes.specs.declared.links.Cause.{Cause}
use Rattle.why_causes.specs.declared.links.Cause.TheVariants.{NeverSet}
use Rattle.why_causes.specs.declared.links.Rule.TheVariants.{Unknown}
use Rattle.why_causes.specs.Causes.{found, never_or_first}
use Rattle.why_causes.proofs.Lists.{filter-both}

abbrev first_of : ℕ × ℕ → ℕ
first_of i = i.0

position-from : (p : ℕ → Bool) (k : ℕ) (xs : List ℕ) → position_from p k xs ≡ option_map first_of (slice_get (filter (λ (i : ℕ × ℕ). p i.1) (enumerate_from k xs)) 0)
position-from p k [] = refl
position-from p k (x ∷ xs) = at (p x) (position-from p (k + 1) xs)
  where
    at : (b : Bool) → position_from p (k + 1) xs ≡ option_map first_of (slice_get (filter (λ (i : ℕ × ℕ). p i.1) (enumerate_from (k + 1) xs)) 0)
        → cond b (Some k) (position_from p (k + 1) xs) ≡ option_map first_of (slice_get (cond b ((k, x) ∷ filter (λ (i : ℕ × ℕ). p i.1) (enumerate_from (k + 1) xs)) (filter (λ (i : ℕ × ℕ). p i.1) (enumerate_from (k + 1) xs))) 0)
    at true rest = refl
    at false rest = rest

-- the place of the first that passes two tests
pub position-both : (p q : ℕ → Bool) (xs : List ℕ) → position (λ n. p n && q n) xs ≡ option_map first_of (slice_get (filter (λ (i : ℕ × ℕ). q i.1) (filter (λ (i : ℕ × ℕ). p i.1) (enumerate_from 0 xs))) 0)
position-both p q xs =
    position_from-zero (λ n. p n && q n) xs
    ∙ (position-from (λ n. p n && q n) 0 xs
    ∙ ap (λ is. option_map first_of (slice_get is 0)) (sym (filter-both (λ (i : ℕ × ℕ). q i.1) (λ (i : ℕ × ℕ). p i.1) (enumerate_from 0 xs))))

-- the cause, by the place that was found
pub never-some : (element : ℕ) (change : Change) (never : Option (ℕ × ℕ)) (first : Option Candidate) (input : ℕ) → Some input ≡ option_map first_of never → NeverSet element input ≡ never_or_first element change never first
never-some element change None first input h = absurd (cc)
never-some element change (Some i) first input h = ap (NeverSet element) (ap (λ o. unwrap_or o 0) h)

pub never-none : (element : ℕ) (change : Change) (never : Option (ℕ × ℕ)) (first : Option Candidate) (cause : Cause) → None ≡ option_map first_of never → cause ≡ found element change Unknown first → cause ≡ never_or_first element change never first
never-none element change None first cause h is = is
never-none element change (Some i) first cause h is = absurd (cc)
