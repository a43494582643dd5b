-- When something is due.
use Rattle.std.specs.Prelude.{◌≡◌, ◌⊎◌, ℕ, zero, suc, ◌+◌, ◌<◌, ◌≤◌, ◌==◌, ◌||◌, Bool, true, false, List, [], ◌∷◌, length, reverse, refl}
use Rattle.std.proofs.Common.{sym, ◌∙◌, ap, subst, arith, inl, inr}
use Rattle.std.proofs.lemmas.Bool.Decides.{nat_tests}
use Rattle.sg_logic.specs.declared.values.Value.{Value}
use Rattle.sg_model.specs.Agenda.{list_at, AllEmpty, BeginsAt, IsLeastTime, NoneBelow, NothingBelow, Rises, AllRise}
use Rattle.sg_model.specs.Round.{any_due, is_due}
use Rattle.sg_model.proofs.RiseLaws.{rises_at}
use Rattle.sg_model.proofs.LeastLaws.{below_empty, below_least, none_below-first}

-- one is due, or none
due_first : (t : ℕ) (xs : List (ℕ × Value)) → BeginsAt xs t → is_due t xs ≡ true
due_first t [] b = absurd b
due_first t (p ∷ ps) b = let e : p.0 ≡ t = b in grind (arith, nat_tests)

not_due_one : (t n : ℕ) (xs : List (ℕ × Value)) → t < n → NoneBelow n xs → is_due t xs ≡ false
not_due_one t n [] l h = refl
not_due_one t n (p ∷ ps) l h = let k : n ≤ p.0 = h.0 in grind (arith, nat_tests)

-- before a time below which nothing is pending, nothing is due
pub none_due : (t n : ℕ) (lists : List (List (ℕ × Value))) → t < n → NothingBelow n lists → any_due t lists ≡ false
none_due t n [] l h = refl
none_due t n (xs ∷ lists) l h =
    ap (λ b. b || any_due t lists) (not_due_one t n xs l (h 0 (omega arith))) ∙ none_due t n lists l (λ d k. h (suc d) (omega arith))

-- a list that begins at a time has a due pair then
pub some_due : (t d : ℕ) (lists : List (List (ℕ × Value))) → d < length lists → BeginsAt (list_at lists d) t → any_due t lists ≡ true
some_due t d [] l b = absurd (omega arith)
some_due t zero (xs ∷ lists) l b = ap (λ c. c || any_due t lists) (due_first t xs b)
some_due t (suc d) (xs ∷ lists) l b = or_true (is_due t xs) (some_due t d lists (omega arith) b)
  where
    or_true : (c : Bool) → any_due t lists ≡ true → (c || any_due t lists) ≡ true
    or_true true e = refl
    or_true false e = e

-- the least time tells whether any is due
pub least_due : (now time : ℕ) (lists : List (List (ℕ × Value))) (answer : Bool) → AllRise lists → NothingBelow now lists → IsLeastTime lists time → answer ≡ (time == now) → answer ≡ any_due now lists
least_due now time lists answer rise below least e = e ∙ at (cases time now)
  where
    cases : (a b : ℕ) → (a ≡ b) ⊎ ((b < a) ⊎ (a < b))
    cases a b = grind arith

    begins : BeginsAt (list_at lists least.some.0) time
    begins = least.some.2

    from : (xs : List (ℕ × Value)) → BeginsAt xs time → NoneBelow now xs → now ≤ time
    from [] b h = absurd b
    from (p ∷ ps) b h = let f : p.0 ≡ time = b in let k : now ≤ p.0 = h.0 in omega arith

    at : (time ≡ now) ⊎ ((now < time) ⊎ (time < now)) → (time == now) ≡ any_due now lists
    at (inl same) =
        let k : (time == now) ≡ true = grind (arith, nat_tests) in
        k ∙ sym (subst (λ t. any_due t lists ≡ true) same (some_due time least.some.0 lists least.some.1 begins))
    at (inr (inl later)) =
        let k : (time == now) ≡ false = grind (arith, nat_tests) in
        k ∙ sym (none_due now time lists later (below_least lists time rise least))
    at (inr (inr earlier)) = absurd (let k : now ≤ time = from (list_at lists least.some.0) begins (below least.some.0 least.some.1) in omega arith)

pub empty_due : (now : ℕ) (lists : List (List (ℕ × Value))) → AllEmpty lists → any_due now lists ≡ false
empty_due now lists none = let l : now < now + 1 = omega arith in none_due now (now + 1) lists l (below_empty lists (now + 1) none)

from_next : (now : ℕ) (xs : List (ℕ × Value)) → Rises (reverse xs) → NoneBelow now xs → is_due now xs ≡ false → NoneBelow (now + 1) xs
from_next now [] r h e = tt
from_next now (p ∷ ps) r h e =
    let k : now ≤ p.0 = h.0 in
    let f : (p.0 == now) ≡ false = e in
    let l : now + 1 ≤ p.0 = grind (arith, nat_tests) in
    none_below-first (now + 1) p ps r l

-- where nothing is due, nothing is pending up to now
pub below_next : (now : ℕ) (lists : List (List (ℕ × Value))) → AllRise lists → NothingBelow now lists → any_due now lists ≡ false → NothingBelow (now + 1) lists
below_next now lists rise below none = λ d l. from_next now (list_at lists d) (rises_at lists d l rise) (below d l) (each d lists l none)
  where
    both : (a b : Bool) → (a || b) ≡ false → (a ≡ false) × (b ≡ false)
    both true b e = absurd (let k : true ≡ false = e in cc)
    both false b e = (refl, e)

    each : (d : ℕ) (ls : List (List (ℕ × Value))) → d < length ls → any_due now ls ≡ false → is_due now (list_at ls d) ≡ false
    each d [] l e = absurd (omega arith)
    each zero (x ∷ xs) l e = (both (is_due now x) (any_due now xs) e).0
    each (suc d) (x ∷ xs) l e = each d xs (omega arith) (both (is_due now x) (any_due now xs) e).1
