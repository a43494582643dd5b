-- Below the least time of a table nothing is pending.
use Rattle.std.proofs.Common.{ℕ, ◌<◌, ◌≤◌, List, [], ◌∷◌, reverse, refl, sym, subst, arith}
use Rattle.sg_logic.specs.declared.values.Value.{Value}
use Rattle.sg_model.specs.Agenda.{list_at, AllEmpty, AllRise, BeginsAt, IsLeastTime, NoneBelow, NothingBelow, Rises}
use Rattle.sg_model.proofs.RiseLaws.{rises-rest, rises_at}
use Rattle.sg_model.proofs.TakeLaws.{rises-second}

-- where times rise, the first pair decides
pub none_below-first : (n : ℕ) (p : ℕ × Value) (ps : List (ℕ × Value)) → Rises (reverse (p ∷ ps)) → n ≤ p.0 → NoneBelow n (p ∷ ps)
none_below-first n p [] r l = (l, tt)
none_below-first n p (q ∷ qs) r l =
    let later : p.0 < q.0 = rises-second p q qs r in
    (l, none_below-first n q qs (rises-rest (p ∷ q ∷ qs) r) (omega arith))

-- an earlier time has no more below it
pub none_below-earlier : (m n : ℕ) (xs : List (ℕ × Value)) → m ≤ n → NoneBelow n xs → NoneBelow m xs
none_below-earlier m n [] l h = tt
none_below-earlier m n (p ∷ ps) l h = let k : n ≤ p.0 = h.0 in (omega arith, none_below-earlier m n ps l h.1)

pub nothing_below-earlier : (m n : ℕ) (lists : List (List (ℕ × Value))) → m ≤ n → NothingBelow n lists → NothingBelow m lists
nothing_below-earlier m n lists l h = λ d k. none_below-earlier m n (list_at lists d) l (h d k)

none_below-least : (time : ℕ) (xs : List (ℕ × Value)) → Rises (reverse xs) → ((first : ℕ) → BeginsAt xs first → time ≤ first) → NoneBelow time xs
none_below-least time [] r h = tt
none_below-least time (p ∷ ps) r h = none_below-first time p ps r (h p.0 refl)

-- nothing is below the least time
pub below_least : (lists : List (List (ℕ × Value))) (time : ℕ) → AllRise lists → IsLeastTime lists time → NothingBelow time lists
below_least lists time rise least = λ d l. none_below-least time (list_at lists d) (rises_at lists d l rise) (λ first b. least.least d first l b)

-- nothing is below any time where nothing is pending
pub below_empty : (lists : List (List (ℕ × Value))) (time : ℕ) → AllEmpty lists → NothingBelow time lists
below_empty lists time none = λ d l. subst (NoneBelow time) (sym (none.each d l)) tt

none_below-zero : (xs : List (ℕ × Value)) → NoneBelow 0 xs
none_below-zero [] = tt
none_below-zero (p ∷ ps) = (omega arith, none_below-zero ps)

-- no time is below 0
pub nothing_below-zero : (lists : List (List (ℕ × Value))) → NothingBelow 0 lists
nothing_below-zero lists = λ d l. none_below-zero (list_at lists d)
