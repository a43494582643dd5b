-- Times still fall after a transition is inserted at its place, and its driver's pairs begin with it.
use Rattle.std.proofs.Common.{◌≡◌, ℕ, zero, suc, ◌<◌, ◌≤◌, ◌==◌, nat_le, Bool, true, false, List, [], ◌∷◌, ◌++◌, refl, sym, ◌∙◌, subst, arith, get_or, take, drop, length}
use Rattle.std.specs.List.{insert, All}
use Rattle.std.specs.List.Sorted.{IsPartitionedBy, IsPartitionPoint}
use Rattle.std.proofs.lemmas.Bool.{leb-true, leb-false, le-leb, cases_eq}
use Rattle.std.proofs.Common.{inl, inr}
use Rattle.std.proofs.lemmas.Bool.Decides.{nat_tests}
use Rattle.std.proofs.lemmas.List.{take-append-drop, get_or-take, length-take-le}
use Rattle.std.proofs.lemmas.List.Elements.{All-append, All-take, All-cons, All-drop}
use Rattle.std.proofs.lemmas.List.Kept.{AllPairs-cons}
use Rattle.sg_model.specs.Pending.{IsAbove}
use Rattle.pulse_list.specs.declared.plain.Pending.{Pending}
use Rattle.pulse_list.specs.Plain.{pair_of, pairs_of, Falls, IsRewritten}
use Rattle.pulse_list.proofs.PairsLaws.{inserted, pairs_of-other}

-- whether it is no earlier than a time
abbrev pub is_from : ℕ → Pending → Bool
is_from time p = nat_le time p.time

pub Falls-partitioned : (xs : List Pending) (time : ℕ) → Falls xs → IsPartitionedBy (is_from time) xs
Falls-partitioned xs time f i j d l m e =
    elim (cases_eq i j) [
      | inl same ↦ subst (λ k. is_from time (get_or xs k d) ≡ true) (sym same) e
      | inr other ↦ (let at : time ≤ (get_or xs j d).time = leb-true time (get_or xs j d).time e in
          let below : (get_or xs j d).time ≤ (get_or xs i d).time = f i j d (omega arith) m in
          le-leb time (get_or xs i d).time (omega arith))
    ]

pub point_of : (xs : List Pending) (time i : ℕ) → IsPartitionPoint (λ q. is_from time q ≡ true) (λ q. is_from time q ≡ false) xs i → IsPartitionPoint (λ q. time ≤ q.time) (λ q. q.time < time) xs i
point_of xs time i h = (λ k d l m. leb-true time (get_or xs k d).time (h.0 k d l m), λ k d l m. leb-false time (get_or xs k d).time (h.1 k d l m))

pub Falls-insert : (xs : List Pending) (i : ℕ) (y : Pending) → Falls xs → i ≤ length xs
    → ((k : ℕ) (d : Pending) → k < i → y.time ≤ (get_or xs k d).time)
    → ((k : ℕ) (d : Pending) → i ≤ k → k < length xs → (get_or xs k d).time ≤ y.time)
    → Falls (insert xs i y)
Falls-insert xs zero y f l before after = AllPairs-cons (λ p q. q.time ≤ p.time) y xs (λ k d m. after k d (omega arith) m) f
Falls-insert [] (suc i) y f l before after = absurd (omega arith)
Falls-insert (x ∷ xs) (suc i) y f l before after =
    let rest : All (λ (q : Pending). q.time ≤ x.time) xs = (λ k d m. f 0 (suc k) d (omega arith) (omega arith)) in
    let first : y.time ≤ x.time = before 0 x (omega arith) in
    AllPairs-cons (λ p q. q.time ≤ p.time) x (insert xs i y)
    (All-append (λ (q : Pending). q.time ≤ x.time) (take i xs) (y ∷ drop i xs)
    (All-take (λ (q : Pending). q.time ≤ x.time) i xs rest)
    (All-cons (λ (q : Pending). q.time ≤ x.time) y (drop i xs) first (All-drop (λ (q : Pending). q.time ≤ x.time) i xs rest)))
    (Falls-insert xs i y (λ a b d m n. f (suc a) (suc b) d (omega arith) (omega arith)) (omega arith)
    (λ k d m. before (suc k) d (omega arith)) (λ k d m n. after (suc k) d (omega arith) (omega arith)))

-- where a driver's latest pair is before a time, none of its transitions stands among those from that time on
none_from : (xs ys : List Pending) (driver time : ℕ) → ((k : ℕ) (d : Pending) → k < length xs → time ≤ (get_or xs k d).time) → IsAbove time (pairs_of driver (xs ++ ys)) → pairs_of driver xs ≡ []
none_from [] ys driver time from above = refl
none_from (x ∷ xs) ys driver time from above =
    elim (cases_eq x.driver driver) [
      | inl same ↦ (let k : (x.driver == driver) ≡ true = grind (arith, nat_tests) in
          let before : x.time < time = rw k at above in
          let at : time ≤ x.time = from 0 x (omega arith) in
          absurd (omega arith))
      | inr other ↦ pairs_of-other driver x xs other
          ∙ none_from xs ys driver time (λ k d m. from (suc k) d (omega arith)) (subst (IsAbove time) (pairs_of-other driver x (xs ++ ys) other) above)
    ]

-- an insertion at its place, found in a list that is the same
pub record IsInserted (xs zs new : List Pending) (i : ℕ) (y : Pending) : Type 0 where
  pub same : zs ≡ xs
  pub within : i ≤ length zs
  pub place : IsPartitionPoint (λ q. y.time ≤ q.time) (λ q. q.time < y.time) zs i
  pub items : new ≡ insert xs i y

at_place : (xs zs : List Pending) (i : ℕ) (y : Pending) → zs ≡ xs → IsPartitionPoint (λ q. y.time ≤ q.time) (λ q. q.time < y.time) zs i → IsPartitionPoint (λ q. y.time ≤ q.time) (λ q. q.time < y.time) xs i
at_place xs zs i y e h = subst (λ ws. IsPartitionPoint (λ q. y.time ≤ q.time) (λ q. q.time < y.time) ws i) e h

pub inserted_pairs : (xs zs new : List Pending) (i : ℕ) (y : Pending) → IsInserted xs zs new i y → IsAbove y.time (pairs_of y.driver xs)
    → IsRewritten xs new y.driver (pair_of y ∷ pairs_of y.driver xs)
inserted_pairs xs zs new i y h above =
    let l : i ≤ length xs = subst (λ ws. i ≤ length ws) h.same h.within in
    let point : IsPartitionPoint (λ q. y.time ≤ q.time) (λ q. q.time < y.time) xs i = at_place xs zs i y h.same h.place in
    let whole : take i xs ++ drop i xs ≡ xs = take-append-drop i xs in
    let none : pairs_of y.driver (take i xs) ≡ [] = none_from (take i xs) (drop i xs) y.driver y.time
    (λ k d m. let n : k < i = subst (λ z. k < z) (length-take-le i xs l) m in subst (λ (q : Pending). y.time ≤ q.time) (sym (get_or-take i xs k d n)) (point.0 k d (omega arith) n))
    (subst (λ ws. IsAbove y.time (pairs_of y.driver ws)) (sym whole) above) in
    subst (λ ws. IsRewritten xs ws y.driver (pair_of y ∷ pairs_of y.driver xs)) (sym h.items)
    (subst (λ ws. IsRewritten ws (insert xs i y) y.driver (pair_of y ∷ pairs_of y.driver ws)) whole (inserted (take i xs) (drop i xs) y none))

pub inserted_falls : (xs zs new : List Pending) (i : ℕ) (y : Pending) → IsInserted xs zs new i y → Falls xs → Falls new
inserted_falls xs zs new i y h f =
    let l : i ≤ length xs = subst (λ ws. i ≤ length ws) h.same h.within in
    let point : IsPartitionPoint (λ q. y.time ≤ q.time) (λ q. q.time < y.time) xs i = at_place xs zs i y h.same h.place in
    subst Falls (sym h.items) (Falls-insert xs i y f l (λ k d m. point.0 k d (omega arith) m)
    (λ k d m n. let b : (get_or xs k d).time < y.time = point.1 k d m n in omega arith))
