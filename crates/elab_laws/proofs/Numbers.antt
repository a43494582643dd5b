-- Instances have the numbers of their places, and a bit's net can be passed down from the parent's.
use Rattle.std.specs.Prelude.{◌≡◌, ℕ, zero, suc, ◌+◌, List, [], ◌∷◌, ◌++◌, true, false, Some, None, map, flat_map, length, sum_by, refl}
use Rattle.std.specs.List.{range_with_len, position_from}
use Rattle.std.proofs.Common.{sym, ◌∙◌, ap, arith, add-zero, zero-add, add-one}
use Rattle.std.proofs.lemmas.List.{map-append}
use Rattle.std.proofs.lemmas.List.Sums.{sum_by-cons}
use Rattle.elab_model.specs.Bits.{net, constant}
use Rattle.elab_model.specs.Hierarchy.{Step, Instance, Child, children_in, size, children_from, instances_from, instances, top_instance, levels_below_top}
use Rattle.elab_model.specs.Homes.{Spot, bit, home, same_above, is_same_spot}
use Rattle.elab_model.specs.Nets.{OwnNet, number_of}
use Rattle.vl_tree.specs.Tree.{Module, Source}

abbrev pub number : Instance → ℕ
number s = s.step.number

pub range-append : (a m n : ℕ) → range_with_len a m ++ range_with_len (a + m) n ≡ range_with_len a (m + n)
range-append a zero n = rw (add-zero a, zero-add n) refl
range-append a (suc m) n =
    let e : a + suc m ≡ (a + 1) + m = omega arith in
    let f : suc m + n ≡ suc (m + n) = omega arith in
    rw (e, f) (ap (λ xs. a ∷ xs) (range-append (a + 1) m n))

-- the instances below, from next on, have the numbers from next on
abbrev pub NumbersBelow : Source → ℕ → Type 0
NumbersBelow source d = (s : Instance) → map number (instances_from source d s) ≡ range_with_len (number s) (size source d s.step.definition)

pub children-numbers : (source : Source) (d : ℕ) → NumbersBelow source d → (above : List Step) (next : ℕ) (is : List Child)
    → map number (flat_map (instances_from source d) (children_from source d above next is)) ≡ range_with_len next (sum_by (λ i. size source d i.definition) is)
children-numbers source d h above next [] = refl
children-numbers source d h above next (i ∷ is) =
    map-append number _ _
    ∙ ap (λ xs. xs ++ map number (flat_map (instances_from source d) (children_from source d above (next + size source d i.definition) is))) (h _)
    ∙ ap (λ xs. range_with_len next (size source d i.definition) ++ xs) (children-numbers source d h above (next + size source d i.definition) is)
    ∙ range-append next (size source d i.definition) (sum_by (λ i. size source d i.definition) is)
    ∙ ap (λ n. range_with_len next n) (sym (sum_by-cons (λ i. size source d i.definition) i is))

pub numbers-below : (source : Source) (d : ℕ) → NumbersBelow source d
numbers-below source zero s = refl
numbers-below source (suc d) s =
    ap (λ xs. number s ∷ xs) (rw add-one (children-numbers source d (numbers-below source d) (s.step ∷ s.above) (suc (number s)) (children_in source s.step.definition)))

-- the k-th instance has the number k
pub numbers-are-places : (source : Source) (top : Module) → map number (instances source top) ≡ range_with_len 0 (size source levels_below_top top)
numbers-are-places source top = numbers-below source levels_below_top (top_instance top)

-- the nets of an instance's bits, from those of its parent's
abbrev pub passed_down : Source → Step → Step → (List ℕ → ℕ → Spot) → List ℕ → ℕ → Spot
passed_down source s parent outer n p =
    elim (same_above source s parent n p) [
      | None ↦ bit s.number n p
      | Some (net m q) ↦ outer m q
      | Some (constant at v) ↦ bit s.number n p
    ]

-- a table passed down along the chain
abbrev pub table : Source → Step → List Step → List ℕ → ℕ → Spot
table source s [] = λ n p. bit s.number n p
table source s (parent ∷ above) = λ n p. passed_down source s parent (table source parent above) n p

-- climbing from each bit alone finds what the table has
pub climbed-is-passed : (source : Source) (s : Step) (above : List Step) (n : List ℕ) (p : ℕ) → home source s above n p ≡ table source s above n p
climbed-is-passed source s [] n p = refl
climbed-is-passed source s (parent ∷ above) n p =
    elim (same_above source s parent n p) as (λ b.
    (elim b [ None ↦ bit s.number n p | Some (net m q) ↦ home source parent above m q | Some (constant at v) ↦ bit s.number n p ])
    ≡ (elim b [ None ↦ bit s.number n p | Some (net m q) ↦ table source parent above m q | Some (constant at v) ↦ bit s.number n p ]))
    [ None ↦ refl | Some (net m q) ↦ climbed-is-passed source parent above m q | Some (constant at v) ↦ refl ]

-- a net that none before is the same as has the number of those before
abbrev pub AreOther : Spot → List OwnNet → Type 0
AreOther spot [] = Unit {0}
AreOther spot (o ∷ os) = (is_same_spot spot o.spot ≡ false) × AreOther spot os

pub position-after : (spot : Spot) (i : ℕ) (xs : List OwnNet) (o : OwnNet) (ys : List OwnNet) → AreOther spot xs → is_same_spot spot o.spot ≡ true
    → position_from (λ o. is_same_spot spot o.spot) i (xs ++ o ∷ ys) ≡ Some (i + length xs)
position-after spot i [] o ys other same = rw (same, add-zero i) refl
position-after spot i (x ∷ xs) o ys other same =
    let e : (i + 1) + length xs ≡ i + suc (length xs) = omega arith in
    rw (other.0, ← e) (position-after spot (i + 1) xs o ys other.1 same)

pub number-after : (spot : Spot) (xs : List OwnNet) (o : OwnNet) (ys : List OwnNet) → AreOther spot xs → is_same_spot spot o.spot ≡ true
    → number_of (xs ++ o ∷ ys) spot ≡ length xs
number-after spot xs o ys other same = rw (position-after spot 0 xs o ys other same) (let e : 0 + length xs ≡ length xs = omega arith in e)
