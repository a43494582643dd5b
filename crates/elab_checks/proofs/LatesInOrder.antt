-- An instance has a Late for each copy of its module, in the same order.
use Rattle.std.specs.Prelude.{◌≡◌, ℕ, zero, suc, ◌+◌, ◌<◌, ◌==◌, ◌&&◌, List, [], ◌∷◌, false, Some, filter, length, map, slice_index_or, unwrap_or, refl}
use Rattle.std.specs.List.{AllByRecursion, enumerate_from, position_from}
use Rattle.std.proofs.Common.{sym, ◌∙◌, ap, arith}
use Rattle.std.proofs.lemmas.List.{length-map}
use Rattle.sg_circuit.specs.Circuit.{Kind, Gate, Udp, Pass, Leg, Path, Late}
use Rattle.sg_delay.specs.declared.corners.Corner.{Corner}
use Rattle.sg_text.specs.declared.places.Place.{Place}
use Rattle.vl_tree.specs.Tree.{Module, Source}
use Rattle.elab_model.specs.Drivers.{elements}
use Rattle.elab_model.specs.Elements.{Component, late_at}
use Rattle.elab_model.specs.Hierarchy.{Instance, instances}
use Rattle.elab_model.specs.Lates.{DelayedCopy, is_same_copy, module_copies}
use Rattle.circuit_model.specs.CheckUses.{is_late, is_late_in, late_number, lates_in}
use Rattle.elab_laws.specs.LateLaws as law
use Rattle.elab_laws.specs.Words.{In}
use Rattle.elab_laws.proofs.Copies.{copy-same, copies-turned, module_copies-apart, AreOtherCopies}
use Rattle.elab_laws.proofs.Filters.{filter-same, filter-second}
use Rattle.elab_laws.proofs.LatesInOrder.{lates-are_in_order}
use Rattle.elab_laws.proofs.Lists.{all-anyway, Pairwise}
use Rattle.specify_checks.specs.Copies.{copy_at}
use Rattle.elab_checks.specs.Ready.{copies_in}
use Rattle.elab_checks.specs.Uses.{AreLates}

-- ---- the place of a copy is its own, where none stands twice

other-at : (c : Place × DelayedCopy) (cs : List (Place × DelayedCopy)) (i : ℕ) → AllByRecursion (AreOtherCopies c) cs → i < length cs → is_same_copy c.1 (copy_at (map (λ d. d.1) cs) i) ≡ false
other-at c [] i h lt = absurd (omega (arith, lt))
other-at c (d ∷ cs) zero h lt = h.0
other-at c (d ∷ cs) (suc i) h lt = other-at c cs i h.1 (omega (arith, lt))

place-own : (k j : ℕ) (cs : List (Place × DelayedCopy)) → Pairwise AreOtherCopies cs → j < length cs → position_from (λ d. is_same_copy (copy_at (map (λ c. c.1) cs) j) d.1) k cs ≡ Some (k + j)
place-own k j [] apart lt = absurd (omega (arith, lt))
place-own k zero (c ∷ cs) apart lt = rw (copy-same c.1) (ap (λ n. Some n) (let e : k ≡ k + 0 = omega arith in e))
place-own k (suc i) (c ∷ cs) apart lt =
    let other : is_same_copy (copy_at (map (λ d. d.1) cs) i) c.1 ≡ false = copies-turned (copy_at (map (λ d. d.1) cs) i) c.1 ∙ other-at c cs i apart.0 (omega (arith, lt)) in
    rw other (place-own (k + 1) i cs apart.1 (omega (arith, lt)) ∙ ap (λ n. Some n) (let e : k + 1 + i ≡ k + suc i = omega arith in e))

by-index : (f : DelayedCopy → ℕ) (cs : List DelayedCopy) (row : List ℕ) → length row ≡ length cs → ((j : ℕ) → j < length cs → f (copy_at cs j) ≡ slice_index_or row j 0) → row ≡ map f cs
by-index f [] [] long h = refl
by-index f [] (n ∷ row) long h = absurd (omega (arith, long))
by-index f (c ∷ cs) [] long h = absurd (omega (arith, long))
by-index f (c ∷ cs) (n ∷ row) long h =
    ap (λ m. m ∷ row) (sym (h 0 (omega arith))) ∙ ap (λ ms. f c ∷ ms) (by-index f cs row (omega (arith, long)) (λ j lt. h (suc j) (omega (arith, lt))))

-- ---- so the Lates are those of the copies

late-same : (kind : Kind) → is_late kind ≡ law.is_late kind
late-same (Gate g d) = refl
late-same (Udp u v d) = refl
late-same (Pass v) = refl
late-same (Leg t) = refl
late-same (Path ps style) = refl
late-same (Late d) = refl

pub lates-in-order : (source : Source) (top : Module) (corner : Corner) (s : Instance) → In s (instances source top)
    → AreLates (copies_in s.step.definition) (lates_in (elements source top corner) s.step.number) (late_number (elements source top corner) s)
lates-in-order source top corner s there = by-index (late_number es s) (copies_in m) row long (λ j lt. ap (λ o. slice_index_or row (unwrap_or o 0) 0) (place-own 0 j (module_copies m) (module_copies-apart m) (omega (arith, lt, as-many)) ∙ ap (λ n. Some n) (let e : 0 + j ≡ j = omega arith in e)))
  where
    m : Module
    m = s.step.definition

    es : List Component
    es = elements source top corner

    row : List ℕ
    row = lates_in es s.step.number

    as-many : length (copies_in m) ≡ length (module_copies m)
    as-many = length-map (module_copies m) (λ c. c.1)

    of-instance : map (λ e. e.1) (filter (is_late_in s.step.number) (enumerate_from 0 es)) ≡ map (late_at source s) (module_copies m)
    of-instance =
        ap (map (λ e. e.1)) (filter-same (is_late_in s.step.number) (λ e. law.is_late_of s.step.number e.1) (enumerate_from 0 es)
        (all-anyway (λ e. is_late_in s.step.number e ≡ law.is_late_of s.step.number e.1) (enumerate_from 0 es) (λ e. ap (λ b. (e.1.scope == s.step.number) && b) (late-same e.1.kind))))
        ∙ filter-second (law.is_late_of s.step.number) 0 es
        ∙ lates-are_in_order source top corner s there

    long : length row ≡ length (copies_in m)
    long =
        length-map (filter (is_late_in s.step.number) (enumerate_from 0 es)) (λ e. e.0)
        ∙ sym (length-map (filter (is_late_in s.step.number) (enumerate_from 0 es)) (λ e. e.1))
        ∙ ap length of-instance
        ∙ length-map (module_copies m) (late_at source s)
        ∙ sym as-many
