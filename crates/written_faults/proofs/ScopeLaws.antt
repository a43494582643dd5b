-- What some element or timing check of a scope passes, by the numbers that are kept of the scope.
use Rattle.std.proofs.Common.{◌≡◌, ℕ, zero, suc, ◌+◌, ◌<◌, Bool, true, false, All, List, [], ◌∷◌, ◌++◌, length, map, get_or, refl, sym, ◌∙◌, ap, subst, arith}
use Rattle.std.proofs.Math.Bool.{and-false, or-false}
use Rattle.std.specs.Prelude.{◌==◌, ◌&&◌, ◌||◌, None, if◌then◌else◌}
use Rattle.std.specs.List.{list_any}
use Rattle.std.proofs.lemmas.List.{get_or_default, get_or-map, length-map}
use Rattle.std.proofs.lemmas.List.Folds.{list_any-append}
use Rattle.sg_circuit.specs.declared.building.Pin.{Pin}
use Rattle.sg_circuit.specs.declared.checks.Check.{Check}
use Rattle.sg_circuit.specs.declared.checks.CheckTiming.{CheckTiming}
use Rattle.sg_circuit.specs.declared.checks.CheckConditions as code_conditions
use Rattle.sg_circuit.specs.declared.circuits.Parts.{Parts}
use Rattle.sg_circuit.specs.declared.elements.ElementKind.{ElementKind}
use Rattle.sg_circuit.specs.declared.elements.ElementKind.TheVariants as code
use Rattle.sg_circuit.specs.Timings.{Timing}
use Rattle.sg_circuit.specs.Paths as specify
use Rattle.sg_circuit.specs.Checks.{CheckConditions}
use Rattle.sg_circuit.specs.ChecksSeen.{written_seen, AreWritten}
use Rattle.sg_circuit.specs.Circuit.{Circuit, Element, Kind, Leg, Path, Gate, Udp, Pass, Late, element_at}
use Rattle.sg_circuit.specs.Closed.{IsClosed}
use Rattle.sg_circuit.specs.FanOut.{readers_at}
use Rattle.sg_circuit.specs.Pins.{elements_on}
use Rattle.sg_circuit.specs.Seen.{circuit_seen, element_seen, kind_seen, AreIndexed}
use Rattle.sg_circuit.proofs.PinLaws.{picked-append}
use Rattle.late_limits.specs.Grouping.{element_scope, pin_by, pins_by}
use Rattle.annotation_model.specs.Finding.{check_at, no_check}
use Rattle.annotation_model.specs.Spots.{Checked, all_checked, checked, Spot, leg_spot, path_spot, spots, spots_in, spots_of}
use Rattle.annotation_model.proofs.EntryLaws.{any-same}
use Rattle.written_entries.specs.declared.groups.Groups.{Groups}
use Rattle.written_entries.specs.Groups.{AreGroups, any_check, check_scope, is_delayed, is_delayed_kind}
use Rattle.written_entries.proofs.GroupLaws.{pin-is}
use Rattle.written_entries.proofs.NumberLaws.{checks_of_scope, element_numbers, elements_of_scope}
use Rattle.written_faults.specs.Delayed.{any_delayed}
use Rattle.written_model.specs.Entries.{CheckEntry, check_entries, check_entry, checks_at, parts_of}
use Rattle.written_faults.proofs.AnyLaws.{any-flat, any-if, any-map, any-under}

-- ---- items that a table keeps by their scopes

-- the pins of items are those of what these stand for
pins-seen : {A B : Type 0} (key : A → ℕ) (test : A → Bool) (seen_key : B → ℕ) (seen_test : B → Bool) (seen : A → B) → ((x : A) → seen_key (seen x) ≡ key x) → ((x : A) → seen_test (seen x) ≡ test x)
    → (n : ℕ) (xs : List A) → pins_by seen_key seen_test n (map seen xs) ≡ pins_by key test n xs
pins-seen key test seen_key seen_test seen keys tests n [] = refl
pins-seen key test seen_key seen_test seen keys tests n (x ∷ xs) =
    ap (λ k. (if seen_test (seen x) then record { net = k; element = n } ∷ [] else []) ++ pins_by seen_key seen_test (n + 1) (map seen xs)) (keys x)
    ∙ ap (λ b. (if b then record { net = key x; element = n } ∷ [] else []) ++ pins_by seen_key seen_test (n + 1) (map seen xs)) (tests x)
    ∙ ap (λ ps. pin_by key test n x ++ ps) (pins-seen key test seen_key seen_test seen keys tests (n + 1) xs)

module _ {A : Type 0} (key : A → ℕ) (test : A → Bool) (s : ℕ) where
  -- numbers pass a test exactly where the items there do
  pub any-picked : (r : ℕ → Bool) (q : A → Bool) (n : ℕ) (xs : List A) → ((i : ℕ) (x : A) → i < length xs → x ≡ get_or xs i x → r (n + i) ≡ q x) → ((x : A) → test x ≡ false → q x ≡ false)
      → list_any r (elements_on s (pins_by key test n xs)) ≡ list_any (λ x. (key x == s) && q x) xs
  any-picked r q n [] at none = refl
  any-picked r q n (x ∷ xs) at none =
      let rest : List Pin = pins_by key test (n + 1) xs in
      let here : r n ≡ q x = subst (λ m. r m ≡ q x) (omega arith) (at 0 x (omega arith) refl) in
      ap (list_any r) (picked-append s (pin_by key test n x) rest)
      ∙ (list_any-append r (elements_on s (pin_by key test n x)) (elements_on s rest)
      ∙ (ap (λ ks. list_any r ks || list_any r (elements_on s rest)) (pin-is key test s n x)
      ∙ (ap (λ b. b || list_any r (elements_on s rest)) (by (key x == s) (test x) refl here)
      ∙ ap (λ b. ((key x == s) && q x) || b) (any-picked r q (n + 1) xs (λ i y l e. subst (λ m. r m ≡ q y) (omega arith) (at (suc i) y (omega (arith, l)) e)) none))))
    where
      by : (b t : Bool) → test x ≡ t → r n ≡ q x → list_any r (if b && t then n ∷ [] else []) ≡ (b && q x)
      by true true e here = or-false (r n) ∙ here
      by true false e here = sym (none x e)
      by false true e here = refl
      by false false e here = refl

  -- the same of numbers from 0
  pub any_picked : (r : ℕ → Bool) (q : A → Bool) (xs : List A) → ((i : ℕ) (x : A) → i < length xs → x ≡ get_or xs i x → r i ≡ q x) → ((x : A) → test x ≡ false → q x ≡ false)
      → list_any r (elements_on s (pins_by key test 0 xs)) ≡ list_any (λ x. (key x == s) && q x) xs
  any_picked r q xs at none = any-picked r q 0 xs (λ i x l e. subst (λ m. r m ≡ q x) (omega arith) (at i x l e)) none

-- ---- the elements of a scope

none_delayed : (leg : List Timing → Bool) (path : specify.Path → Bool) (parts : Parts) (kind : ElementKind) → is_delayed_kind kind ≡ false → any_delayed leg path (kind_seen parts kind) ≡ false
none_delayed leg path parts (code.Gate gate delays) e = refl
none_delayed leg path parts (code.Udp udp delays) e = refl
none_delayed leg path parts (code.Pass constant) e = refl
none_delayed leg path parts (code.Leg timing) e = absurd cc
none_delayed leg path parts (code.Path paths style) e = absurd cc
none_delayed leg path parts (code.Late delay) e = refl

pub any_element : (leg : List Timing → Bool) (path : specify.Path → Bool) (parts : Parts) (g : Groups) (s : ℕ) → AreGroups parts g → s < length parts.scopes.items
    → list_any (λ n. any_delayed leg path (element_at (circuit_seen parts) n).kind) (readers_at g.elements s) ≡ list_any (λ (e : Element). (e.scope == s) && any_delayed leg path e.kind) (circuit_seen parts).elements
any_element leg path parts g s groups within =
    let xs = parts.elements.items in
    let delayed : Element → Bool = λ e. any_delayed leg path e.kind in
    ap (list_any (λ n. delayed (element_at (circuit_seen parts) n))) (element_numbers parts g groups s within)
    ∙ (any_picked element_scope is_delayed s (λ n. delayed (element_at (circuit_seen parts) n)) (λ x. delayed (element_seen parts x)) xs
    (λ i x l e. ap delayed (get_or-map (element_seen parts) xs i x (record { scope = 0; inputs = []; output = 0; kind = Pass None }) l ∙ ap (element_seen parts) (sym e)))
    (λ x e. none_delayed leg path parts x.kind e)
    ∙ sym (any-map (λ (e : Element). (e.scope == s) && any_delayed leg path e.kind) (element_seen parts) xs))

pub elements_there : (parts : Parts) (g : Groups) → AreGroups parts g → (s : ℕ) → s < length parts.scopes.items → (ns : List ℕ) → ns ≡ readers_at g.elements s → All (λ n. n < length parts.elements.items) ns
elements_there parts g groups s within ns is = subst (λ ks. All (λ n. n < length parts.elements.items) ks) (sym is) (elements_of_scope parts g groups s within).within

-- ---- the timing checks of a scope

pub checks_there : (parts : Parts) (g : Groups) → AreGroups parts g → (s : ℕ) → s < length parts.scopes.items → (ns : List ℕ) → ns ≡ readers_at g.checks s → All (λ n. n < length parts.checks.items) ns
checks_there parts g groups s within ns is = subst (λ ks. All (λ n. n < length parts.checks.items) ks) (sym is) (checks_of_scope parts g groups s within).within

checks_are : (ks : List Check) (ts : List CheckTiming) (ws : List CheckConditions) → length ts ≡ length ks → length ws ≡ length ks → map (λ (k : Checked). k.check) (checked ks ts ws) ≡ ks
checks_are [] ts ws t w = refl
checks_are (k ∷ ks) [] ws t w = absurd (omega (arith, t))
checks_are (k ∷ ks) (x ∷ ts) [] t w = absurd (omega (arith, w))
checks_are (k ∷ ks) (x ∷ ts) (y ∷ ws) t w = ap (λ l. k ∷ l) (checks_are ks ts ws (omega (arith, t)) (omega (arith, w)))

pub any_check_of : (c : Circuit) (closed : IsClosed c) (numbers : List ℕ) (s : ℕ) (q : Checked → Bool) → numbers ≡ elements_on s (pins_by check_scope any_check 0 c.checks)
    → list_any (λ n. q (check_at c n)) numbers ≡ list_any (λ (k : Checked). (k.check.scope == s) && q k) (all_checked c)
any_check_of c closed numbers s q is =
    let xs = all_checked c in
    let same : map (λ (k : Checked). k.check) xs ≡ c.checks = checks_are c.checks c.check_timings c.check_conditions closed.timing_of_each closed.conditions_of_each in
    ap (list_any (λ n. q (check_at c n))) (is ∙ (ap (λ ks. elements_on s (pins_by check_scope any_check 0 ks)) (sym same)
    ∙ ap (elements_on s) (pins-seen (λ (k : Checked). k.check.scope) (λ (k : Checked). true) check_scope any_check (λ (k : Checked). k.check) (λ k. refl) (λ k. refl) 0 xs)))
    ∙ any_picked (λ (k : Checked). k.check.scope) (λ (k : Checked). true) s (λ n. q (check_at c n)) q xs (λ i k l e. ap q (get_or_default xs i no_check k l ∙ sym e)) (λ k e. absurd cc)

-- what a check of a number looks for, and how its conditions are spelled
checked_timing : (ks : List Check) (ts : List CheckTiming) (ws : List CheckConditions) (n : ℕ) (d : Checked) (t : CheckTiming) → length ts ≡ length ks → length ws ≡ length ks → n < length ks → (get_or (checked ks ts ws) n d).timing ≡ get_or ts n t
checked_timing [] ts ws n d t a b l = absurd (omega (arith, l))
checked_timing (k ∷ ks) [] ws n d t a b l = absurd (omega (arith, a))
checked_timing (k ∷ ks) (x ∷ ts) [] n d t a b l = absurd (omega (arith, b))
checked_timing (k ∷ ks) (x ∷ ts) (y ∷ ws) zero d t a b l = refl
checked_timing (k ∷ ks) (x ∷ ts) (y ∷ ws) (suc n) d t a b l = checked_timing ks ts ws n d t (omega (arith, a)) (omega (arith, b)) (omega (arith, l))

checked_written : (ks : List Check) (ts : List CheckTiming) (ws : List CheckConditions) (n : ℕ) (d : Checked) (w : CheckConditions) → length ts ≡ length ks → length ws ≡ length ks → n < length ks → (get_or (checked ks ts ws) n d).written ≡ get_or ws n w
checked_written [] ts ws n d w a b l = absurd (omega (arith, l))
checked_written (k ∷ ks) [] ws n d w a b l = absurd (omega (arith, a))
checked_written (k ∷ ks) (x ∷ ts) [] n d w a b l = absurd (omega (arith, b))
checked_written (k ∷ ks) (x ∷ ts) (y ∷ ws) zero d w a b l = refl
checked_written (k ∷ ks) (x ∷ ts) (y ∷ ws) (suc n) d w a b l = checked_written ks ts ws n d w (omega (arith, a)) (omega (arith, b)) (omega (arith, l))

pub timing_there : (c : Circuit) → IsClosed c → (n : ℕ) (t : CheckTiming) → n < length c.checks → t ≡ get_or c.check_timings n t → (check_at c n).timing ≡ t
timing_there c closed n t l is = checked_timing c.checks c.check_timings c.check_conditions n no_check t closed.timing_of_each closed.conditions_of_each l ∙ sym is

pub written_there : (parts : Parts) → IsClosed (circuit_seen parts) → (n : ℕ) (w : code_conditions.CheckConditions) → n < length parts.checks.items → w ≡ get_or parts.check_conditions.items n w
    → (check_at (circuit_seen parts) n).written ≡ written_seen parts.conditions.items w
written_there parts closed n w l is =
    let c = circuit_seen parts in
    let m : n < length parts.check_conditions.items = (let e = closed.conditions_of_each in let f = length-map parts.check_conditions.items (written_seen parts.conditions.items) in omega (arith, e, f, l)) in
    checked_written c.checks c.check_timings c.check_conditions n no_check (written_seen parts.conditions.items w) closed.timing_of_each closed.conditions_of_each l
    ∙ (get_or-map (written_seen parts.conditions.items) parts.check_conditions.items n w (written_seen parts.conditions.items w) m ∙ ap (written_seen parts.conditions.items) (sym is))

pub written_within : (parts : Parts) → IsClosed (circuit_seen parts) → AreIndexed parts → (n : ℕ) (w : code_conditions.CheckConditions) → n < length parts.checks.items → w ≡ get_or parts.check_conditions.items n w → AreWritten (length parts.conditions.items) w
written_within parts closed indexed n w l is =
    let e = closed.conditions_of_each in
    let f = length-map parts.check_conditions.items (written_seen parts.conditions.items) in
    subst (AreWritten (length parts.conditions.items)) (sym is) (indexed.written n w (omega (arith, e, f, l)))

-- ---- the spots of a scope

module _ (leg : List Timing → Bool) (path : specify.Path → Bool) where
  -- whether a spot of a scope passes
  abbrev pub passes : ℕ → Spot → Bool
  passes s (leg_spot scope inputs output timings) = (scope == s) && leg timings
  passes s (path_spot scope output p) = (scope == s) && path p

  passes-in : (s scope : ℕ) (inputs : List ℕ) (output : ℕ) (kind : Kind) → list_any (passes s) (spots_in scope inputs output kind) ≡ ((scope == s) && any_delayed leg path kind)
  passes-in s scope inputs output (Gate gate delays) = sym (and-false (scope == s))
  passes-in s scope inputs output (Udp primitive first delays) = sym (and-false (scope == s))
  passes-in s scope inputs output (Pass constant) = sym (and-false (scope == s))
  passes-in s scope inputs output (Leg timings) = or-false ((scope == s) && leg timings)
  passes-in s scope inputs output (Path paths style) = any-map (passes s) (path_spot scope output) paths ∙ any-under (scope == s) path paths
  passes-in s scope inputs output (Late delay) = sym (and-false (scope == s))

  pub any_spot : (c : Circuit) (s : ℕ) → list_any (passes s) (spots c) ≡ list_any (λ (e : Element). (e.scope == s) && any_delayed leg path e.kind) c.elements
  any_spot c s = any-flat (passes s) spots_of c.elements
      ∙ any-same (λ e. list_any (passes s) (spots_of e)) (λ (e : Element). (e.scope == s) && any_delayed leg path e.kind) c.elements (λ e. passes-in s e.scope e.inputs e.output e.kind)

-- what is asked of each part of a check of a scope
pub any_entry : (c : Circuit) (s : ℕ) (p : CheckEntry → Bool) → list_any p (check_entries c s) ≡ list_any (λ (k : Checked). (k.check.scope == s) && list_any (λ part. p (check_entry k part)) (parts_of k.timing.kind k.timing.limits)) (all_checked c)
any_entry c s p =
    any-flat p (checks_at s) (all_checked c)
    ∙ any-same (λ k. list_any p (checks_at s k)) (λ (k : Checked). (k.check.scope == s) && list_any (λ part. p (check_entry k part)) (parts_of k.timing.kind k.timing.limits)) (all_checked c)
    (λ k. any-if (k.check.scope == s) p (map (check_entry k) (parts_of k.timing.kind k.timing.limits))
    ∙ ap (λ b. (k.check.scope == s) && b) (any-map p (check_entry k) (parts_of k.timing.kind k.timing.limits)))
