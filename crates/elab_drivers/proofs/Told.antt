-- What the table tells.
use Rattle.std.specs.Prelude.{◌≡◌, ℕ, zero, suc, ◌+◌, ◌<◌, ◌≤◌, ◌==◌, ◌||◌, List, [], ◌∷◌, ◌++◌, Bool, true, false, map, flat_map, length, replicate, refl, cond, slice_index_or}
use Rattle.std.specs.List.{AllByRecursion, range_with_len}
use Rattle.std.proofs.Common.{sym, ◌∙◌, ap, arith, subst}
use Rattle.std.proofs.lemmas.Bool.{eqb-true}
use Rattle.std.proofs.lemmas.List.{get_or-replicate, length-map, length-replicate}
use Rattle.sg_circuit.specs.FanOut.{has}
use Rattle.sg_circuit.specs.declared.nets.Driver.{Driver}
use Rattle.sg_circuit.specs.declared.nets.Driver.TheVariants.{Nobody, Notifier}
use Rattle.sg_text.specs.declared.places.Place.{Place}
use Rattle.circuit_model.specs.Driving.{NetDrive, drives_of, driver_of, driver_at, second_of, reg_faults, faults_at}
use Rattle.elab_numbering.specs.Driving.{NumberedDrive, by_checks, drivers_at, first_or_nobody, StandsFor, DrivesRegs}
use Rattle.elab_numbering.proofs.DriveLemmas.{at-append}
use Rattle.elab_drivers.specs.Tables.{driving_of, HasDrivers}
use Rattle.elab_drivers.proofs.ByNumber.{by_others, all_drives, drives-only, drivers-only}

-- nothing drives a net at first
pub nobody : (table : List Driver) (n : ℕ) → table ≡ replicate n Nobody → StandsFor table []
nobody table n e = record {
  first_is = λ k lt. ap (λ t. slice_index_or t k Nobody) e ∙ get_or-replicate n k Nobody Nobody (subst (λ m. k < m) (ap length e ∙ length-replicate n Nobody) lt);
  alone = λ k. omega arith;
  outside = tt;
}

-- ---- the table

-- what only timing checks may drive
checks-first : (k : ℕ) (regs : List ℕ) → first_or_nobody (drivers_at k (map by_checks regs)) ≡ driver_of (has k regs) []
checks-first k [] = refl
checks-first k (n ∷ regs) = by (n == k) (checks-first k regs)
  where
    by : (b : Bool) → first_or_nobody (drivers_at k (map by_checks regs)) ≡ driver_of (has k regs) []
        → first_or_nobody (cond b (Notifier ∷ drivers_at k (map by_checks regs)) (drivers_at k (map by_checks regs))) ≡ driver_of (b || has k regs) []
    by true h = refl
    by false h = h

first-driver : (k : ℕ) (regs : List ℕ) (ds : List NetDrive) → first_or_nobody (map (λ d. d.driver) ds ++ drivers_at k (map by_checks regs)) ≡ driver_of (has k regs) ds
first-driver k regs [] = checks-first k regs
first-driver k regs (d ∷ ds) = refl

-- a list that has at each place what a function gives there
list-is : (f : ℕ → Driver) (a n : ℕ) (xs : List Driver) → length xs ≡ n → ((i : ℕ) → i < length xs → slice_index_or xs i Nobody ≡ f (a + i)) → xs ≡ map f (range_with_len a n)
list-is f a zero [] l h = refl
list-is f a (suc n) [] l h = absurd (omega arith)
list-is f a zero (x ∷ xs) l h = absurd (omega arith)
list-is f a (suc n) (x ∷ xs) l h =
    let z : a + 0 ≡ a = omega arith in
    let first : x ≡ f a = h 0 (omega arith) ∙ ap f z in
    let rest : xs ≡ map f (range_with_len (a + 1) n) = list-is f (a + 1) n xs (omega arith) (λ i lt. h (suc i) (omega arith) ∙ ap f (shift a i)) in
    ap (λ y. y ∷ xs) first ∙ ap (λ ys. f a ∷ ys) rest
  where
    shift : (a i : ℕ) → a + suc i ≡ (a + 1) + i
    shift a i = omega arith

-- ---- no fault

-- what something else drives is no reg
free-none : (k : ℕ) (ds : List NumberedDrive) (regs : List ℕ) → AllByRecursion (λ n. drivers_at n ds ≡ []) regs → has k regs ≡ true → drivers_at k ds ≡ []
free-none k ds [] h e = cc
free-none k ds (n ∷ regs) h e = by (n == k) refl e (free-none k ds regs h.1)
  where
    by : (b : Bool) → (n == k) ≡ b → (b || has k regs) ≡ true → (has k regs ≡ true → drivers_at k ds ≡ []) → drivers_at k ds ≡ []
    by true t e rest = ap (λ j. drivers_at j ds) (sym (eqb-true n k t)) ∙ h.0
    by false t e rest = rest e

unmapped : (ds : List NetDrive) → map (λ d. d.driver) ds ≡ [] → ds ≡ []
unmapped [] e = refl
unmapped (d ∷ ds) e = cc

no-second : (ds : List NetDrive) → length ds ≤ 1 → second_of ds ≡ []
no-second [] le = refl
no-second (d ∷ []) le = refl
no-second (d ∷ e ∷ ds) le = absurd (omega arith)

no-reg : (b : Bool) (ds : List NetDrive) → (b ≡ true → ds ≡ []) → reg_faults b ds ≡ []
no-reg true ds h = ap (λ xs. reg_faults true xs) (h refl)
no-reg false ds h = refl

flat-none : {A B : Type 0} (f : A → List B) (xs : List A) → ((x : A) → f x ≡ []) → flat_map f xs ≡ []
flat-none f [] h = refl
flat-none f (x ∷ xs) h = ap (λ ys. ys ++ flat_map f xs) (h x) ∙ flat-none f xs h

-- what stands for the lists of numbers
record Stands (count : ℕ) (inputs : List ℕ) (input_places : List Place) (outputs : List ℕ) (places : List Place) (regs : List ℕ) (before table : List Driver) : Type 0 where
  input_places_are : length input_places ≡ length inputs
  places_are : length places ≡ length outputs
  nets_are : length table ≡ count
  alone : StandsFor before (by_others inputs outputs)
  driven : DrivesRegs table (by_others inputs outputs) regs

those : (count : ℕ) (inputs : List ℕ) (input_places : List Place) (outputs : List ℕ) (places : List Place) (regs : List ℕ) (before table : List Driver) → Stands count inputs input_places outputs places regs before table
    → (k : ℕ) → map (λ d. d.driver) (drives_of (all_drives inputs input_places outputs places) k) ≡ drivers_at k (by_others inputs outputs)
those count inputs input_places outputs places regs before table s k =
    drivers-only k (all_drives inputs input_places outputs places) ∙ ap (drivers_at k) (drives-only inputs input_places outputs places s.input_places_are s.places_are)

table-there : (count : ℕ) (inputs : List ℕ) (input_places : List Place) (outputs : List ℕ) (places : List Place) (regs : List ℕ) (before table : List Driver) → Stands count inputs input_places outputs places regs before table
    → (k : ℕ) → k < length table → slice_index_or table k Nobody ≡ driver_at (driving_of inputs input_places outputs places regs) k
table-there count inputs input_places outputs places regs before table s k lt =
    s.driven.first_is k lt
    ∙ ap first_or_nobody (at-append k (by_others inputs outputs) (map by_checks regs))
    ∙ ap (λ xs. first_or_nobody (xs ++ drivers_at k (map by_checks regs))) (sym (those count inputs input_places outputs places regs before table s k))
    ∙ first-driver k regs (drives_of (all_drives inputs input_places outputs places) k)

none-at : (count : ℕ) (inputs : List ℕ) (input_places : List Place) (outputs : List ℕ) (places : List Place) (regs : List ℕ) (before table : List Driver) → Stands count inputs input_places outputs places regs before table
    → (k : ℕ) → faults_at (driving_of inputs input_places outputs places regs) k ≡ []
none-at count inputs input_places outputs places regs before table s k =
    let ds = drives_of (all_drives inputs input_places outputs places) k in
    let e : map (λ d. d.driver) ds ≡ drivers_at k (by_others inputs outputs) = those count inputs input_places outputs places regs before table s k in
    let few : length ds ≤ 1 = subst (λ n. n ≤ 1) (sym (ap length e) ∙ length-map ds (λ d. d.driver)) (s.alone.alone k) in
    ap (λ xs. xs ++ reg_faults (has k regs) ds) (no-second ds few)
    ∙ no-reg (has k regs) ds (λ t. unmapped ds (e ∙ free-none k (by_others inputs outputs) regs s.driven.free t))

start : (i : ℕ) → i ≡ 0 + i
start i = omega arith

pub has-drivers : (count : ℕ) (inputs : List ℕ) (input_places : List Place) (outputs : List ℕ) (places : List Place) (regs : List ℕ) (before table : List Driver)
    → length input_places ≡ length inputs → length places ≡ length outputs → length table ≡ count
    → StandsFor before (by_others inputs outputs) → DrivesRegs table (by_others inputs outputs) regs
    → HasDrivers count (driving_of inputs input_places outputs places regs) table
has-drivers count inputs input_places outputs places regs before table l m n s r =
    let d = driving_of inputs input_places outputs places regs in
    let stands : Stands count inputs input_places outputs places regs before table = record { input_places_are = l; places_are = m; nets_are = n; alone = s; driven = r } in
    record {
      table_is = list-is (driver_at d) 0 count table n (λ i lt. table-there count inputs input_places outputs places regs before table stands i lt ∙ ap (driver_at d) (start i));
      faultless = flat-none (faults_at d) (range_with_len 0 count) (none-at count inputs input_places outputs places regs before table stands);
    }
