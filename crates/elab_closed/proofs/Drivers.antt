-- Each element is the driver of its output, and the driver of each net drives it.
use Rattle.std.specs.Prelude.{◌≡◌, ℕ, zero, suc, ◌+◌, ◌<◌, ◌==◌, List, [], ◌∷◌, Bool, true, false, ◌||◌, Some, cond, length, map, refl, slice_get, slice_index_or, zip}
use Rattle.std.specs.List.{AllByRecursion, enumerate_from, range_with_len}
use Rattle.std.proofs.Common.{sym, ◌∙◌, ap, arith, inl, inr, subst}
use Rattle.std.proofs.lemmas.Bool.{eq-eqb, eqb-true}
use Rattle.std.proofs.lemmas.Option.{get_or_from_slice_get, slice_get_within}
use Rattle.sg_circuit.specs.Circuit.{Element}
use Rattle.sg_circuit.specs.Closed.{IfElement}
use Rattle.sg_circuit.specs.FanOut.{has}
use Rattle.sg_circuit.specs.declared.nets.Driver.{Driver}
use Rattle.sg_circuit.specs.declared.nets.Driver.TheVariants as driver
use Rattle.sg_circuit.specs.declared.nets.Net.{Net}
use Rattle.sg_text.specs.declared.places.Place.{Place}
use Rattle.elab_model.specs.declared.kinds.ElabKind.TheVariants.{BadTerminal}
use Rattle.elab_model.specs.Faults.{fault}
use Rattle.circuit_model.specs.Circuits.{with_driver, driven_nets}
use Rattle.circuit_model.specs.Driving.{Driving, NetDrive, by_stimulus, by_element, net_drives, drives_of, driver_of, driver_at, second_of, reg_faults, net_faults, faults_at, driving_faults}
use Rattle.elab_laws.proofs.Filters.{in-filter}
use Rattle.elab_laws.proofs.Lists.{In, in-right, in-map, in-range, all-append, all-in, all-get}
use Rattle.elab_laws.proofs.NoFaults.{back, flat-empty, map-empty}
use Rattle.elab_closed.proofs.Places.{made-at, place-of, mapped-get, in-enumerate}

-- ---- the nets, each with its driver

abbrev with_drivers : (ℕ → Driver) → ℕ → List Net → List Net
with_drivers f a ns = map with_driver (zip ns (map f (range_with_len a (length ns))))

driver-there : (f : ℕ → Driver) (a : ℕ) (ns : List Net) (k : ℕ) (blank : Net) → k < length ns → (slice_index_or (with_drivers f a ns) k blank).driver ≡ f (a + k)
driver-there f a [] k blank lt = absurd (omega arith)
driver-there f a (n ∷ ns) zero blank lt = let z : a ≡ a + 0 = omega arith in ap f z
driver-there f a (n ∷ ns) (suc k) blank lt = let z : (a + 1) + k ≡ a + suc k = omega arith in driver-there f (a + 1) ns k blank (omega arith) ∙ ap f z

as-many : (f : ℕ → Driver) (a : ℕ) (ns : List Net) → length (with_drivers f a ns) ≡ length ns
as-many f a [] = refl
as-many f a (n ∷ ns) = ap suc (as-many f (a + 1) ns)

still-all : (P : ℕ → Type 0) (f : ℕ → Driver) (a : ℕ) (ns : List Net) → AllByRecursion (λ n. P n.scope) ns → AllByRecursion (λ n. P n.scope) (with_drivers f a ns)
still-all P f a [] h = tt
still-all P f a (n ∷ ns) h = (h.0, still-all P f (a + 1) ns h.1)

pub driven-count : (ns : List Net) (d : Driving) → length (driven_nets ns d) ≡ length ns
driven-count ns d = as-many (driver_at d) 0 ns

pub driven-scopes : (P : ℕ → Type 0) (ns : List Net) (d : Driving) → AllByRecursion (λ n. P n.scope) ns → AllByRecursion (λ n. P n.scope) (driven_nets ns d)
driven-scopes P ns d h = still-all P (driver_at d) 0 ns h

pub driven-at : (ns : List Net) (d : Driving) (k : ℕ) (blank : Net) → k < length ns → (slice_index_or (driven_nets ns d) k blank).driver ≡ driver_at d k
driven-at ns d k blank lt = let z : 0 + k ≡ k = omega arith in driver-there (driver_at d) 0 ns k blank lt ∙ ap (driver_at d) z

-- ---- each element is the driver of its output

-- a net without faults has one driver at most
only-driver : (is_reg : Bool) (ds : List NetDrive) (d : NetDrive) → net_faults is_reg ds ≡ [] → In d ds → driver_of is_reg ds ≡ d.driver
only-driver is_reg [] d h k = absurd k
only-driver is_reg (x ∷ []) d h (inl e) = sym (ap (λ y. y.driver) e)
only-driver is_reg (x ∷ []) d h (inr k) = absurd k
only-driver is_reg (x ∷ y ∷ ds) d h k = cc

element-drives : (d : Driving) (count e n : ℕ) (p : Place) → driving_faults d count ≡ [] → slice_get d.outputs e ≡ Some (p, n) → n < count → driver_at d n ≡ driver.Element e
element-drives d count e n p h at lt =
    let z : 0 + e ≡ e = omega arith in
    let x : ℕ × (Place × ℕ) = (e, (p, n)) in
    let numbered : In x (enumerate_from 0 d.outputs) = subst (λ k. In (k, (p, n)) (enumerate_from 0 d.outputs)) z (in-enumerate 0 d.outputs e (p, n) at) in
    let there : In (by_element x) (net_drives d) =
    in-right (by_element x) (map by_stimulus d.inputs) (map by_element (enumerate_from 0 d.outputs)) (in-map by_element x (enumerate_from 0 d.outputs) numbered) in
    let faultless : faults_at d n ≡ [] =
    all-in (λ k. faults_at d k ≡ []) n (range_with_len 0 count) (flat-empty (faults_at d) (range_with_len 0 count) h) (in-range n 0 count (omega arith) (omega arith)) in
    only-driver (has n d.regs) (drives_of (net_drives d) n) (by_element x) faultless (in-filter (λ d. d.net == n) (by_element x) (net_drives d) there (eq-eqb n n refl))

pub elements-named : (ns : List Net) (d : Driving) (es : List Element) → map (λ o. o.1) d.outputs ≡ map (λ e. e.output) es → driving_faults d (length ns) ≡ [] → AllByRecursion (λ e. e.output < length ns) es
    → (no_element : Element) (no_net : Net) (e : ℕ) → e < length es → (slice_index_or (driven_nets ns d) (slice_index_or es e no_element).output no_net).driver ≡ driver.Element e
elements-named ns d es outs faultless within no_element no_net e lt =
    let x = place-of es e lt in
    let n = x.0.output in
    let out : (slice_index_or es e no_element).output ≡ n = ap (λ z. z.output) (get_or_from_slice_get es e x.0 no_element x.1) in
    let r = made-at (λ o. o.1) d.outputs e n (ap (λ xs. slice_get xs e) outs ∙ mapped-get (λ e. e.output) es e x.0 x.1) in
    let small : n < length ns = all-get (λ e. e.output < length ns) es e x.0 within x.1 in
    let drives : driver_at d r.source.1 ≡ driver.Element e = element-drives d (length ns) e r.source.1 r.source.0 faultless r.at (subst (λ k. k < length ns) (sym r.made) small) in
    subst (λ k. (slice_index_or (driven_nets ns d) k no_net).driver ≡ driver.Element e) (sym out) (driven-at ns d n no_net small ∙ ap (driver_at d) (sym r.made) ∙ drives)

-- ---- the timing checks alone drive the net of a reg

has-there : (n : ℕ) (regs : List ℕ) → In n regs → has n regs ≡ true
has-there n [] h = absurd h
has-there n (m ∷ regs) (inl e) = ap (λ b. b || has n regs) (eq-eqb m n (sym e))
has-there n (m ∷ regs) (inr h) = by (m == n) (has-there n regs h)
  where
    by : (b : Bool) → has n regs ≡ true → (b || has n regs) ≡ true
    by true e = refl
    by false e = e

pub reg-toggled : (d : Driving) (count n : ℕ) → driving_faults d count ≡ [] → n < count → In n d.regs → driver_at d n ≡ driver.Notifier
reg-toggled d count n h lt there =
    let ds = drives_of (net_drives d) n in
    let reg : has n d.regs ≡ true = has-there n d.regs there in
    let faultless : faults_at d n ≡ [] =
    all-in (λ k. faults_at d k ≡ []) n (range_with_len 0 count) (flat-empty (faults_at d) (range_with_len 0 count) h) (in-range n 0 count (omega arith) (omega arith)) in
    let otherwise : reg_faults true ds ≡ [] = subst (λ b. reg_faults b ds ≡ []) reg (back (second_of ds) (reg_faults (has n d.regs) ds) faultless) in
    let none : ds ≡ [] = map-empty (λ d. fault BadTerminal d.place) ds otherwise in
    ap (λ b. driver_of b ds) reg ∙ ap (driver_of true) none

-- ---- the driver of a net drives it

-- a drive by an element is by one that drives this net
abbrev IsHonest : List (Place × ℕ) → NetDrive → Type 0
IsHonest outs d = IfElement d.driver (λ e. (p : Place) × (slice_get outs e ≡ Some (p, d.net)))

inputs-honest : (outs inputs : List (Place × ℕ)) → AllByRecursion (IsHonest outs) (map by_stimulus inputs)
inputs-honest outs [] = tt
inputs-honest outs (i ∷ inputs) = (tt, inputs-honest outs inputs)

outputs-honest : (all : List (Place × ℕ)) (a : ℕ) (xs : List (Place × ℕ)) → ((j : ℕ) → slice_get xs j ≡ slice_get all (a + j)) → AllByRecursion (IsHonest all) (map by_element (enumerate_from a xs))
outputs-honest all a [] h = tt
outputs-honest all a (x ∷ xs) h =
    let z : a + 0 ≡ a = omega arith in
    let first : slice_get all a ≡ Some x = ap (slice_get all) (sym z) ∙ sym (h 0) in
    ((x.0, first), outputs-honest all (a + 1) xs (λ j. h (suc j) ∙ ap (slice_get all) (shift a j)))
  where
    shift : (a j : ℕ) → a + suc j ≡ (a + 1) + j
    shift a j = omega arith

drives-honest : (d : Driving) → AllByRecursion (IsHonest d.outputs) (net_drives d)
drives-honest d =
    all-append (IsHonest d.outputs) (map by_stimulus d.inputs) (map by_element (enumerate_from 0 d.outputs)) (inputs-honest d.outputs d.inputs)
    (outputs-honest d.outputs 0 d.outputs (λ j. ap (slice_get d.outputs) (start j)))
  where
    start : (j : ℕ) → j ≡ 0 + j
    start j = omega arith

undriven-net : (is_reg : Bool) (P : ℕ → Type 0) → IfElement (driver_of is_reg []) P
undriven-net true P = tt
undriven-net false P = tt

first-drives : (outs : List (Place × ℕ)) (is_reg : Bool) (net : ℕ) (ds : List NetDrive) → AllByRecursion (IsHonest outs) ds
    → IfElement (driver_of is_reg (drives_of ds net)) (λ e. (p : Place) × (slice_get outs e ≡ Some (p, net)))
first-drives outs is_reg net [] h = undriven-net is_reg (λ e. (p : Place) × (slice_get outs e ≡ Some (p, net)))
first-drives outs is_reg net (d ∷ ds) h = by (d.net == net) refl (first-drives outs is_reg net ds h.1)
  where
    by : (b : Bool) → (d.net == net) ≡ b → IfElement (driver_of is_reg (drives_of ds net)) (λ e. (p : Place) × (slice_get outs e ≡ Some (p, net)))
        → IfElement (driver_of is_reg (cond b (d ∷ drives_of ds net) (drives_of ds net))) (λ e. (p : Place) × (slice_get outs e ≡ Some (p, net)))
    by true t rest = subst (λ n. IfElement d.driver (λ e. (p : Place) × (slice_get outs e ≡ Some (p, n)))) (eqb-true d.net net t) h.0
    by false t rest = rest

if-weaker : (d : Driver) (P Q : ℕ → Type 0) → ((e : ℕ) → P e → Q e) → IfElement d P → IfElement d Q
if-weaker driver.Nobody P Q f h = tt
if-weaker driver.Stimulus P Q f h = tt
if-weaker (driver.Element e) P Q f h = f e h
if-weaker driver.Notifier P Q f h = tt

pub nets-driven : (ns : List Net) (d : Driving) (es : List Element) → map (λ o. o.1) d.outputs ≡ map (λ e. e.output) es → (no_element : Element) (no_net : Net) (n : ℕ) → n < length (driven_nets ns d)
    → IfElement (slice_index_or (driven_nets ns d) n no_net).driver (λ e. (e < length es) × ((slice_index_or es e no_element).output ≡ n))
nets-driven ns d es outs no_element no_net n lt =
    let l = driven-count ns d in
    subst (λ w. IfElement w (λ e. (e < length es) × ((slice_index_or es e no_element).output ≡ n))) (sym (driven-at ns d n no_net (omega arith)))
    (if-weaker (driver_at d n) (λ e. (p : Place) × (slice_get d.outputs e ≡ Some (p, n))) (λ e. (e < length es) × ((slice_index_or es e no_element).output ≡ n))
    (λ e by.
    let r = made-at (λ e. e.output) es e n (ap (λ xs. slice_get xs e) (sym outs) ∙ mapped-get (λ o. o.1) d.outputs e (by.0, n) by.1) in
    (slice_get_within es e r.source r.at, ap (λ z. z.output) (get_or_from_slice_get es e r.source no_element r.at) ∙ r.made))
    (first-drives d.outputs (has n d.regs) n (net_drives d) (drives-honest d)))
