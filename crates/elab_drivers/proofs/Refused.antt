-- What is refused is a fault.
use Rattle.std.specs.Prelude.{◌≡◌, ℕ, zero, suc, ◌+◌, ◌<◌, ◌==◌, ◌||◌, List, [], ◌∷◌, ◌++◌, Bool, true, false, Some, map, take, length, refl, cond, slice_get, slice_index_or}
use Rattle.std.specs.List.{AllByRecursion, IsAmong, range_with_len}
use Rattle.std.proofs.Common.{sym, ◌∙◌, ap, arith, inl, inr, subst}
use Rattle.std.proofs.lemmas.Bool.{eq-eqb, eqb-true}
use Rattle.std.proofs.lemmas.List.Elements.{filter-append}
use Rattle.sg_circuit.specs.FanOut.{has}
use Rattle.sg_circuit.specs.declared.nets.Driver.{Driver}
use Rattle.sg_circuit.specs.declared.nets.Driver.TheVariants.{Element}
use Rattle.sg_text.specs.declared.places.Place.{Place}
use Rattle.sg_text.specs.declared.refusals.Refused.{Refused}
use Rattle.sg_text.specs.declared.refusals.Refused.TheVariants as refused
use Rattle.elab_model.specs.declared.kinds.ElabKind.{ElabKind}
use Rattle.elab_model.specs.declared.kinds.ElabKind.TheVariants.{SecondDriver, BadTerminal}
use Rattle.elab_model.specs.Faults.{fault, RefusesOneOf}
use Rattle.circuit_model.specs.Driving.{NetDrive, by_stimulus, by_element, drives_of, second_of, reg_faults, faults_at, driving_faults}
use Rattle.elab_laws.proofs.Lists.{In, in-left, in-right, in-map, in-flat, in-range, all-in}
use Rattle.elab_numbering.specs.Driving.{IsSecond, IsTaken, drivers_at}
use Rattle.elab_numbering.specs.Driving as numbered
use Rattle.elab_drivers.specs.Drivers.{IsPlaceOfDriver}
use Rattle.elab_drivers.specs.Tables.{driving_of}
use Rattle.elab_drivers.proofs.ByNumber.{placed_inputs, placed_outputs, all_drives, number_only, drives-only, drivers-only, drives-below}
use Rattle.elab_drivers.proofs.Members.{in-among, among-in, in-filter, from-filter, all-filter}

-- a fault of one of the nets
refuses : (count k : ℕ) (inputs : List ℕ) (input_places : List Place) (outputs : List ℕ) (places : List Place) (regs : List ℕ) (kind : ElabKind) (p : Place) (r : Refused ElabKind)
    → r ≡ refused.Fault kind p → k < count → In (fault kind p) (faults_at (driving_of inputs input_places outputs places regs) k)
    → RefusesOneOf (driving_faults (driving_of inputs input_places outputs places regs) count) r
refuses count k inputs input_places outputs places regs kind p r e lt h =
    let d = driving_of inputs input_places outputs places regs in
    subst (RefusesOneOf (driving_faults d count)) (sym e)
    (in-among (fault kind p) (driving_faults d count) (in-flat (faults_at d) k (fault kind p) (range_with_len 0 count) (in-range k 0 count (omega arith) (omega arith)) h))

-- ---- a second driver

second-there : (p : Place) (is_reg : Bool) (x y : NetDrive) (ds : List NetDrive) → y.place ≡ p → In (fault SecondDriver p) (second_of (x ∷ y ∷ ds) ++ reg_faults is_reg (x ∷ y ∷ ds))
second-there p is_reg x y ds e = inl (ap (fault SecondDriver) (sym e))

-- an input that has a driver before it
taken-second : (p : Place) (n : ℕ) (is_reg : Bool) (before : List NetDrive) (d : NetDrive) (after : List NetDrive) (w : Driver) → map (λ d. d.driver) (drives_of before n) ≡ w ∷ [] → (d.net == n) ≡ true
    → d.place ≡ p → In (fault SecondDriver p) (second_of (drives_of (before ++ d ∷ after) n) ++ reg_faults is_reg (drives_of (before ++ d ∷ after) n))
taken-second p n is_reg before d after w e same at =
    let s : drives_of (before ++ d ∷ after) n ≡ drives_of before n ++ d ∷ drives_of after n =
    filter-append (λ d. d.net == n) before (d ∷ after) ∙ ap (λ b. drives_of before n ++ cond b (d ∷ drives_of after n) (drives_of after n)) same in
    subst (λ xs. In (fault SecondDriver p) (second_of xs ++ reg_faults is_reg xs)) (sym s) (one (drives_of before n) e)
  where
    one : (xs : List NetDrive) → map (λ d. d.driver) xs ≡ w ∷ [] → In (fault SecondDriver p) (second_of (xs ++ d ∷ drives_of after n) ++ reg_faults is_reg (xs ++ d ∷ drives_of after n))
    one [] e = cc
    one (x ∷ []) e = second-there p is_reg x d (drives_of after n) at
    one (x ∷ y ∷ xs) e = cc

-- the inputs before a place, the one there, and those behind
record Split (inputs : List ℕ) (places : List Place) (i : ℕ) (d : Place) : Type 0 where
  pub before : List NetDrive
  pub after : List NetDrive
  pub whole : placed_inputs inputs places ≡ before ++ by_stimulus (slice_index_or places i d, slice_index_or inputs i 0) ∷ after
  pub numbers : map number_only before ≡ map numbered.by_stimulus (take i inputs)

split : (inputs : List ℕ) (places : List Place) (i : ℕ) (d : Place) → length places ≡ length inputs → i < length inputs → Split inputs places i d
split [] places i d l lt = absurd (omega arith)
split (n ∷ inputs) [] i d l lt = absurd (omega arith)
split (n ∷ inputs) (p ∷ places) zero d l lt = record { before = []; after = placed_inputs inputs places; whole = refl; numbers = refl }
split (n ∷ inputs) (p ∷ places) (suc i) d l lt =
    let r = split inputs places i d (omega arith) (omega arith) in
    record {
      before = by_stimulus (p, n) ∷ r.before;
      after = r.after;
      whole = ap (λ xs. by_stimulus (p, n) ∷ xs) r.whole;
      numbers = ap (λ xs. numbered.by_stimulus n ∷ xs) r.numbers;
    }

pub refuses-input : (count : ℕ) (inputs : List ℕ) (input_places : List Place) (outputs : List ℕ) (places : List Place) (regs : List ℕ) (i : ℕ) (d : Place) (r : Refused ElabKind)
    → r ≡ refused.Fault SecondDriver (slice_index_or input_places i d) → length input_places ≡ length inputs → i < length inputs
    → AllByRecursion (λ n. n < count) inputs → AllByRecursion (λ n. n < count) outputs
    → IsTaken (slice_index_or inputs i 0) (map numbered.by_stimulus (take i inputs)) → RefusesOneOf (driving_faults (driving_of inputs input_places outputs places regs) count) r
refuses-input count inputs input_places outputs places regs i d r e l lt below outs taken =
    let n = slice_index_or inputs i 0 in
    let p = slice_index_or input_places i d in
    let s = split inputs input_places i d l lt in
    let one : map (λ d. d.driver) (drives_of s.before n) ≡ taken.0 ∷ [] = drivers-only n s.before ∙ ap (drivers_at n) s.numbers ∙ taken.1 in
    let whole : all_drives inputs input_places outputs places ≡ s.before ++ by_stimulus (p, n) ∷ (s.after ++ placed_outputs 0 outputs places) =
    ap (λ xs. xs ++ placed_outputs 0 outputs places) s.whole ∙ appended s.before (by_stimulus (p, n)) s.after (placed_outputs 0 outputs places) in
    let there : AllByRecursion (λ d. d.net < count) (s.before ++ by_stimulus (p, n) ∷ (s.after ++ placed_outputs 0 outputs places)) =
    subst (AllByRecursion (λ d. d.net < count)) whole (drives-below count inputs input_places outputs places below outs) in
    let small : n < count = all-in (λ d. d.net < count) (by_stimulus (p, n)) _ there (in-right (by_stimulus (p, n)) s.before (by_stimulus (p, n) ∷ (s.after ++ placed_outputs 0 outputs places)) (inl refl)) in
    refuses count n inputs input_places outputs places regs SecondDriver p r e small
    (subst (λ ds. In (fault SecondDriver p) (second_of (drives_of ds n) ++ reg_faults (has n regs) (drives_of ds n))) (sym whole)
    (taken-second p n (has n regs) s.before (by_stimulus (p, n)) (s.after ++ placed_outputs 0 outputs places) taken.0 one (eq-eqb n n refl) refl))
  where
    appended : (xs : List NetDrive) (y : NetDrive) (ys zs : List NetDrive) → (xs ++ y ∷ ys) ++ zs ≡ xs ++ y ∷ (ys ++ zs)
    appended [] y ys zs = refl
    appended (x ∷ xs) y ys zs = ap (λ ws. x ∷ ws) (appended xs y ys zs)

-- the place of a drive of an element is that of the element
abbrev IsPlaced : List Place → NetDrive → Type 0
IsPlaced places d = (j : ℕ) → d.driver ≡ Element j → slice_get places j ≡ Some d.place

inputs-placed : (places : List Place) (inputs : List ℕ) (input_places : List Place) → AllByRecursion (IsPlaced places) (placed_inputs inputs input_places)
inputs-placed places inputs [] = tt
inputs-placed places [] (p ∷ input_places) = tt
inputs-placed places (n ∷ inputs) (p ∷ input_places) = ((λ j e. cc), inputs-placed places inputs input_places)

outputs-placed : (all : List Place) (i : ℕ) (outputs : List ℕ) (places : List Place) → ((j : ℕ) → slice_get places j ≡ slice_get all (i + j)) → AllByRecursion (IsPlaced all) (placed_outputs i outputs places)
outputs-placed all i outputs [] h = tt
outputs-placed all i [] (p ∷ places) h = tt
outputs-placed all i (n ∷ outputs) (p ∷ places) h =
    let z : i + 0 ≡ i = omega arith in
    let first : slice_get all i ≡ Some p = ap (slice_get all) (sym z) ∙ sym (h 0) in
    ((λ j e. let k : i ≡ j = cc in ap (slice_get all) (sym k) ∙ first), outputs-placed all (i + 1) outputs places (λ j. h (suc j) ∙ ap (slice_get all) (shift i j)))
  where
    shift : (i j : ℕ) → i + suc j ≡ (i + 1) + j
    shift i j = omega arith

drives-placed : (inputs : List ℕ) (input_places : List Place) (outputs : List ℕ) (places : List Place) → AllByRecursion (IsPlaced places) (all_drives inputs input_places outputs places)
drives-placed inputs input_places outputs places =
    joined (placed_inputs inputs input_places) (placed_outputs 0 outputs places) (inputs-placed places inputs input_places)
    (outputs-placed places 0 outputs places (λ j. ap (slice_get places) (start j)))
  where
    start : (j : ℕ) → j ≡ 0 + j
    start j = omega arith

    joined : (xs ys : List NetDrive) → AllByRecursion (IsPlaced places) xs → AllByRecursion (IsPlaced places) ys → AllByRecursion (IsPlaced places) (xs ++ ys)
    joined [] ys h k = k
    joined (x ∷ xs) ys h k = (h.0, joined xs ys h.1 k)

-- of the drives of a net the second is by this element
record Second (places : List Place) (count k : ℕ) (is_reg : Bool) (p : Place) (ds : List NetDrive) : Type 0 where
  pub below : k < count
  pub there : In (fault SecondDriver p) (second_of ds ++ reg_faults is_reg ds)

second-of : (places : List Place) (count k j : ℕ) (is_reg : Bool) (p : Place) (ds : List NetDrive) (first : Driver) (rest : List Driver) → map (λ d. d.driver) ds ≡ first ∷ Element j ∷ rest
    → AllByRecursion (IsPlaced places) ds → ((d : NetDrive) → In d ds → k < count) → slice_get places j ≡ Some p → Second places count k is_reg p ds
second-of places count k j is_reg p [] first rest e h below at = cc
second-of places count k j is_reg p (x ∷ []) first rest e h below at = cc
second-of places count k j is_reg p (x ∷ y ∷ ds) first rest e h below at =
    let g : y.driver ≡ Element j = cc in
    let s : Some y.place ≡ Some p = sym (h.1.0 j g) ∙ at in
    let q : y.place ≡ p = cc in
    record { below = below x (inl refl); there = second-there p is_reg x y ds q }

got : (places : List Place) (j : ℕ) (d : Place) → j < length places → slice_get places j ≡ Some (slice_index_or places j d)
got [] j d lt = absurd (omega arith)
got (p ∷ places) zero d lt = refl
got (p ∷ places) (suc j) d lt = got places j d (omega arith)

pub refuses-output : (count : ℕ) (inputs : List ℕ) (input_places : List Place) (outputs : List ℕ) (places : List Place) (regs : List ℕ) (j : ℕ) (d : Place) (r : Refused ElabKind)
    → r ≡ refused.Fault SecondDriver (slice_index_or places j d) → length input_places ≡ length inputs → length places ≡ length outputs → j < length outputs
    → AllByRecursion (λ n. n < count) inputs → AllByRecursion (λ n. n < count) outputs
    → IsSecond (map numbered.by_stimulus inputs) outputs j → RefusesOneOf (driving_faults (driving_of inputs input_places outputs places regs) count) r
refuses-output count inputs input_places outputs places regs j d r e l m lt below outs second =
    let k = second.net in
    let ds = all_drives inputs input_places outputs places in
    let p = slice_index_or places j d in
    let those : map (λ d. d.driver) (drives_of ds k) ≡ second.first ∷ Element j ∷ second.rest =
    drivers-only k ds ∙ ap (drivers_at k) (drives-only inputs input_places outputs places l m) ∙ second.drivers in
    let all = drives-below count inputs input_places outputs places below outs in
    let s = second-of places count k j (has k regs) p (drives_of ds k) second.first second.rest those
    (all-filter (IsPlaced places) (λ d. d.net == k) ds (drives-placed inputs input_places outputs places))
    (λ x h. let f = from-filter (λ d. d.net == k) x ds h in subst (λ n. n < count) (eqb-true x.net k f.1) (all-in (λ d. d.net < count) x ds all f.0))
    (got places j d (subst (λ n. j < n) (sym m) lt)) in
    refuses count k inputs input_places outputs places regs SecondDriver p r e s.below s.there

-- ---- a driven reg

has-there : (n : ℕ) (regs : List ℕ) → In n regs → has n regs ≡ true
has-there n [] h = absurd h
has-there n (m ∷ regs) (inl e) = ap (λ b. b || has n regs) (eq-eqb m n (sym e))
has-there n (m ∷ regs) (inr h) = by (m == n) (has-there n regs h)
  where
    by : (b : Bool) → has n regs ≡ true → (b || has n regs) ≡ true
    by true k = refl
    by false k = k

input-drives : (n : ℕ) (p : Place) (inputs : List ℕ) (places : List Place) (i : ℕ) → slice_get inputs i ≡ Some n → slice_get places i ≡ Some p → In (by_stimulus (p, n)) (placed_inputs inputs places)
input-drives n p [] places i e f = cc
input-drives n p (m ∷ inputs) [] i e f = cc
input-drives n p (m ∷ inputs) (q ∷ places) zero e f =
    let a : m ≡ n = cc in
    let b : q ≡ p = cc in
    inl (λ i. by_stimulus (sym b i, sym a i))
input-drives n p (m ∷ inputs) (q ∷ places) (suc i) e f = inr (input-drives n p inputs places i e f)

-- an element drives it
record Drives (n : ℕ) (p : Place) (ds : List NetDrive) : Type 0 where
  pub drive : NetDrive
  pub there : In drive ds
  pub net_is : drive.net ≡ n
  pub place_is : drive.place ≡ p

output-drives : (n : ℕ) (p : Place) (a : ℕ) (outputs : List ℕ) (places : List Place) (i : ℕ) → slice_get outputs i ≡ Some n → slice_get places i ≡ Some p → Drives n p (placed_outputs a outputs places)
output-drives n p a [] places i e f = cc
output-drives n p a (m ∷ outputs) [] i e f = cc
output-drives n p a (m ∷ outputs) (q ∷ places) zero e f = record { drive = by_element (a, (q, m)); there = inl refl; net_is = cc; place_is = cc }
output-drives n p a (m ∷ outputs) (q ∷ places) (suc i) e f =
    let r = output-drives n p (a + 1) outputs places i e f in
    record { drive = r.drive; there = inr r.there; net_is = r.net_is; place_is = r.place_is }

driver-drives : (n : ℕ) (p : Place) (inputs : List ℕ) (input_places : List Place) (outputs : List ℕ) (places : List Place) → IsPlaceOfDriver n inputs input_places outputs places p
    → Drives n p (all_drives inputs input_places outputs places)
driver-drives n p inputs input_places outputs places (inl h) =
    record { drive = by_stimulus (p, n); there = in-left (by_stimulus (p, n)) (placed_inputs inputs input_places) (placed_outputs 0 outputs places) (input-drives n p inputs input_places h.at h.net_is h.place_is); net_is = refl; place_is = refl }
driver-drives n p inputs input_places outputs places (inr h) =
    let r = output-drives n p 0 outputs places h.at h.net_is h.place_is in
    record { drive = r.drive; there = in-right r.drive (placed_inputs inputs input_places) (placed_outputs 0 outputs places) r.there; net_is = r.net_is; place_is = r.place_is }

pub refuses-reg : (count : ℕ) (inputs : List ℕ) (input_places : List Place) (outputs : List ℕ) (places : List Place) (regs : List ℕ) (n : ℕ) (p : Place)
    → IsPlaceOfDriver n inputs input_places outputs places p → IsAmong regs n → AllByRecursion (λ n. n < count) regs
    → RefusesOneOf (driving_faults (driving_of inputs input_places outputs places regs) count) (refused.Fault BadTerminal p)
refuses-reg count inputs input_places outputs places regs n p at reg below =
    let ds = all_drives inputs input_places outputs places in
    let r = driver-drives n p inputs input_places outputs places at in
    let h : In n regs = among-in n regs reg in
    let those : In r.drive (drives_of ds n) = in-filter (λ d. d.net == n) r.drive ds r.there (eq-eqb r.drive.net n r.net_is) in
    let told : In (fault BadTerminal p) (map (λ d. fault BadTerminal d.place) (drives_of ds n)) =
    subst (λ q. In (fault BadTerminal q) (map (λ d. fault BadTerminal d.place) (drives_of ds n))) r.place_is (in-map (λ d. fault BadTerminal d.place) r.drive (drives_of ds n) those) in
    refuses count n inputs input_places outputs places regs BadTerminal p (refused.Fault BadTerminal p) refl (all-in (λ n. n < count) n regs below h)
    (in-right (fault BadTerminal p) (second_of (drives_of ds n)) (reg_faults (has n regs) (drives_of ds n))
    (subst (λ b. In (fault BadTerminal p) (reg_faults b (drives_of ds n))) (sym (has-there n regs h)) told))
