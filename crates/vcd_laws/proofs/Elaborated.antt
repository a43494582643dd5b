-- The circuits of netlists without faults are ordered, names aside: the top's variables have names apart, and are what the stimulus drives.
use Rattle.std.specs.Prelude.{◌≡◌, ℕ, zero, suc, ◌<◌, ◌==◌, ◌||◌, ◌⊎◌, nat_lt, pos, find, if◌then◌else◌, Bool, true, false, cond, List, [], ◌∷◌, ◌++◌, bytes_eq, length, map, filter, flat_map, slice_index_or, None, refl}
use Rattle.std.specs.List.{list_all, list_any, enumerate_from}
use Rattle.std.proofs.Common.{sym, ◌∙◌, ap, subst, arith, inl, inr}
use Rattle.std.proofs.lemmas.Bool.{and_from, eq-eqb, eqb-true, lt-ltb}
use Rattle.std.proofs.lemmas.List.{length-map}
use Rattle.std.proofs.lemmas.Slice.Eq.{bytes_eq-Decides}
use Rattle.sg_circuit.specs.declared.nets.Driver.TheVariants as driver
use Rattle.sg_circuit.specs.Circuit.{Circuit, Scope, Variable as ScopeVariable, net_at}
use Rattle.sg_circuit.specs.Closed.{width_of}
use Rattle.sg_circuit.specs.FanOut.{has}
use Rattle.sg_delay.specs.declared.corners.Corner.{Corner}
use Rattle.sg_stimulus.specs.Applied.{IsInput}
use Rattle.sg_text.specs.declared.places.Place.{Place}
use Rattle.stim_read.specs.Inputs as read
use Rattle.vl_tree.specs.Tree.{Module, Source}
use Rattle.elab_model.specs.Bits.{positions}
use Rattle.elab_model.specs.Drivers.{Drive, drive, input_drives, port_place, stimulus_drives, variable_drives}
use Rattle.elab_model.specs.Hierarchy.{Instance, children_at, instances_from, levels_below_top, top_instance}
use Rattle.elab_model.specs.Homes.{home_of, is_input}
use Rattle.elab_model.specs.Names.{Variable, variables}
use Rattle.elab_model.specs.Nets.{nets, number_of}
use Rattle.elab_model.specs.Numbered.{undriven}
use Rattle.elab_model.specs.Ports.{port_declarations}
use Rattle.elab_model.specs.Scopes.{scope_of, scope_variable}
use Rattle.circuit_model.specs.Circuits.{circuit, driving, input_at}
use Rattle.circuit_model.specs.Driving.{Driving, NetDrive, by_element, by_stimulus, driver_at, driver_of, drives_of, net_drives}
use Rattle.elab_laws.proofs.Apart.{variables-apart}
use Rattle.elab_laws.proofs.Lists.{From, In, Pairwise, all-in, all-range, all-weaker, from-flat, in-either, in-flat, in-map, in-right, pairwise-map}
use Rattle.elab_laws.proofs.NoFaults.{in-own}
use Rattle.elab_laws.proofs.Stated.{bits-have_nets}
use Rattle.elab_closed.proofs.Drivers.{driven-at, driven-count}
use Rattle.vcd_laws.proofs.Items.{is_bit}
use Rattle.vcd_laws.proofs.Own.{AreOthers, HasInputs, IsCovered, tops}

-- ---- what lists are made of

record Made {A B : Type 0} (f : A → B) (b : B) (xs : List A) : Type 0 where
  source : A
  there : In source xs
  made : b ≡ f source

from_map : {A B : Type 0} (f : A → B) (b : B) (xs : List A) → In b (map f xs) → Made f b xs
from_map f b [] h = absurd h
from_map f b (x ∷ xs) (inl e) = record { source = x; there = inl refl; made = e }
from_map f b (x ∷ xs) (inr h) = let r = from_map f b xs h in record { source = r.source; there = inr r.there; made = r.made }

-- ---- the driver of a net

record IsDriven (ds : List NetDrive) (net : ℕ) : Type 0 where
  by : NetDrive
  there : In by ds
  drives : by.net ≡ net
  stimulus : by.driver ≡ driver.Stimulus

is_driven : (is_reg : Bool) (ds : List NetDrive) (net : ℕ) → driver_of is_reg (drives_of ds net) ≡ driver.Stimulus → IsDriven ds net
is_driven true [] net e = absurd cc
is_driven false [] net e = absurd cc
is_driven is_reg (d ∷ ds) net e = at (d.net == net) refl (λ h. is_driven is_reg ds net h) e
  where
    later : IsDriven ds net → IsDriven (d ∷ ds) net
    later i = record { by = i.by; there = inr i.there; drives = i.drives; stimulus = i.stimulus }

    at : (b : Bool) → (d.net == net) ≡ b → (driver_of is_reg (drives_of ds net) ≡ driver.Stimulus → IsDriven ds net) → driver_of is_reg (cond b (d ∷ filter (λ x. x.net == net) ds) (filter (λ x. x.net == net) ds)) ≡ driver.Stimulus → IsDriven (d ∷ ds) net
    at true t more e = record { by = d; there = inl refl; drives = eqb-true d.net net t; stimulus = e }
    at false t more e = later (more e)

-- what the stimulus drives comes first
first_driven : (is_reg : Bool) (is : List (Place × ℕ)) (ds : List NetDrive) (net : ℕ) (i : Place × ℕ) → In i is → i.1 ≡ net → driver_of is_reg (drives_of (map by_stimulus is ++ ds) net) ≡ driver.Stimulus
first_driven is_reg [] ds net i there e = absurd there
first_driven is_reg (j ∷ is) ds net i there e = at (j.1 == net) refl (λ h. first_driven is_reg is ds net i h e) there
  where
    at : (b : Bool) → (j.1 == net) ≡ b → (In i is → driver_of is_reg (drives_of (map by_stimulus is ++ ds) net) ≡ driver.Stimulus) → In i (j ∷ is) → driver_of is_reg (cond b (by_stimulus j ∷ filter (λ x. x.net == net) (map by_stimulus is ++ ds)) (filter (λ x. x.net == net) (map by_stimulus is ++ ds))) ≡ driver.Stimulus
    at true t more there = refl
    at false t more (inr there) = more there
    at false t more (inl same) = (let q : true ≡ false = sym (eq-eqb j.1 net (sym (ap (λ (x : Place × ℕ). x.1) same) ∙ e)) ∙ t in absurd cc)

-- ---- the inputs of the top

-- a net is a bit of an input of the top
record IsBitOf (source : Source) (top : Module) (net : ℕ) : Type 0 where
  variable : Variable
  there : In variable (variables top)
  input : is_input variable.port ≡ true
  position : ℕ
  within : In position (positions variable.range)
  is : net ≡ number_of (nets source top) (home_of source (top_instance top) variable.name position)

bit_drive : (source : Source) (top : Module) (d : Drive) (net : ℕ) → net ≡ number_of (nets source top) d.spot → In d (stimulus_drives source top) → IsBitOf source top net
bit_drive source top d net is there = by (is_input r.source.port) refl r.made
  where
    r : From (input_drives source (top_instance top)) d (variables top)
    r = from-flat (input_drives source (top_instance top)) d (variables top) there

    place : Place
    place = port_place (find (λ e. bytes_eq r.source.name e.name.text) (port_declarations top)) top.name.place

    by : (b : Bool) → is_input r.source.port ≡ b → In d (if b then variable_drives source (top_instance top) driver.Stimulus place r.source else []) → IsBitOf source top net
    by true t h = (let m = from_map (λ k. drive driver.Stimulus place (home_of source (top_instance top) r.source.name k)) d (positions r.source.range) h in record {
      variable = r.source;
      there = r.there;
      input = t;
      position = m.source;
      within = m.there;
      is = is ∙ ap (λ (x : Drive). number_of (nets source top) x.spot) m.made;
    })
    by false t h = absurd h

-- what the stimulus drives is a bit of an input
driven_bit : (source : Source) (top : Module) (corner : Corner) (net : ℕ) → driver_at (driving source top corner) net ≡ driver.Stimulus → IsBitOf source top net
driven_bit source top corner net e = from (in-either i.by (map by_stimulus d.inputs) (map by_element (enumerate_from 0 d.outputs)) i.there)
  where
    d : Driving
    d = driving source top corner

    i : IsDriven (net_drives d) net
    i = is_driven (has net d.regs) (net_drives d) net e

    from : In i.by (map by_stimulus d.inputs) ⊎ In i.by (map by_element (enumerate_from 0 d.outputs)) → IsBitOf source top net
    from (inl h) =
        let m = from_map by_stimulus i.by d.inputs h in
        let k = from_map (input_at (nets source top)) m.source (stimulus_drives source top) m.there in
        bit_drive source top k.source net (sym i.drives ∙ (ap (λ (x : NetDrive). x.net) m.made ∙ ap (λ (x : Place × ℕ). x.1) k.made)) k.there
    from (inr h) =
        let m = from_map by_element i.by (enumerate_from 0 d.outputs) h in
        (let q : driver.Element m.source.0 ≡ driver.Stimulus = sym (ap (λ (x : NetDrive). x.driver) m.made) ∙ i.stimulus in absurd cc)

-- and each bit of an input is driven by it
bit_driven : (source : Source) (top : Module) (corner : Corner) (v : Variable) (p : ℕ) → In v (variables top) → is_input v.port ≡ true → In p (positions v.range)
    → driver_at (driving source top corner) (number_of (nets source top) (home_of source (top_instance top) v.name p)) ≡ driver.Stimulus
bit_driven source top corner v p there input within =
    first_driven (has net d.regs) d.inputs (map by_element (enumerate_from 0 d.outputs)) net (input_at (nets source top) x)
    (in-map (input_at (nets source top)) x (stimulus_drives source top) (in-flat (input_drives source (top_instance top)) v x (variables top) there (at (is_input v.port) input))) refl
  where
    d : Driving
    d = driving source top corner

    net : ℕ
    net = number_of (nets source top) (home_of source (top_instance top) v.name p)

    place : Place
    place = port_place (find (λ e. bytes_eq v.name e.name.text) (port_declarations top)) top.name.place

    x : Drive
    x = drive driver.Stimulus place (home_of source (top_instance top) v.name p)

    at : (b : Bool) → b ≡ true → In x (if b then variable_drives source (top_instance top) driver.Stimulus place v else [])
    at true t = in-map (λ k. drive driver.Stimulus place (home_of source (top_instance top) v.name k)) p (positions v.range) within
    at false t = absurd cc

-- ---- the scope of the top

rest_from : Source → ℕ → Instance → List Instance
rest_from source zero s = []
rest_from source (suc levels) s = flat_map (instances_from source levels) (children_at source (suc levels) s)

first_from : (source : Source) (levels : ℕ) (s : Instance) → instances_from source levels s ≡ s ∷ rest_from source levels s
unfolding rest_from
first_from source zero s = refl
first_from source (suc levels) s = refl

scopes_from : (source : Source) (top : Module) (corner : Corner)
    → (circuit source top corner).scopes ≡ scope_of (nets source top) source (top_instance top) ∷ map (scope_of (nets source top) source) (rest_from source levels_below_top (top_instance top))
scopes_from source top corner = ap (map (scope_of (nets source top) source)) (first_from source levels_below_top (top_instance top))

tops_are : (source : Source) (top : Module) (corner : Corner) → tops (circuit source top corner) ≡ map (scope_variable (nets source top) source (top_instance top)) (variables top)
tops_are source top corner = ap (λ (ss : List Scope). (slice_index_or ss 0 (record { parent = None; name = []; module_name = []; unit = pos 0; precision = pos 0; is_leaf = false; variables = [] })).variables) (scopes_from source top corner)

-- ---- their names are apart

told_apart : (n m : List ℕ) → bytes_eq n m ≡ false → bytes_eq m n ≡ false
told_apart n m h = at (bytes_eq m n) refl
  where
    at : (b : Bool) → bytes_eq m n ≡ b → bytes_eq m n ≡ false
    at false t = t
    at true t = (let q : true ≡ false = sym ((bytes_eq-Decides n m).1 (sym ((bytes_eq-Decides m n).0 t))) ∙ h in absurd cc)

split : (before after : List ScopeVariable) (v : ScopeVariable) → Pairwise (λ x y. bytes_eq x.name y.name ≡ false) (before ++ v ∷ after) → AreOthers v before × AreOthers v after
split [] after v h = (tt, all-weaker (λ y. bytes_eq v.name y.name ≡ false) (λ y. bytes_eq y.name v.name ≡ false) after (λ y e. told_apart v.name y.name e) h.0)
split (w ∷ before) after v h =
    let r = split before after v h.1 in
    ((all-in (λ y. bytes_eq w.name y.name ≡ false) v (before ++ v ∷ after) h.0 (in-right v before (v ∷ after) (inl refl)), r.0), r.1)

names_apart : (source : Source) (top : Module) → Pairwise (λ (x y : ScopeVariable). bytes_eq x.name y.name ≡ false) (map (scope_variable (nets source top) source (top_instance top)) (variables top))
names_apart source top = pairwise-map (λ (x y : ScopeVariable). bytes_eq x.name y.name ≡ false) (scope_variable (nets source top) source (top_instance top)) (variables top) (variables-apart top)

-- ---- an input's nets are driven by the stimulus

all_true : (test : ℕ → Bool) (xs : List ℕ) → ((x : ℕ) → In x xs → test x ≡ true) → list_all test xs ≡ true
all_true test [] h = refl
all_true test (x ∷ xs) h = and_from (test x) (list_all test xs) (h x (inl refl)) (all_true test xs (λ y k. h y (inr k)))

some_true : (net : ℕ) (xs : List ℕ) → In net xs → is_bit net xs ≡ true
some_true net [] h = absurd h
some_true net (x ∷ xs) (inl e) = ap (λ b. b || list_any (λ n. n == net) xs) (eq-eqb x net (sym e))
some_true net (x ∷ xs) (inr h) = ap (λ b. (x == net) || b) (some_true net xs h) ∙ or_true (x == net)
  where
    or_true : (b : Bool) → (b || true) ≡ true
    or_true true = refl
    or_true false = refl

nets_count : (source : Source) (top : Module) (corner : Corner) → length (circuit source top corner).nets ≡ length (nets source top)
nets_count source top corner = driven-count (map undriven (nets source top)) (driving source top corner) ∙ length-map (nets source top) undriven

driver_is : (source : Source) (top : Module) (corner : Corner) (net : ℕ) → net < length (nets source top) → (net_at (circuit source top corner) net).driver ≡ driver_at (driving source top corner) net
driver_is source top corner net l =
    driven-at (map undriven (nets source top)) (driving source top corner) net (record { scope = 0; name = []; bit = None; driver = driver.Nobody }) (subst (λ k. net < k) (sym (length-map (nets source top) undriven)) l)

input_net : (source : Source) (top : Module) (corner : Corner) (v : Variable) → In v (variables top) → is_input v.port ≡ true → (p : ℕ) → In p (positions v.range)
    → read.is_input_net (circuit source top corner) (number_of (nets source top) (home_of source (top_instance top) v.name p)) ≡ true
input_net source top corner v there input p within =
    and_from (nat_lt net (length (circuit source top corner).nets)) (read.is_stimulated (net_at (circuit source top corner) net).driver) (lt-ltb net (length (circuit source top corner).nets) (subst (λ k. net < k) (sym (nets_count source top corner)) below))
    (ap read.is_stimulated (driver_is source top corner net below ∙ bit_driven source top corner v p there input within))
  where
    net : ℕ
    net = number_of (nets source top) (home_of source (top_instance top) v.name p)

    below : net < length (nets source top)
    below =
        (bits-have_nets source top (top_instance top) v p (in-own source levels_below_top (top_instance top)) there
        (all-in (λ k. k < width_of v.range) p (positions v.range) (all-range (width_of v.range) 0 (width_of v.range) (omega arith)) within)).1

is_input_too : (source : Source) (top : Module) (corner : Corner) (v : Variable) → In v (variables top) → is_input v.port ≡ true → read.is_input (circuit source top corner) (scope_variable (nets source top) source (top_instance top) v) ≡ true
is_input_too source top corner v there input =
    all_true (read.is_input_net (circuit source top corner)) (map at (positions v.range))
    (λ n k. let m = from_map at n (positions v.range) k in ap (read.is_input_net (circuit source top corner)) m.made ∙ input_net source top corner v there input m.source m.there)
  where
    at : ℕ → ℕ
    at = λ p. number_of (nets source top) (home_of source (top_instance top) v.name p)

covered_by : (c : Circuit) (f : Variable → ScopeVariable) (net : ℕ) (vs : List Variable) (v : Variable) → In v vs → read.is_input c (f v) ≡ true → is_bit net (f v).bits ≡ true → IsCovered c net (map f vs)
covered_by c f net [] v there input bit = absurd there
covered_by c f net (w ∷ vs) v (inl e) input bit = inl (subst (λ x. read.is_input c (f x) ≡ true) e input, subst (λ x. is_bit net (f x).bits ≡ true) e bit)
covered_by c f net (w ∷ vs) v (inr h) input bit = inr (covered_by c f net vs v h input bit)

is_covered : (source : Source) (top : Module) (corner : Corner) (net : ℕ) → IsInput (circuit source top corner) net → IsCovered (circuit source top corner) net (tops (circuit source top corner))
is_covered source top corner net i =
    subst (IsCovered (circuit source top corner) net) (sym (tops_are source top corner))
    (covered_by (circuit source top corner) (scope_variable (nets source top) source (top_instance top)) net (variables top) b.variable b.there (is_input_too source top corner b.variable b.there b.input)
    (some_true net (map at (positions b.variable.range)) (subst (λ n. In n (map at (positions b.variable.range))) (sym b.is) (in-map at b.position (positions b.variable.range) b.within))))
  where
    b : IsBitOf source top net
    b = driven_bit source top corner net (sym (driver_is source top corner net (subst (λ k. net < k) (nets_count source top corner) i.0)) ∙ i.1)

    at : ℕ → ℕ
    at = λ p. number_of (nets source top) (home_of source (top_instance top) b.variable.name p)

-- ---- so the top has its inputs

pub has_inputs : (source : Source) (top : Module) (corner : Corner) → HasInputs (circuit source top corner)
has_inputs source top corner = record {
  apart = λ before after v e. split before after v (subst (Pairwise (λ (x y : ScopeVariable). bytes_eq x.name y.name ≡ false)) (sym (tops_are source top corner) ∙ e) (names_apart source top));
  covered = is_covered source top corner;
}

pub some_scopes : (source : Source) (top : Module) (corner : Corner) → (turns : ℕ) × length (circuit source top corner).scopes ≡ suc turns
some_scopes source top corner = (length (map (scope_of (nets source top) source) (rest_from source levels_below_top (top_instance top))), ap length (scopes_from source top corner))
