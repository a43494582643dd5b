-- The Legs of a leaf.
use Rattle.std.specs.Prelude.{◌≡◌, ℕ, zero, suc, ◌+◌, ◌-◌, ◌<◌, ◌≤◌, List, [], ◌∷◌, ◌++◌, Bool, true, false, ◌&&◌, not, Option, Some, None, map, flat_map, length, slice_get, refl, if◌then◌else◌}
use Rattle.std.specs.List.{range_with_len}
use Rattle.std.proofs.Common.{sym, ◌∙◌, ap, arith, subst, drop, drop-cons}
use Rattle.std.proofs.lemmas.List.{get_or-map, drop_all}
use Rattle.sg_circuit.specs.Closed.{width_of}
use Rattle.sg_circuit.specs.declared.elements.ElementKind.TheVariants as kind
use Rattle.sg_circuit.specs.declared.elements.UdpUse.{UdpUse}
use Rattle.sg_delay.specs.declared.gates.GateDelays.{GateDelays}
use Rattle.sg_text.specs.declared.places.Place.{Place}
use Rattle.vl_tree.specs.Tree.{Named, Source}
use Rattle.elab_model.specs.Elements.{bound_above, leg_source, place_in, port_place, leg_at, variable_legs, legs}
use Rattle.elab_model.specs.Hierarchy.{Instance, is_empty, is_leaf, has_no_child}
use Rattle.elab_model.specs.Homes.{bit, is_input, has_leg}
use Rattle.elab_model.specs.NameFaults.{declaration_faults}
use Rattle.elab_model.specs.Names.{Variable, variable, variables}
use Rattle.elab_model.specs.Nets.{OwnNet, number_of}
use Rattle.elab_model.specs.Ports.{port_list}
use Rattle.elab_laws.specs.Handing.{all_bits, number_at}
use Rattle.elab_variables.specs.Seen.{variable_at}
use Rattle.elab_bits.specs.Seen.{bit_at}
use Rattle.elab_bits.proofs.InRow.{place-is, stands-within}
use Rattle.elab_nets.specs.Outside.{outer_number}
use Rattle.elab_elements.specs.Adding.{IsHere, HasOutside}
use Rattle.elab_elements.specs.Words.{net_in, outside_in, leg_puts, bit_leg, start_of, port_legs}
use Rattle.elab_elements.proofs.Meaning.{Means, means-nil, means-one, means-append, means-same, number-is, same-count}
use Rattle.elab_elements.proofs.PortPlaces.{port-placed}
use Rattle.elab_elements.proofs.Own.{own-bit, and-both, leg-is, leg-own, leg-outside}

-- a leaf, as the code has it
pub record IsLeafHere (all : List OwnNet) (source : Source) (s : Instance) (scope : ℕ) (ports : List Named) (place : Place) (vs : List Variable) (inner : List ℕ) (outer : List (Option ℕ)) : Type 0 where
  pub here : IsHere all source s scope vs inner
  pub over : HasOutside all source s vs outer
  pub at : s.step.place ≡ place
  pub ports_are : ports ≡ port_list s.step.definition
  pub declared : declaration_faults s.step.definition ≡ []
  pub leaf : is_leaf source s ≡ true

outside-is : (all : List OwnNet) (source : Source) (s : Instance) (vs : List Variable) (outer : List (Option ℕ)) (i : ℕ) → HasOutside all source s vs outer → i < length (all_bits vs)
    → outside_in outer i ≡ outer_number all source s.step s.above (bit_at vs i)
outside-is all source s vs outer i h lt = ap (λ os. outside_in os i) h.numbers ∙ get_or-map (outer_number all source s.step s.above) (all_bits vs) i _ None lt

-- one bit
bit-means : (delays : List GateDelays) (udps : List UdpUse) (all : List OwnNet) (source : Source) (s : Instance) (scope : ℕ) (ports : List Named) (base place : Place) (vs : List Variable) (inner : List ℕ)
    (outer : List (Option ℕ))
    (v : Variable) (i p : ℕ) → IsLeafHere all source s scope ports base vs inner outer → i < length (all_bits vs) → bit_at vs i ≡ (v, p) → is_input v.port ≡ true → place ≡ port_place s v.name
    → Means delays udps all (bit_leg scope place inner outer i) (leg_at source s v.name p ∷ [])
bit-means delays udps all source s scope ports base place vs inner outer v i p h lt e input at =
    let leaf = and-both (not (is_empty s.above)) (has_no_child source s.step) h.leaf in
    let own : variable s.step.definition v.name ≡ v = subst (λ (b : Variable × ℕ). variable s.step.definition b.0.name ≡ b.0) e (own-bit s.step.definition vs i h.here.numbers.table lt) in
    let leg : has_leg source s.step v.name ≡ true = leg-is source s.step v true own leaf.1 ∙ ap (λ b. b && true) input in
    let output : net_in inner i ≡ number_of all (bit s.step.number v.name p) =
    number-is all source s vs inner i h.here.numbers lt ∙ ap (number_at all source s) e ∙ ap (number_of all) (leg-own source s.step s.above v.name p leaf.0 leg) in
    let feed : outside_in outer i ≡ Some (number_of all (leg_source source s.step s.above v.name p (bound_above s.step s.above v.name p))) =
    outside-is all source s vs outer i h.over lt ∙ ap (outer_number all source s.step s.above) e ∙ leg-outside all source s.step s.above (v, p) leaf.0 leg in
    means-same delays udps all _ _ _ _ (λ j. leg_puts scope place (sym output j) (sym feed j)) refl
    (means-one delays udps all scope place (number_of all (leg_source source s.step s.above v.name p (bound_above s.step s.above v.name p)) ∷ []) (number_of all (bit s.step.number v.name p)) (kind.Leg 0)
    (leg_at source s v.name p) (sym h.here.number) at refl refl refl refl)

-- bits of a variable, from one on
bits-mean : (delays : List GateDelays) (udps : List UdpUse) (all : List OwnNet) (source : Source) (s : Instance) (scope : ℕ) (ports : List Named) (base place : Place) (vs : List Variable) (inner : List ℕ)
    (outer : List (Option ℕ))
    (k a i n : ℕ) → IsLeafHere all source s scope ports base vs inner outer → k < length vs → is_input (variable_at vs k).port ≡ true → place ≡ port_place s (variable_at vs k).name → i ≡ start_of vs k + a
    → a + n ≤ width_of (variable_at vs k).range
    → Means delays udps all (flat_map (bit_leg scope place inner outer) (range_with_len i n)) (map (leg_at source s (variable_at vs k).name) (range_with_len a n))
bits-mean delays udps all source s scope ports base place vs inner outer k a i zero h lt input at e le = means-nil delays udps all
bits-mean delays udps all source s scope ports base place vs inner outer k a i (suc n) h lt input at e le =
    let v = variable_at vs k in
    let within = stands-within vs k lt in
    let here : bit_at vs i ≡ (v, a) = ap (bit_at vs) e ∙ place-is vs k a _ lt (omega arith) in
    means-append delays udps all (bit_leg scope place inner outer i) (flat_map (bit_leg scope place inner outer) (range_with_len (i + 1) n)) (leg_at source s v.name a ∷ [])
    (map (leg_at source s v.name) (range_with_len (a + 1) n))
    (bit-means delays udps all source s scope ports base place vs inner outer v i a h (omega arith) here input at)
    (bits-mean delays udps all source s scope ports base place vs inner outer k (a + 1) (i + 1) n h lt input at (omega arith) (omega arith))

variable-means : (delays : List GateDelays) (udps : List UdpUse) (all : List OwnNet) (source : Source) (s : Instance) (scope : ℕ) (ports : List Named) (base : Place) (vs : List Variable) (inner : List ℕ)
    (outer : List (Option ℕ)) (k : ℕ) → IsLeafHere all source s scope ports base vs inner outer → k < length vs
    → Means delays udps all (port_legs scope ports base vs inner outer k) (variable_legs source s (variable_at vs k))
variable-means delays udps all source s scope ports base vs inner outer k h lt = by (is_input (variable_at vs k).port) refl
  where
    at : place_in (slice_get ports k) base ≡ port_place s (variable_at vs k).name
    at = subst (λ ws. place_in (slice_get ports k) base ≡ port_place s (variable_at ws k).name) (sym h.here.numbers.table)
        (port-placed s ports base k h.declared h.ports_are h.at (subst (λ ws. k < length ws) h.here.numbers.table lt))

    by : (b : Bool) → is_input (variable_at vs k).port ≡ b
        → Means delays udps all (if b then flat_map (bit_leg scope (place_in (slice_get ports k) base) inner outer) (range_with_len (start_of vs k) (width_of (variable_at vs k).range)) else [])
        (if b then map (leg_at source s (variable_at vs k).name) (range_with_len 0 (width_of (variable_at vs k).range)) else [])
    by true e = bits-mean delays udps all source s scope ports base (place_in (slice_get ports k) base) vs inner outer k 0 (start_of vs k) (width_of (variable_at vs k).range) h lt e at (omega arith)
        (omega arith)
    by false e = means-nil delays udps all

variables-mean : (delays : List GateDelays) (udps : List UdpUse) (all : List OwnNet) (source : Source) (s : Instance) (scope : ℕ) (ports : List Named) (base : Place) (vs : List Variable) (inner : List ℕ)
    (outer : List (Option ℕ)) (j n : ℕ) → IsLeafHere all source s scope ports base vs inner outer → j + n ≡ length vs
    → Means delays udps all (flat_map (port_legs scope ports base vs inner outer) (range_with_len j n)) (flat_map (variable_legs source s) (drop j vs))
variables-mean delays udps all source s scope ports base vs inner outer j zero h e =
    subst (λ ws. Means delays udps all [] (flat_map (variable_legs source s) ws)) (sym (drop_all j vs (omega arith))) (means-nil delays udps all)
variables-mean delays udps all source s scope ports base vs inner outer j (suc n) h e =
    let f = port_legs scope ports base vs inner outer in
    let g = variable_legs source s in
    let lt : j < length vs = omega arith in
    let next : suc j ≡ j + 1 = omega arith in
    let split : drop j vs ≡ variable_at vs j ∷ drop (j + 1) vs = drop-cons vs j _ lt ∙ ap (λ k. variable_at vs j ∷ drop k vs) next in
    subst (λ ws. Means delays udps all (f j ++ flat_map f (range_with_len (j + 1) n)) (flat_map g ws)) (sym split)
    (means-append delays udps all (f j) (flat_map f (range_with_len (j + 1) n)) (g (variable_at vs j)) (flat_map g (drop (j + 1) vs))
    (variable-means delays udps all source s scope ports base vs inner outer j h lt) (variables-mean delays udps all source s scope ports base vs inner outer (j + 1) n h (omega arith)))

pub legs-mean : (delays : List GateDelays) (udps : List UdpUse) (all : List OwnNet) (source : Source) (s : Instance) (scope : ℕ) (ports : List Named) (base : Place) (vs : List Variable) (inner : List ℕ)
    (outer : List (Option ℕ)) → IsLeafHere all source s scope ports base vs inner outer
    → Means delays udps all (flat_map (port_legs scope ports base vs inner outer) (range_with_len 0 (length vs - 0))) (legs source s)
legs-mean delays udps all source s scope ports base vs inner outer h =
    let n : length vs ≡ length vs - 0 = omega arith in
    let whole : flat_map (variable_legs source s) vs ≡ legs source s =
    ap (flat_map (variable_legs source s)) h.here.numbers.table ∙ ap (λ b. if b then flat_map (variable_legs source s) (variables s.step.definition) else []) (sym h.leaf) in
    means-same delays udps all _ _ _ _ (ap (λ k. flat_map (port_legs scope ports base vs inner outer) (range_with_len 0 k)) n) whole
    (variables-mean delays udps all source s scope ports base vs inner outer 0 (length vs) h (omega arith))

pub legs-within : (all : List OwnNet) (source : Source) (s : Instance) (scope : ℕ) (ports : List Named) (base : Place) (vs : List Variable) (inner : List ℕ) (outer : List (Option ℕ))
    → IsLeafHere all source s scope ports base vs inner outer
    → length (flat_map (port_legs scope ports base vs inner outer) (range_with_len 0 (length vs - 0))) ≤ length (legs source s)
legs-within all source s scope ports base vs inner outer h =
    let m = legs-mean [] [] all source s scope ports base vs inner outer h in
    let e = same-count _ _ m.places in
    omega (arith, e)
