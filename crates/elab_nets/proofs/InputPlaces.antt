-- The places at which the code writes new numbers are those of the input bits of a leaf to which no net is bound, and the numbers are those of the nets that lie outside.
use Rattle.std.specs.Prelude.{◌≡◌, ℕ, ◌<◌, List, [], true, false, Option, Some, None, option_map, map, length, refl}
use Rattle.std.specs.List.{AllByRecursion, filter, range_with_len}
use Rattle.std.proofs.Common.{sym, ◌∙◌, ap, arith, subst}
use Rattle.std.proofs.lemmas.List.{length-map}
use Rattle.std.proofs.lemmas.Bool.{and_from, and_parts, and_right}
use Rattle.std.proofs.lemmas.List.FromFn.{length-map-range_with_len}
use Rattle.std.proofs.lemmas.Simd.{map-map}
use Rattle.sg_logic.specs.declared.values.Value.{Value}
use Rattle.sg_text.specs.declared.places.Place.{Place}
use Rattle.vl_tree.specs.Tree.{Source}
use Rattle.elab_model.specs.Bits.{Bit, constant}
use Rattle.elab_model.specs.Connections.{connection_at, bound_to, port_values}
use Rattle.elab_model.specs.Hierarchy.{Instance, has_no_child}
use Rattle.elab_model.specs.Homes.{is_input, has_leg}
use Rattle.elab_model.specs.Names.{Variable, variable, variables}
use Rattle.elab_model.specs.Nets.{OwnNet, number_of}
use Rattle.elab_model.specs.Ports.{port_list}
use Rattle.elab_laws.specs.Handing.{all_bits, number_at}
use Rattle.elab_laws.proofs.Lists.{In, in-left, in-right, in-map, in-range, all-in, all-append, all-map, all-map_back, all-weaker, all-range}
use Rattle.elab_laws.specs.NumberLaws.{numbers_in}
use Rattle.elab_bits.specs.Seen.{bit_at, view_bit}
use Rattle.elab_bits.specs.declared.bits.Bit as code_bit
use Rattle.elab_bits.specs.declared.bits.Bit.TheVariants as bit
use Rattle.elab_ports.specs.Constants.{constants_in, view_constant}
use Rattle.elab_ports.specs.declared.constants.PortConstant as code_constant
use Rattle.elab_nets.specs.Inputs.{bound_at, is_input_at, is_nothing, is_free_at}
use Rattle.elab_nets.specs.Outside.{outer_number, outside_nets}
use Rattle.elab_nets.specs.Written.{AreMeant, IsWritten}
use Rattle.elab_nets.proofs.Filters.{in-filter, all-filter, map-same, all-both, from-map}
use Rattle.elab_nets.proofs.PortConstants.{IsBoundTo, constants-bound, bound_constant, constant-among}
use Rattle.elab_nets.proofs.BitPlaces.{same-place}
use Rattle.elab_nets.proofs.OutsideNets.{net_outside, leg-at, input_places, outside-places}
use Rattle.elab_nets.proofs.OuterNumbers.{IsNoNet, outer-new, HasBound, seen-at, says-unbound, meant_at, bound_row, Covers, right-or-among, meant-row}
use Rattle.elab_nets.proofs.WrittenNumbers.{none-left}

-- a leaf in its parent, with what the code knows of its connections
pub record IsLeafIn (source : Source) (s c : Instance) (bits : List (Option code_bit.Bit)) (ks : List code_constant.PortConstant) : Type 0 where
  pub bound : HasBound s c bits
  pub leaf : has_no_child source c.step ≡ true
  pub within : AllByRecursion (λ k. k.bit < length (all_bits (variables c.step.definition))) ks
  pub seen : map (view_constant (variables c.step.definition)) ks ≡ constants_in (variables s.step.definition) c.step.connections (port_list c.step.definition)
  pub first : AllByRecursion (λ e. connection_at c.step.connections (port_list c.step.definition) e.0 ≡ Some e.1) (port_values c.step.connections (port_list c.step.definition))

-- ---- all places are there

constant-there : (source : Source) (s c : Instance) (bits : List (Option code_bit.Bit)) (ks : List code_constant.PortConstant) → IsLeafIn source s c bits ks → (i : ℕ)
    → i < length (all_bits (variables c.step.definition))
    → (at : Place) (v : Value) → bound_to c.step s.step (bit_at (variables c.step.definition) i).0.name (bit_at (variables c.step.definition) i).1 ≡ Some (constant at v) → In i (map (λ k. k.bit) ks)
constant-there source s c bits ks h i lt at v bound =
    let vs = variables c.step.definition in
    let b = bit_at vs i in
    let k = bound_constant b.0.name b.1 at v in
    let among = constant-among (variables s.step.definition) c.step.connections (port_list c.step.definition) b.0.name b.1 at v bound in
    let r = from-map (view_constant vs) k ks (subst (In k) (sym h.seen) among) in
    let below = all-in (λ k. k.bit < length (all_bits vs)) r.0 ks h.within r.1 in
    let same : r.0.bit ≡ i = same-place c.step.definition r.0.bit i below lt (ap (λ k. k.port) r.2) (ap (λ k. k.position) r.2) in
    subst (λ j. In j (map (λ k. k.bit) ks)) same (in-map (λ k. k.bit) r.0 ks r.1)

pub covers-leaf : (source : Source) (s c : Instance) (bits : List (Option code_bit.Bit)) (ks : List code_constant.PortConstant) → IsLeafIn source s c bits ks
    → Covers source s c (input_places (variables c.step.definition) bits ks)
covers-leaf source s c bits ks h i lt leg none = by (bound_at bits i) refl (seen-at s c bits h.bound i lt)
  where
    vs : List Variable
    vs = variables c.step.definition

    free : List ℕ
    free = filter (is_free_at vs bits) (range_with_len 0 (length (all_bits vs)))

    constants : List ℕ
    constants = filter (is_input_at vs) (map (λ k. k.bit) ks)

    input : is_input_at vs i ≡ true
    input = sym (leg-at source c i h.leaf lt) ∙ leg

    by : (o : Option code_bit.Bit) → bound_at bits i ≡ o → option_map (view_bit (variables s.step.definition)) o ≡ bound_to c.step s.step (bit_at vs i).0.name (bit_at vs i).1
        → In i (input_places vs bits ks)
    by None is e =
        in-left i free constants
        (in-filter (is_free_at vs bits) i (range_with_len 0 (length (all_bits vs))) (in-range i 0 (length (all_bits vs)) (omega arith) (omega arith))
        (and_from (is_input_at vs i) (is_nothing (bound_at bits i)) input (ap is_nothing is)))
    by (Some (bit.Constant at v)) is e = in-right i free constants (in-filter (is_input_at vs) i (map (λ k. k.bit) ks) (constant-there source s c bits ks h i lt at v (sym e)) input)
    by (Some (bit.Net k)) is e = absurd (subst IsNoNet (sym e) none)

-- ---- and each is that of a new net

abbrev IsNew : List OwnNet → Source → Instance → Instance → ℕ → Type 0
IsNew all source s c i = meant_at all source c i ≡ Some (number_of all (net_outside s c (bit_at (variables c.step.definition) i)).spot)

new-at : (all : List OwnNet) (source : Source) (s c : Instance) (bits : List (Option code_bit.Bit)) (ks : List code_constant.PortConstant) → IsLeafIn source s c bits ks → (i : ℕ)
    → i < length (all_bits (variables c.step.definition))
    → is_input_at (variables c.step.definition) i ≡ true → (o : Option Bit)
    → bound_to c.step s.step (bit_at (variables c.step.definition) i).0.name (bit_at (variables c.step.definition) i).1 ≡ o → IsNoNet o → IsNew all source s c i
new-at all source s c bits ks h i lt input o bound none =
    let b = bit_at (variables c.step.definition) i in
    ap (λ a. outer_number all source c.step a b) h.bound.above ∙ outer-new all source c.step s.step s.above b o (leg-at source c i h.leaf lt ∙ input) bound none

free-new : (all : List OwnNet) (source : Source) (s c : Instance) (bits : List (Option code_bit.Bit)) (ks : List code_constant.PortConstant) → IsLeafIn source s c bits ks → (i : ℕ)
    → i < length (all_bits (variables c.step.definition))
    → is_free_at (variables c.step.definition) bits i ≡ true → IsNew all source s c i
free-new all source s c bits ks h i lt free =
    let vs = variables c.step.definition in
    let both = and_parts (is_input_at vs i) (is_nothing (bound_at bits i)) free in
    new-at all source s c bits ks h i lt both.0 (option_map (view_bit (variables s.step.definition)) (bound_at bits i)) (sym (seen-at s c bits h.bound i lt)) (by (bound_at bits i) both.1)
  where
    by : (o : Option code_bit.Bit) → is_nothing o ≡ true → IsNoNet (option_map (view_bit (variables s.step.definition)) o)
    by None e = tt
    by (Some b) e = cc

pub all-new : (all : List OwnNet) (source : Source) (s c : Instance) (bits : List (Option code_bit.Bit)) (ks : List code_constant.PortConstant) → IsLeafIn source s c bits ks
    → AllByRecursion (IsNew all source s c) (input_places (variables c.step.definition) bits ks)
all-new all source s c bits ks h =
    let vs = variables c.step.definition in
    let pvs = variables s.step.definition in
    let n = length (all_bits vs) in
    let x = c.step.connections in
    let ps = port_list c.step.definition in
    let new = IsNew all source s c in
    let free : AllByRecursion (λ i. is_free_at vs bits i ≡ true → new i) (range_with_len 0 n) =
    all-weaker (λ i. i < n) (λ i. is_free_at vs bits i ≡ true → new i) (range_with_len 0 n) (free-new all source s c bits ks h) (all-range n 0 n (omega arith)) in
    let bound : AllByRecursion (λ k. IsBoundTo pvs x ps (view_constant vs k)) ks =
    all-map_back (IsBoundTo pvs x ps) (view_constant vs) ks (subst (AllByRecursion (IsBoundTo pvs x ps)) (sym h.seen) (constants-bound pvs x ps h.first)) in
    let constants : AllByRecursion (λ k. is_input_at vs k.bit ≡ true → new k.bit) ks =
    all-weaker (λ k. (k.bit < n) × IsBoundTo pvs x ps (view_constant vs k)) (λ k. is_input_at vs k.bit ≡ true → new k.bit) ks
    (λ k r input. new-at all source s c bits ks h k.bit r.0 input (Some (constant k.place k.value)) r.1 tt)
    (all-both (λ k. k.bit < n) (λ k. IsBoundTo pvs x ps (view_constant vs k)) ks h.within bound) in
    all-append new (filter (is_free_at vs bits) (range_with_len 0 n)) (filter (is_input_at vs) (map (λ k. k.bit) ks))
    (all-filter new (is_free_at vs bits) (range_with_len 0 n) free)
    (all-filter new (is_input_at vs) (map (λ k. k.bit) ks) (all-map (λ i. is_input_at vs i ≡ true → new i) (λ k. k.bit) ks constants))

pub leaf-nets : (source : Source) (s c : Instance) (bits : List (Option code_bit.Bit)) (ks : List code_constant.PortConstant) → IsLeafIn source s c bits ks
    → outside_nets source s c ≡ map (λ i. net_outside s c (bit_at (variables c.step.definition) i)) (input_places (variables c.step.definition) bits ks)
leaf-nets source s c bits ks h = outside-places source s c bits ks h.leaf (says-unbound s c bits h.bound) h.within h.seen

pub are-meant : (all : List OwnNet) (source : Source) (s c : Instance) (bits : List (Option code_bit.Bit)) (ks : List code_constant.PortConstant) (next : ℕ) → IsLeafIn source s c bits ks
    → numbers_in all (outside_nets source s c) ≡ range_with_len next (length (outside_nets source s c)) → AreMeant (meant_at all source c) next (input_places (variables c.step.definition) bits ks)
are-meant all source s c bits ks next h numbered =
    let places = input_places (variables c.step.definition) bits ks in
    let f : ℕ → OwnNet = λ i. net_outside s c (bit_at (variables c.step.definition) i) in
    let number : OwnNet → ℕ = λ o. number_of all o.spot in
    let nets = leaf-nets source s c bits ks h in
    let are : map (λ i. number (f i)) places ≡ range_with_len next (length (map f places)) =
    sym (map-map number f places) ∙ subst (λ os. map number os ≡ range_with_len next (length os)) nets numbered in
    map-same (meant_at all source c) (λ i. Some (number (f i))) places (all-new all source s c bits ks h) ∙ sym (map-map (λ n. Some n) (λ i. number (f i)) places)
    ∙ ap (map (λ n. Some n)) (are ∙ ap (range_with_len next) (length-map places f))

-- ---- the rows

-- after the writing, the row of a leaf is that of the outside
pub leaf-row : (all : List OwnNet) (source : Source) (s c : Instance) (bits : List (Option code_bit.Bit)) (ks : List code_constant.PortConstant) (next : ℕ) (new : List (Option ℕ))
    → IsLeafIn source s c bits ks
    → numbers_in all (outside_nets source s c) ≡ range_with_len next (length (outside_nets source s c))
    → IsWritten next (input_places (variables c.step.definition) bits ks) (bound_row (map (number_at all source s) (all_bits (variables s.step.definition))) bits (length (all_bits (variables c.step.definition)))) new
    → new ≡ map (outer_number all source c.step c.above) (all_bits (variables c.step.definition))
leaf-row all source s c bits ks next new h numbered written =
    let places = input_places (variables c.step.definition) bits ks in
    let n = length (all_bits (variables c.step.definition)) in
    let row = map (number_at all source s) (all_bits (variables s.step.definition)) in
    let meant = meant_at all source c in
    written meant (are-meant all source s c bits ks next h numbered) (right-or-among all source s c bits places h.bound (covers-leaf source s c bits ks h))
    ∙ ap (λ n. map meant (range_with_len 0 n)) (length-map-range_with_len _ 0 n) ∙ meant-row all source c

-- and without any, that of an instance that has children
pub inner-row : (all : List OwnNet) (source : Source) (s c : Instance) (bits : List (Option code_bit.Bit)) → HasBound s c bits → has_no_child source c.step ≡ false
    → bound_row (map (number_at all source s) (all_bits (variables s.step.definition))) bits (length (all_bits (variables c.step.definition)))
    ≡ map (outer_number all source c.step c.above) (all_bits (variables c.step.definition))
inner-row all source s c bits h inner =
    let n = length (all_bits (variables c.step.definition)) in
    let row = map (number_at all source s) (all_bits (variables s.step.definition)) in
    let meant = meant_at all source c in
    none-left meant [] (bound_row row bits n) refl (right-or-among all source s c bits [] h none)
    ∙ ap (λ n. map meant (range_with_len 0 n)) (length-map-range_with_len _ 0 n) ∙ meant-row all source c
  where
    none : Covers source s c []
    none i lt leg other =
        let n = (bit_at (variables c.step.definition) i).0.name in
        let no : has_leg source c.step n ≡ false = and_right (is_input (variable c.step.definition n).port) (has_no_child source c.step) inner in
        let f : true ≡ false = sym leg ∙ no in cc
