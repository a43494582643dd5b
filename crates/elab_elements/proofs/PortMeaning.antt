-- Constants at the ports of an instance.
use Rattle.std.specs.Prelude.{◌≡◌, ℕ, ◌<◌, ◌≤◌, List, [], ◌∷◌, ◌++◌, Bool, true, false, ◌&&◌, Option, Some, None, map, flat_map, length, slice_get, refl, if◌then◌else◌}
use Rattle.std.specs.List.{AllByRecursion, All, enumerate_from}
use Rattle.std.specs.Option.{option_and_then}
use Rattle.std.proofs.Common.{sym, ◌∙◌, ap, arith, subst, length-append}
use Rattle.std.proofs.lemmas.List.{map-append, length-map, get_or-map}
use Rattle.std.proofs.lemmas.List.Elements.{recursion_from_All}
use Rattle.sg_circuit.specs.Circuit.{Pass}
use Rattle.sg_circuit.specs.declared.elements.ElementKind.TheVariants as kind
use Rattle.sg_circuit.specs.declared.elements.UdpUse.{UdpUse}
use Rattle.sg_delay.specs.declared.gates.GateDelays.{GateDelays}
use Rattle.sg_text.specs.declared.refusals.Refused.{Refused}
use Rattle.vl_tree.specs.Tree.{Expression, Source}
use Rattle.elab_model.specs.declared.kinds.ElabKind.{ElabKind}
use Rattle.elab_model.specs.Bits.{Bit, net, constant, bits}
use Rattle.elab_model.specs.Connections.{connection_at, bound_to, port_values}
use Rattle.elab_model.specs.Elements.{Component, constant_pass, port_spot, port_elements, child_elements}
use Rattle.elab_model.specs.Hierarchy.{Instance, has_no_child}
use Rattle.elab_model.specs.Homes.{bit, outside, is_input, has_leg, home}
use Rattle.elab_model.specs.Names.{Variable, variables}
use Rattle.elab_model.specs.Nets.{OwnNet, number_of}
use Rattle.elab_model.specs.Ports.{port_list}
use Rattle.elab_laws.specs.Handing.{all_bits}
use Rattle.elab_laws.proofs.Lists.{all-flat_in, all-weaker}
use Rattle.elab_laws.proofs.PartsApart.{places-are}
use Rattle.elab_bits.specs.Seen.{bit_at}
use Rattle.elab_ports.specs.Constants.{BoundConstant, constant_at, connection_constants, constants_in, view_constant}
use Rattle.elab_ports.specs.declared.constants.PortConstant as code
use Rattle.elab_nets.specs.Outside.{outer_number}
use Rattle.elab_elements.specs.Adding.{IsHere, HasOutside, IsConnectedOnce}
use Rattle.elab_elements.specs.declared.placing.Placing.{Placing}
use Rattle.elab_elements.specs.Puts.{RefusesPuts}
use Rattle.elab_elements.specs.Words.{net_in, outside_in, port_net, driven_puts, port_puts}
use Rattle.elab_elements.proofs.Meaning.{Means, means-nil, means-one, means-append, means-same, number-is}
use Rattle.elab_elements.proofs.Own.{own-bit, leg-is, constant-own, constant-outside}

-- the component of a constant
abbrev constant_element : Source → Instance → Instance → BoundConstant → Component
constant_element source s c b = record { scope = s.step.number; place = b.place; inputs = []; output = port_spot source s c b.port b.position; kind = Pass (Some b.value) }

mapped : {A B C : Type 0} (f : B → C) (g : A → List B) (h : A → List C) (xs : List A) → ((x : A) → h x ≡ map f (g x)) → flat_map h xs ≡ map f (flat_map g xs)
mapped f g h [] e = refl
mapped f g h (x ∷ xs) e = (λ i. e x i ++ mapped f g h xs e i) ∙ sym (map-append f (g x) (flat_map g xs))

one-constant : (source : Source) (s c : Instance) (n : List ℕ) (x : ℕ × Bit) → constant_pass s (port_spot source s c n x.0) x.1 ≡ map (constant_element source s c) (constant_at n x)
one-constant source s c n (p, net m q) = refl
one-constant source s c n (p, constant at v) = refl

children-are : (source : Source) (s c : Instance)
    → child_elements source s c ≡ map (constant_element source s c) (constants_in (variables s.step.definition) c.step.connections (port_list c.step.definition))
children-are source s c =
    mapped (constant_element source s c) (connection_constants (variables s.step.definition)) (port_elements source s c) (port_values c.step.connections (port_list c.step.definition))
    (λ e. mapped (constant_element source s c) (constant_at e.0) (λ b. constant_pass s (port_spot source s c e.0 b.0) b.1) (enumerate_from 0 (bits (variables s.step.definition) e.1))
    (one-constant source s c e.0))

-- ---- each is bound to the bit

abbrev IsBoundTo : Instance → Instance → BoundConstant → Type 0
IsBoundTo s c b = bound_to c.step s.step b.port b.position ≡ Some (constant b.place b.value)

one-bound : (s c : Instance) (e : List ℕ × Expression) → connection_at c.step.connections (port_list c.step.definition) e.0 ≡ Some e.1
    → (x : ℕ × Bit) → slice_get (bits (variables s.step.definition) e.1) x.0 ≡ Some x.1 → AllByRecursion (IsBoundTo s c) (constant_at e.0 x)
one-bound s c e first (p, net m q) at = tt
one-bound s c e first (p, constant place v) at = (ap (option_and_then (λ e. slice_get (bits (variables s.step.definition) e) p)) first ∙ at, tt)

all-bound : (s c : Instance) → IsConnectedOnce c.step → AllByRecursion (IsBoundTo s c) (constants_in (variables s.step.definition) c.step.connections (port_list c.step.definition))
all-bound s c h =
    all-flat_in (IsBoundTo s c) (connection_constants (variables s.step.definition)) (port_values c.step.connections (port_list c.step.definition))
    (all-weaker (λ e. connection_at c.step.connections (port_list c.step.definition) e.0 ≡ Some e.1) (λ e. AllByRecursion (IsBoundTo s c) (connection_constants (variables s.step.definition) e))
    (port_values c.step.connections (port_list c.step.definition))
    (λ e first. all-flat_in (IsBoundTo s c) (constant_at e.0) (enumerate_from 0 (bits (variables s.step.definition) e.1))
    (all-weaker (λ x. slice_get (bits (variables s.step.definition) e.1) x.0 ≡ Some x.1) (λ x. AllByRecursion (IsBoundTo s c) (constant_at e.0 x)) (enumerate_from 0 (bits (variables s.step.definition) e.1))
    (one-bound s c e first) (places-are (bits (variables s.step.definition) e.1))))
    h)

-- ---- the net of each

-- an instance in another, as the code has it
pub record IsChildHere (all : List OwnNet) (source : Source) (s c : Instance) (vs : List Variable) (leaf : Bool) (inner : List ℕ) (outer : List (Option ℕ)) : Type 0 where
  pub above : c.above ≡ s.step ∷ s.above
  pub here : IsHere all source c c.step.number vs inner
  pub over : HasOutside all source c vs outer
  pub alone : has_no_child source c.step ≡ leaf

net-is : (all : List OwnNet) (source : Source) (s c : Instance) (vs : List Variable) (leaf : Bool) (inner : List ℕ) (outer : List (Option ℕ)) (k : code.PortConstant)
    → IsChildHere all source s c vs leaf inner outer → k.bit < length (all_bits vs) → IsBoundTo s c (view_constant vs k)
    → port_net vs leaf inner outer k.bit ≡ Some (number_of all (port_spot source s c (bit_at vs k.bit).0.name (bit_at vs k.bit).1))
net-is all source s c vs leaf inner outer k h lt bound = by (is_input (bit_at vs k.bit).0.port && leaf) refl
  where
    b : Variable × ℕ
    b = bit_at vs k.bit

    leg : has_leg source c.step b.0.name ≡ (is_input b.0.port && leaf)
    leg = leg-is source c.step b.0 leaf (own-bit c.step.definition vs k.bit h.here.numbers.table lt) h.alone

    by : (t : Bool) → (is_input (bit_at vs k.bit).0.port && leaf) ≡ t
        → (if t then outside_in outer k.bit else Some (net_in inner k.bit)) ≡ Some (number_of all (port_spot source s c b.0.name b.1))
    by true e =
        ap (λ os. outside_in os k.bit) h.over.numbers ∙ get_or-map (outer_number all source c.step c.above) (all_bits vs) k.bit _ None lt
        ∙ ap (λ above. outer_number all source c.step above b) h.above
        ∙ constant-outside all source c.step s.step s.above b k.place k.value bound (leg ∙ e)
        ∙ ap (λ t. Some (number_of all (if t then outside s.step.number c.step.member b.0.name b.1 else bit c.step.number b.0.name b.1))) (sym (leg ∙ e))
    by false e =
        ap Some (number-is all source c vs inner k.bit h.here.numbers lt ∙ ap (λ above. number_of all (home source c.step above b.0.name b.1)) h.above
        ∙ ap (number_of all) (constant-own source c.step s.step s.above b.0.name b.1 k.place k.value bound))
        ∙ ap (λ t. Some (number_of all (if t then outside s.step.number c.step.member b.0.name b.1 else bit c.step.number b.0.name b.1))) (sym (leg ∙ e))

port-means : (delays : List GateDelays) (udps : List UdpUse) (all : List OwnNet) (source : Source) (s c : Instance) (scope : ℕ) (vs : List Variable) (leaf : Bool) (inner : List ℕ)
    (outer : List (Option ℕ)) (k : code.PortConstant) → s.step.number ≡ scope → IsChildHere all source s c vs leaf inner outer → k.bit < length (all_bits vs) → IsBoundTo s c (view_constant vs k)
    → Means delays udps all (port_puts scope vs leaf inner outer k) (constant_element source s c (view_constant vs k) ∷ [])
port-means delays udps all source s c scope vs leaf inner outer k e h lt bound =
    let spot = port_spot source s c (bit_at vs k.bit).0.name (bit_at vs k.bit).1 in
    means-same delays udps all _ _ _ _ (ap (driven_puts scope k) (sym (net-is all source s c vs leaf inner outer k h lt bound))) refl
    (means-one delays udps all scope k.place [] (number_of all spot) (kind.Pass (Some k.value)) (constant_element source s c (view_constant vs k)) (sym e) refl refl refl refl tt)

all-mean : (delays : List GateDelays) (udps : List UdpUse) (all : List OwnNet) (source : Source) (s c : Instance) (scope : ℕ) (vs : List Variable) (leaf : Bool) (inner : List ℕ)
    (outer : List (Option ℕ)) (ks : List code.PortConstant) → s.step.number ≡ scope → IsChildHere all source s c vs leaf inner outer → AllByRecursion (λ k. k.bit < length (all_bits vs)) ks
    → AllByRecursion (IsBoundTo s c) (map (view_constant vs) ks)
    → Means delays udps all (flat_map (port_puts scope vs leaf inner outer) ks) (map (constant_element source s c) (map (view_constant vs) ks))
all-mean delays udps all source s c scope vs leaf inner outer [] e h l bound = means-nil delays udps all
all-mean delays udps all source s c scope vs leaf inner outer (k ∷ ks) e h l bound =
    means-append delays udps all (port_puts scope vs leaf inner outer k) (flat_map (port_puts scope vs leaf inner outer) ks) (constant_element source s c (view_constant vs k) ∷ [])
    (map (constant_element source s c) (map (view_constant vs) ks))
    (port-means delays udps all source s c scope vs leaf inner outer k e h l.0 bound.0) (all-mean delays udps all source s c scope vs leaf inner outer ks e h l.1 bound.1)

pub ports-mean : (delays : List GateDelays) (udps : List UdpUse) (all : List OwnNet) (source : Source) (s c : Instance) (scope : ℕ) (vs : List Variable) (leaf : Bool) (inner : List ℕ)
    (outer : List (Option ℕ)) (ks : List code.PortConstant) → s.step.number ≡ scope → IsChildHere all source s c vs leaf inner outer → All (λ k. k.bit < length (all_bits vs)) ks
    → IsConnectedOnce c.step → map (view_constant vs) ks ≡ constants_in (variables s.step.definition) c.step.connections (port_list c.step.definition)
    → Means delays udps all (flat_map (port_puts scope vs leaf inner outer) ks) (child_elements source s c)
ports-mean delays udps all source s c scope vs leaf inner outer ks e h l once same =
    means-same delays udps all _ _ _ _ refl (ap (map (constant_element source s c)) same ∙ sym (children-are source s c))
    (all-mean delays udps all source s c scope vs leaf inner outer ks e h (recursion_from_All (λ k. k.bit < length (all_bits vs)) ks l) (subst (AllByRecursion (IsBoundTo s c)) (sym same) (all-bound s c once)))

-- ---- how many

few-driven : (scope : ℕ) (k : code.PortConstant) (o : Option ℕ) → length (driven_puts scope k o) ≤ 1
few-driven scope k None = omega arith
few-driven scope k (Some n) = omega arith

few-puts : (scope : ℕ) (vs : List Variable) (leaf : Bool) (inner : List ℕ) (outer : List (Option ℕ)) (ks : List code.PortConstant) → length (flat_map (port_puts scope vs leaf inner outer) ks) ≤ length ks
few-puts scope vs leaf inner outer [] = omega arith
few-puts scope vs leaf inner outer (k ∷ ks) =
    let one = few-driven scope k (port_net vs leaf inner outer k.bit) in
    let rest = few-puts scope vs leaf inner outer ks in
    let both = length-append (port_puts scope vs leaf inner outer k) (flat_map (port_puts scope vs leaf inner outer) ks) in
    omega arith

pub ports-within : (source : Source) (s c : Instance) (scope : ℕ) (vs : List Variable) (leaf : Bool) (inner : List ℕ) (outer : List (Option ℕ)) (ks : List code.PortConstant)
    → map (view_constant vs) ks ≡ constants_in (variables s.step.definition) c.step.connections (port_list c.step.definition)
    → length (flat_map (port_puts scope vs leaf inner outer) ks) ≤ length (child_elements source s c)
ports-within source s c scope vs leaf inner outer ks same =
    let few = few-puts scope vs leaf inner outer ks in
    let seen : length ks ≡ length (child_elements source s c) =
    sym (length-map ks (view_constant vs)) ∙ ap length same ∙ sym (length-map (constants_in (variables s.step.definition) c.step.connections (port_list c.step.definition)) (constant_element source s c))
    ∙ ap length (sym (children-are source s c)) in
    subst (λ n. length (flat_map (port_puts scope vs leaf inner outer) ks) ≤ n) seen few

-- where the net has been found
pub driven-refused : (scope : ℕ) (vs : List Variable) (leaf : Bool) (inner : List ℕ) (outer : List (Option ℕ)) (k : code.PortConstant) (o : Option ℕ) (cur : Placing) (r : Refused ElabKind)
    → o ≡ port_net vs leaf inner outer k.bit → RefusesPuts cur (driven_puts scope k o) r → RefusesPuts cur (port_puts scope vs leaf inner outer k) r
driven-refused scope vs leaf inner outer k o cur r e h = subst (λ x. RefusesPuts cur (driven_puts scope k x) r) e h
