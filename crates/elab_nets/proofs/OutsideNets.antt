-- The nets that lie outside a leaf and are none of its parent's variables, by places of its row: the inputs that nothing is bound to, then the constants at inputs.
use Rattle.std.specs.Prelude.{◌≡◌, ℕ, ◌<◌, List, [], ◌∷◌, ◌++◌, Bool, true, false, ◌&&◌, Option, cond, map, flat_map, length, refl, if◌then◌else◌}
use Rattle.std.specs.List.{AllByRecursion, enumerate_from, filter, range_with_len}
use Rattle.std.proofs.Common.{sym, ◌∙◌, ap, arith}
use Rattle.std.proofs.Math.Bool.{and-true}
use Rattle.std.proofs.lemmas.Bool.{and_right}
use Rattle.std.proofs.lemmas.Grind.{flat_map-append}
use Rattle.std.proofs.lemmas.List.{map-append}
use Rattle.std.proofs.lemmas.List.Elements.{filter-append}
use Rattle.std.proofs.lemmas.Simd.{map-map}
use Rattle.vl_tree.specs.Tree.{Expression, Source}
use Rattle.elab_model.specs.Bits.{Bit, net, constant, positions}
use Rattle.elab_model.specs.Connections.{port_values}
use Rattle.elab_model.specs.Elements.{expression_bits, bound_above}
use Rattle.elab_model.specs.Hierarchy.{Instance, has_no_child}
use Rattle.elab_model.specs.Homes.{is_input, has_leg}
use Rattle.elab_model.specs.Names.{Variable, variable, variables}
use Rattle.elab_model.specs.Nets.{OwnNet, outside_net, is_unbound, unbound_net, unbound_nets, constant_net, constant_nets}
use Rattle.elab_model.specs.Ports.{port_list}
use Rattle.elab_laws.specs.Handing.{variable_bits, all_bits}
use Rattle.elab_laws.proofs.Lists.{all-weaker, all-range}
use Rattle.elab_bits.specs.Seen.{bit_at}
use Rattle.elab_bits.specs.declared.bits.Bit as code_bit
use Rattle.elab_ports.specs.Constants.{BoundConstant, constant_at, connection_constants, constants_in, view_constant}
use Rattle.elab_ports.specs.declared.constants.PortConstant as code_constant
use Rattle.elab_nets.specs.Inputs.{bound_at, is_input_at, is_nothing, is_free_at}
use Rattle.elab_nets.specs.Outside.{outside_nets}
use Rattle.elab_nets.proofs.Filters.{filter-map, filter-same, by-places, flat-none}
use Rattle.elab_nets.proofs.BitPlaces.{blank, known-at}

abbrev pub net_outside : Instance → Instance → Variable × ℕ → OwnNet
net_outside s c b = outside_net s c b.0 b.1

abbrev bits_of : Instance → List (Variable × ℕ)
bits_of c = all_bits (variables c.step.definition)

-- ---- inputs that nothing is bound to

abbrev is_free : Source → Instance → Variable × ℕ → Bool
is_free source c b = has_leg source c.step b.0.name && is_unbound (bound_above c.step c.above b.0.name b.1)

variable-unbound : (source : Source) (s c : Instance) (v : Variable) (ps : List ℕ)
    → (if has_leg source c.step v.name then flat_map (unbound_net s c v) ps else []) ≡ map (net_outside s c) (filter (is_free source c) (map (λ p. (v, p)) ps))
variable-unbound source s c v [] = by (has_leg source c.step v.name)
  where
    by : (l : Bool) → ◌≡◌ {A = List OwnNet} (if l then [] else []) []
    by true = refl
    by false = refl
variable-unbound source s c v (p ∷ ps) =
    step (has_leg source c.step v.name) (is_unbound (bound_above c.step c.above v.name p)) (flat_map (unbound_net s c v) ps) (filter (is_free source c) (map (λ p. (v, p)) ps)) (variable-unbound source s c v ps)
  where
    step : (l u : Bool) (xs : List OwnNet) (bs : List (Variable × ℕ)) → (if l then xs else []) ≡ map (net_outside s c) bs
        → (if l then (if u then outside_net s c v p ∷ [] else []) ++ xs else []) ≡ map (net_outside s c) (cond (l && u) ((v, p) ∷ bs) bs)
    step true true xs bs e = ap (λ ys. outside_net s c v p ∷ ys) e
    step true false xs bs e = e
    step false u xs bs e = e

all-unbound : (source : Source) (s c : Instance) (vs : List Variable)
    → flat_map (λ v. if has_leg source c.step v.name then flat_map (unbound_net s c v) (positions v.range) else []) vs ≡ map (net_outside s c) (filter (is_free source c) (all_bits vs))
all-unbound source s c [] = refl
all-unbound source s c (v ∷ vs) =
    let rest = flat_map (λ v. if has_leg source c.step v.name then flat_map (unbound_net s c v) (positions v.range) else []) vs in
    let own = filter (is_free source c) (variable_bits v) in
    ap (λ xs. xs ++ rest) (variable-unbound source s c v (positions v.range)) ∙ ap (λ xs. map (net_outside s c) own ++ xs) (all-unbound source s c vs)
    ∙ sym (map-append (net_outside s c) own (filter (is_free source c) (all_bits vs))) ∙ ap (map (net_outside s c)) (sym (filter-append (is_free source c) (variable_bits v) (all_bits vs)))

-- a Leg stands at the input bits of a leaf
pub leg-at : (source : Source) (c : Instance) (i : ℕ) → has_no_child source c.step ≡ true → i < length (all_bits (variables c.step.definition))
    → has_leg source c.step (bit_at (variables c.step.definition) i).0.name ≡ is_input_at (variables c.step.definition) i
leg-at source c i leaf lt =
    let vs = variables c.step.definition in
    ap (λ v. is_input v.port && has_no_child source c.step) (known-at c.step.definition i lt) ∙ ap (λ b. is_input_at vs i && b) leaf ∙ and-true (is_input_at vs i)

-- the code's bits say which bits are bound
abbrev pub SaysUnbound : Instance → List (Option code_bit.Bit) → Type 0
SaysUnbound c bits = (i : ℕ) → i < length (all_bits (variables c.step.definition))
    → is_unbound (bound_above c.step c.above (bit_at (variables c.step.definition) i).0.name (bit_at (variables c.step.definition) i).1) ≡ is_nothing (bound_at bits i)

unbound-places : (source : Source) (s c : Instance) (bits : List (Option code_bit.Bit)) → has_no_child source c.step ≡ true → SaysUnbound c bits
    → unbound_nets source s c
    ≡ map (λ i. net_outside s c (bit_at (variables c.step.definition) i)) (filter (is_free_at (variables c.step.definition) bits) (range_with_len 0 (length (all_bits (variables c.step.definition)))))
unbound-places source s c bits leaf says =
    let vs = variables c.step.definition in
    let places = range_with_len 0 (length (all_bits vs)) in
    let free = is_free source c in
    let same : filter (λ i. free (bit_at vs i)) places ≡ filter (is_free_at vs bits) places =
    filter-same (λ i. free (bit_at vs i)) (is_free_at vs bits) places
    (all-weaker (λ i. i < length (all_bits vs)) (λ i. free (bit_at vs i) ≡ is_free_at vs bits i) places
    (λ i lt. ap (λ b. b && is_unbound (bound_above c.step c.above (bit_at vs i).0.name (bit_at vs i).1)) (leg-at source c i leaf lt) ∙ ap (λ b. is_input_at vs i && b) (says i lt))
    (all-range (length (all_bits vs)) 0 (length (all_bits vs)) (omega arith))) in
    all-unbound source s c vs ∙ ap (λ bs. map (net_outside s c) (filter free bs)) (by-places (all_bits vs) blank) ∙ ap (map (net_outside s c)) (filter-map free (bit_at vs) places)
    ∙ map-map (net_outside s c) (bit_at vs) (filter (λ i. free (bit_at vs i)) places) ∙ ap (map (λ i. net_outside s c (bit_at vs i))) same

-- ---- constants at inputs

abbrev constant_outside : Source → Instance → Instance → BoundConstant → List OwnNet
constant_outside source s c k = if has_leg source c.step k.port then outside_net s c (variable c.step.definition k.port) k.position ∷ [] else []

connection-nets : (source : Source) (s c : Instance) (n : List ℕ) (xs : List (ℕ × Bit))
    → (if has_leg source c.step n then flat_map (constant_net s c (variable c.step.definition n)) xs else []) ≡ flat_map (constant_outside source s c) (flat_map (constant_at n) xs)
connection-nets source s c n [] = by (has_leg source c.step n)
  where
    by : (l : Bool) → ◌≡◌ {A = List OwnNet} (if l then [] else []) []
    by true = refl
    by false = refl
connection-nets source s c n ((p, net m q) ∷ xs) = connection-nets source s c n xs
connection-nets source s c n ((p, constant at v) ∷ xs) =
    step (has_leg source c.step n) (outside_net s c (variable c.step.definition n) p) (flat_map (constant_net s c (variable c.step.definition n)) xs) (flat_map (constant_outside source s c) (flat_map (constant_at n) xs))
    (connection-nets source s c n xs)
  where
    step : (l : Bool) (o : OwnNet) (xs ys : List OwnNet) → (if l then xs else []) ≡ ys → (if l then o ∷ xs else []) ≡ (if l then o ∷ [] else []) ++ ys
    step true o xs ys e = ap (λ zs. o ∷ zs) e
    step false o xs ys e = e

all-connections : (source : Source) (s c : Instance) (es : List (List ℕ × Expression))
    → flat_map (λ e. if has_leg source c.step e.0 then flat_map (constant_net s c (variable c.step.definition e.0)) (enumerate_from 0 (expression_bits s e.1)) else []) es
    ≡ flat_map (constant_outside source s c) (flat_map (connection_constants (variables s.step.definition)) es)
all-connections source s c [] = refl
all-connections source s c (e ∷ es) =
    let vs = variables s.step.definition in
    let rest = flat_map (λ e. if has_leg source c.step e.0 then flat_map (constant_net s c (variable c.step.definition e.0)) (enumerate_from 0 (expression_bits s e.1)) else []) es in
    ap (λ xs. xs ++ rest) (connection-nets source s c e.0 (enumerate_from 0 (expression_bits s e.1)))
    ∙ ap (λ xs. flat_map (constant_outside source s c) (connection_constants vs e) ++ xs) (all-connections source s c es)
    ∙ sym (flat_map-append (constant_outside source s c) (connection_constants vs e) (flat_map (connection_constants vs) es))

constant-places : (source : Source) (s c : Instance) (ks : List code_constant.PortConstant) → has_no_child source c.step ≡ true
    → AllByRecursion (λ k. k.bit < length (all_bits (variables c.step.definition))) ks
    → flat_map (constant_outside source s c) (map (view_constant (variables c.step.definition)) ks)
    ≡ map (λ i. net_outside s c (bit_at (variables c.step.definition) i)) (filter (is_input_at (variables c.step.definition)) (map (λ k. k.bit) ks))
constant-places source s c [] leaf within = refl
constant-places source s c (k ∷ ks) leaf within =
    let vs = variables c.step.definition in
    let b = bit_at vs k.bit in
    let rest = flat_map (constant_outside source s c) (map (view_constant vs) ks) in
    ap (λ l. (if l then outside_net s c (variable c.step.definition b.0.name) b.1 ∷ [] else []) ++ rest) (leg-at source c k.bit leaf within.0)
    ∙ ap (λ v. (if is_input_at vs k.bit then outside_net s c v b.1 ∷ [] else []) ++ rest) (known-at c.step.definition k.bit within.0)
    ∙ step (is_input_at vs k.bit) rest (filter (is_input_at vs) (map (λ k. k.bit) ks)) (constant-places source s c ks leaf within.1)
  where
    step : (l : Bool) (xs : List OwnNet) (is : List ℕ) → xs ≡ map (λ i. net_outside s c (bit_at (variables c.step.definition) i)) is
        → (if l then net_outside s c (bit_at (variables c.step.definition) k.bit) ∷ [] else []) ++ xs ≡ map (λ i. net_outside s c (bit_at (variables c.step.definition) i)) (cond l (k.bit ∷ is) is)
    step true xs is e = ap (λ ys. net_outside s c (bit_at (variables c.step.definition) k.bit) ∷ ys) e
    step false xs is e = e

-- ---- both

-- the places of the inputs that nothing is bound to, then of the constants at inputs
abbrev pub input_places : List Variable → List (Option code_bit.Bit) → List code_constant.PortConstant → List ℕ
input_places vs bits ks = filter (is_free_at vs bits) (range_with_len 0 (length (all_bits vs))) ++ filter (is_input_at vs) (map (λ k. k.bit) ks)

pub outside-places : (source : Source) (s c : Instance) (bits : List (Option code_bit.Bit)) (ks : List code_constant.PortConstant) → has_no_child source c.step ≡ true → SaysUnbound c bits
    → AllByRecursion (λ k. k.bit < length (all_bits (variables c.step.definition))) ks
    → map (view_constant (variables c.step.definition)) ks ≡ constants_in (variables s.step.definition) c.step.connections (port_list c.step.definition)
    → outside_nets source s c ≡ map (λ i. net_outside s c (bit_at (variables c.step.definition) i)) (input_places (variables c.step.definition) bits ks)
outside-places source s c bits ks leaf says within seen =
    let vs = variables c.step.definition in
    let f : ℕ → OwnNet = λ i. net_outside s c (bit_at vs i) in
    let free = filter (is_free_at vs bits) (range_with_len 0 (length (all_bits vs))) in
    let constants : constant_nets source s c ≡ map f (filter (is_input_at vs) (map (λ k. k.bit) ks)) =
    all-connections source s c (port_values c.step.connections (port_list c.step.definition)) ∙ ap (flat_map (constant_outside source s c)) (sym seen) ∙ constant-places source s c ks leaf within in
    ap (λ xs. xs ++ constant_nets source s c) (unbound-places source s c bits leaf says) ∙ ap (λ xs. map f free ++ xs) constants
    ∙ sym (map-append f free (filter (is_input_at vs) (map (λ k. k.bit) ks)))

-- no new net lies outside an instance that has children
pub no-outside : (source : Source) (s c : Instance) → has_no_child source c.step ≡ false → outside_nets source s c ≡ []
no-outside source s c inner =
    let leg : (n : List ℕ) → has_leg source c.step n ≡ false = λ n. and_right (is_input (variable c.step.definition n).port) (has_no_child source c.step) inner in
    let unbound : unbound_nets source s c ≡ [] =
    flat-none (λ v. if has_leg source c.step v.name then flat_map (unbound_net s c v) (positions v.range) else []) (variables c.step.definition)
    (λ v. ap (λ l. if l then flat_map (unbound_net s c v) (positions v.range) else []) (leg v.name)) in
    let constants : constant_nets source s c ≡ [] =
    flat-none (λ e. if has_leg source c.step e.0 then flat_map (constant_net s c (variable c.step.definition e.0)) (enumerate_from 0 (expression_bits s e.1)) else [])
    (port_values c.step.connections (port_list c.step.definition))
    (λ e. ap (λ l. if l then flat_map (constant_net s c (variable c.step.definition e.0)) (enumerate_from 0 (expression_bits s e.1)) else []) (leg e.0)) in
    ap (λ xs. xs ++ constant_nets source s c) unbound ∙ constants
