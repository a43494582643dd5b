-- The nets of constants at a leaf's inputs, of members and of instances are distinct; the number of a net is how many come before it.
use Rattle.std.specs.Prelude.{◌≡◌, ℕ, ◌==◌, List, [], ◌∷◌, ◌++◌, Bool, true, false, Some, filter, flat_map, slice_get, length, refl, if◌then◌else◌, bytes_eq}
use Rattle.std.specs.List.{AllByRecursion, enumerate_from}
use Rattle.std.specs.Option.{option_and_then}
use Rattle.std.proofs.Common.{sym, ◌∙◌, ap, inl, inr, subst}
use Rattle.std.proofs.lemmas.Bool.{eqb-true}
use Rattle.std.specs.Prelude.{Option, None}
use Rattle.vl_tree.specs.Tree.{Part, a_module, a_primitive}
use Rattle.elab_model.specs.Definitions.{definition_of}
use Rattle.elab_model.specs.Members.{connection_values}
use Rattle.elab_model.specs.Nets.{instance_nets, terminal_nets}
use Rattle.elab_laws.proofs.Ends.{AreOtherBits, first_bits-apart, path_ends-apart}
use Rattle.elab_laws.proofs.Numbers.{AreOther, number-after, number, numbers-are-places}
use Rattle.elab_laws.proofs.LateBits.{late_bits-apart, late_bits-cross}
use Rattle.elab_laws.proofs.Lists.{In, in-map, all-in, all-append, all-flat, all-flat_in, all-from, all-map, all-weaker, all-anyway, Pairwise, Cross, pairwise-append, cross-by, pairwise-both, pairwise-flat, pairwise-map, pairwise-map_back, pairwise-pieces, pairwise-weaker, range-apart, enumerate-apart}
use Rattle.elab_laws.proofs.Homes.{spot-same}
use Rattle.elab_laws.proofs.Apart.{Other, AreApart, scope_of_spot, late_bits, IsOfPart, AreOtherParts, IsBit, and-false, scopes-tell, parts-tell, bits-tell, spots-either, IsBitAt, owned-bit, variable_nets-apart}
use Rattle.elab_laws.proofs.PartsApart.{all-if, pairwise-if, places-are, children-above, child_at-one, child_at-all, gate_nets-apart, IsTerminal, terminal-is, AreOnce, IsOutside, IsUnbound, IsBound, outside-tell, bound-tell, both-false, unbound-apart, unbound-all}
use Rattle.elab_model.specs.Bits.{Bit, net, constant, bits, positions}
use Rattle.elab_model.specs.Connections.{connection_at, port_values}
use Rattle.elab_model.specs.Elements.{output_bits, input_bits, output_count, child_at, bound_above}
use Rattle.elab_model.specs.Ends.{ends, first_ends}
use Rattle.elab_model.specs.Hierarchy.{Instance, instances, children, size, levels_below_top}
use Rattle.elab_model.specs.Homes.{has_leg}
use Rattle.elab_model.specs.Lates.{is_unnamed, own_copies}
use Rattle.elab_model.specs.Members.{Member, assignment, supply, gate, instance, path, check, members}
use Rattle.elab_model.specs.Names.{variable, variables}
use Rattle.elab_model.specs.Nets.{OwnNet, bit_net, variable_nets, terminal_net, inner_net, late_net, is_unbound, unbound_nets, constant_net, constant_nets, member_nets, nets_of, number_of, nets}
use Rattle.elab_model.specs.Ports.{port_list}
use Rattle.elab_model.specs.Terms.{is_same_bit}
use Rattle.vl_tree.specs.Tree.{Module, Expression, Source}

-- the nets that one connection makes, and those of one bit
abbrev pub connection_net : Source → Instance → Instance → List ℕ × Expression → List OwnNet
connection_net source s c e =
    if has_leg source c.step e.0 then flat_map (constant_net s c (variable c.step.definition e.0)) (enumerate_from 0 (bits (variables s.step.definition) e.1)) else []

constant-is : (s c : Instance) (m : Module) (n : List ℕ) (x : ℕ × Bit) → AllByRecursion (IsOutside s c n x.0) (constant_net s c (variable m n) x)
constant-is s c m n (p, net k q) = tt
constant-is s c m n (p, constant at w) = (refl, tt)

constant-one : (s c : Instance) (m : Module) (n : List ℕ) (x : ℕ × Bit) → AreApart (constant_net s c (variable m n) x)
constant-one s c m n (p, net k q) = tt
constant-one s c m n (p, constant at w) = (tt, tt)

abbrev IsOutsideOf : Instance → Instance → List ℕ → OwnNet → Type 0
IsOutsideOf s c n o = (p : ℕ) × IsOutside s c n p o

connection-of : (source : Source) (s c : Instance) (e : List ℕ × Expression) → AllByRecursion (IsOutsideOf s c e.0) (connection_net source s c e)
connection-of source s c e =
    all-if (IsOutsideOf s c e.0) (has_leg source c.step e.0) (flat_map (constant_net s c (variable c.step.definition e.0)) (enumerate_from 0 (bits (variables s.step.definition) e.1)))
    (all-flat (IsOutsideOf s c e.0) (constant_net s c (variable c.step.definition e.0)) (enumerate_from 0 (bits (variables s.step.definition) e.1))
    (λ x. all-weaker (IsOutside s c e.0 x.0) (IsOutsideOf s c e.0) (constant_net s c (variable c.step.definition e.0) x) (λ o h. (x.0, h)) (constant-is s c c.step.definition e.0 x)))

connection-apart : (source : Source) (s c : Instance) (e : List ℕ × Expression) → AreApart (connection_net source s c e)
connection-apart source s c e =
    pairwise-if Other (has_leg source c.step e.0) (flat_map (constant_net s c (variable c.step.definition e.0)) (enumerate_from 0 (bits (variables s.step.definition) e.1)))
    (pairwise-flat Other (λ x y. (x.0 == y.0) ≡ false) (λ x. IsOutside s c e.0 x.0) (constant_net s c (variable c.step.definition e.0)) (enumerate_from 0 (bits (variables s.step.definition) e.1))
    (constant-is s c c.step.definition e.0)
    (λ x y k a b h g. outside-tell s c e.0 e.0 x.0 y.0 a b (and-false (bytes_eq e.0 e.0) (x.0 == y.0) k) h g)
    (all-anyway (λ x. AreApart (constant_net s c (variable c.step.definition e.0) x)) (enumerate_from 0 (bits (variables s.step.definition) e.1)) (constant-one s c c.step.definition e.0))
    (enumerate-apart 0 (bits (variables s.step.definition) e.1)))

constants-apart : (source : Source) (s c : Instance) → AreOnce c.step → AreApart (constant_nets source s c)
constants-apart source s c once =
    pairwise-flat Other (λ x y. bytes_eq x.0 y.0 ≡ false) (λ e. IsOutsideOf s c e.0) (connection_net source s c) (port_values c.step.connections (port_list c.step.definition))
    (connection-of source s c)
    (λ x y e a b h g. outside-tell s c x.0 y.0 h.0 g.0 a b (both-false (bytes_eq x.0 y.0) (h.0 == g.0) e) h.1 g.1)
    (all-anyway (λ e. AreApart (connection_net source s c e)) (port_values c.step.connections (port_list c.step.definition)) (connection-apart source s c))
    once.names

-- a constant's place is bound
constant-bound : (s c : Instance) (e : List ℕ × Expression) → c.above ≡ s.step ∷ s.above → connection_at c.step.connections (port_list c.step.definition) e.0 ≡ Some e.1
    → (x : ℕ × Bit) → slice_get (bits (variables s.step.definition) e.1) x.0 ≡ Some x.1 → is_unbound (bound_above c.step c.above e.0 x.0) ≡ false
constant-bound s c e above first x at =
    ap (λ a. is_unbound (bound_above c.step a e.0 x.0)) above
    ∙ ap (λ o. is_unbound (option_and_then (λ e. slice_get (bits (variables s.step.definition) e) x.0) o)) first
    ∙ ap is_unbound at

constants-bound : (source : Source) (s c : Instance) → c.above ≡ s.step ∷ s.above → AreOnce c.step → AllByRecursion (IsBound s c) (constant_nets source s c)
constants-bound source s c above once =
    all-flat_in (IsBound s c) (connection_net source s c) (port_values c.step.connections (port_list c.step.definition))
    (all-weaker (λ e. connection_at c.step.connections (port_list c.step.definition) e.0 ≡ Some e.1) (λ e. AllByRecursion (IsBound s c) (connection_net source s c e)) (port_values c.step.connections (port_list c.step.definition))
    (λ e first. all-if (IsBound s c) (has_leg source c.step e.0) (flat_map (constant_net s c (variable c.step.definition e.0)) (enumerate_from 0 (bits (variables s.step.definition) e.1)))
    (all-flat_in (IsBound s c) (constant_net s c (variable c.step.definition e.0)) (enumerate_from 0 (bits (variables s.step.definition) e.1))
    (all-weaker (λ x. slice_get (bits (variables s.step.definition) e.1) x.0 ≡ Some x.1) (λ x. AllByRecursion (IsBound s c) (constant_net s c (variable c.step.definition e.0) x)) (enumerate_from 0 (bits (variables s.step.definition) e.1))
    (λ x at. all-weaker (IsOutside s c e.0 x.0) (IsBound s c) (constant_net s c (variable c.step.definition e.0) x) (λ o h. (e.0, x.0, h, constant-bound s c e above first x at)) (constant-is s c c.step.definition e.0 x))
    (places-are (bits (variables s.step.definition) e.1)))))
    once.first)

pub child-apart : (source : Source) (s c : Instance) → c.above ≡ s.step ∷ s.above → AreOnce c.step → AreApart (unbound_nets source s c ++ constant_nets source s c)
child-apart source s c above once =
    pairwise-append Other (unbound_nets source s c) (constant_nets source s c) (unbound-apart source s c) (constants-apart source s c once)
    (cross-by Other (IsUnbound s c) (IsBound s c) (unbound_nets source s c) (constant_nets source s c) (bound-tell s c) (unbound-all source s c) (constants-bound source s c above once))

-- ---- the members of an instance

-- no port of an instance in it is connected twice
abbrev pub ConnectedOnce : Source → Instance → Type 0
ConnectedOnce source s = AllByRecursion (λ c. AreOnce c.step) (children source s)

all-two : {A : Type 0} (P Q R : A → Type 0) (xs : List A) → ((x : A) → P x → Q x → R x) → AllByRecursion P xs → AllByRecursion Q xs → AllByRecursion R xs
all-two P Q R [] f h g = tt
all-two P Q R (x ∷ xs) f h g = (f x h.0 g.0, all-two P Q R xs f h.1 g.1)

part-apart : (source : Source) (s : Instance) → ConnectedOnce source s → (x : ℕ × Member) → AreApart (member_nets source s x)
part-apart source s once (k, assignment j) = tt
part-apart source s once (k, supply n v) = tt
part-apart source s once (k, gate g d i) = let outputs = output_count g (length i.terminals) in gate_nets-apart s k (output_bits s outputs i.terminals) (input_bits s outputs i.terminals)
part-apart source s once (k, path p) =
    let es = first_ends s.step.definition (k, path p) in
    pairwise-map Other (inner_net s) es
    (pairwise-weaker AreOtherBits (λ b c. Other (inner_net s b) (inner_net s c)) es
    (λ b c e. and-false (s.step.number == s.step.number) (is_same_bit b c) e) (first_bits-apart _ (ends s.step.definition (path p))))
part-apart source s once (k, check c) =
    let cs = filter is_unnamed (own_copies s.step.definition (k, check c)) in
    pairwise-map Other (λ c. late_net s c.1.signal) cs
    (pairwise-weaker (λ c d. AreOtherBits c.1.signal d.1.signal) (λ c d. Other (late_net s c.1.signal) (late_net s d.1.signal)) cs
    (λ c d e. and-false (s.step.number == s.step.number) (is_same_bit c.1.signal d.1.signal) e)
    (pairwise-map_back AreOtherBits (λ c. c.1.signal) cs (late_bits-apart s.step.definition (k, check c))))
part-apart source s once (k, instance n d i) = by (definition_of source n.text)
  where
    by : (o : Option Part) → AreApart (instance_nets source s k i o)
    by None = tt
    by (Some (a_primitive p)) = let es = connection_values i.connections in gate_nets-apart s k (output_bits s 1 es) (input_bits s 1 es)
    by (Some (a_module m)) =
        pairwise-flat Other (λ c d. ⊥) (λ c o. Unit {0}) (λ c. unbound_nets source s c ++ constant_nets source s c) (child_at source s k)
        (λ c. all-anyway (λ o. Unit {0}) (unbound_nets source s c ++ constant_nets source s c) (λ o. tt))
        (λ c d e a b h g. absurd e)
        (all-two (λ c. c.above ≡ s.step ∷ s.above) (λ c. AreOnce c.step) (λ c. AreApart (unbound_nets source s c ++ constant_nets source s c)) (child_at source s k) (child-apart source s)
        (child_at-all (λ c. c.above ≡ s.step ∷ s.above) source s k (children-above source s.step.levels s))
        (child_at-all (λ c. AreOnce c.step) source s k once))
        (child_at-one source s k)

-- it is one of the instance's, and of this part
abbrev pub IsInPart : Instance → ℕ × Member → OwnNet → Type 0
IsInPart s x o = (scope_of_spot o.spot ≡ s.step.number) × IsOfPart s.step.definition x o.spot

outside-part : (s c : Instance) (x : ℕ × Member) (n : List ℕ) (p : ℕ) (o : OwnNet) → c.step.member ≡ x.0 → IsOutside s c n p o → IsInPart s x o
outside-part s c x n p o e h = rw h (refl, e)

child-part : (source : Source) (s c : Instance) (x : ℕ × Member) → c.step.member ≡ x.0 → AllByRecursion (IsInPart s x) (unbound_nets source s c ++ constant_nets source s c)
child-part source s c x e =
    all-append (IsInPart s x) (unbound_nets source s c) (constant_nets source s c)
    (all-weaker (IsUnbound s c) (IsInPart s x) (unbound_nets source s c) (λ o h. outside-part s c x h.0 h.1.0 o e h.1.1) (unbound-all source s c))
    (all-flat (IsInPart s x) (connection_net source s c) (port_values c.step.connections (port_list c.step.definition))
    (λ v. all-weaker (IsOutsideOf s c v.0) (IsInPart s x) (connection_net source s c v) (λ o h. outside-part s c x v.0 h.0 o e h.1) (connection-of source s c v)))

chosen-part : (k : ℕ) (c : Instance) → AllByRecursion (λ x. x.step.member ≡ k) (if c.step.member == k then c ∷ [] else [])
chosen-part k c = by (c.step.member == k) refl
  where
    by : (b : Bool) → (c.step.member == k) ≡ b → AllByRecursion (λ x. x.step.member ≡ k) (if b then c ∷ [] else [])
    by true e = (eqb-true c.step.member k e, tt)
    by false e = tt

terminals-part : (s : Instance) (x : ℕ × Member) (outputs inputs : List Bit) → AllByRecursion (IsInPart s x) (terminal_nets s x.0 outputs inputs)
terminals-part s x outputs inputs =
    all-flat (IsInPart s x) (terminal_net s x.0 outputs) (enumerate_from 0 inputs)
    (λ i. all-weaker (IsTerminal s.step.number x.0 i) (IsInPart s x) (terminal_net s x.0 outputs i) (λ o h. rw h (refl, refl)) (terminal-is s x.0 outputs i))

pub part-is : (source : Source) (s : Instance) (x : ℕ × Member) → AllByRecursion (IsInPart s x) (member_nets source s x)
part-is source s (k, assignment j) = tt
part-is source s (k, supply n v) = tt
part-is source s (k, gate g d i) = let outputs = output_count g (length i.terminals) in terminals-part s (k, gate g d i) (output_bits s outputs i.terminals) (input_bits s outputs i.terminals)
part-is source s (k, path p) =
    let es = first_ends s.step.definition (k, path p) in
    all-map (IsInPart s (k, path p)) (inner_net s) es (all-from (λ b. IsInPart s (k, path p) (inner_net s b)) es (λ b h. (refl, h)))
part-is source s (k, check c) =
    let cs = filter is_unnamed (own_copies s.step.definition (k, check c)) in
    all-map (IsInPart s (k, check c)) (λ c. late_net s c.1.signal) cs
    (all-from (λ d. IsInPart s (k, check c) (late_net s d.1.signal)) cs (λ d h. (refl, in-map (λ c. c.1.signal) d cs h)))
part-is source s (k, instance n d i) = by (definition_of source n.text)
  where
    x : ℕ × Member
    x = (k, instance n d i)

    by : (o : Option Part) → AllByRecursion (IsInPart s (k, instance n d i)) (instance_nets source s k i o)
    by None = tt
    by (Some (a_primitive p)) = let es = connection_values i.connections in terminals-part s x (output_bits s 1 es) (input_bits s 1 es)
    by (Some (a_module m)) =
        all-flat_in (IsInPart s x) (λ c. unbound_nets source s c ++ constant_nets source s c) (child_at source s k)
        (all-weaker (λ c. c.step.member ≡ k) (λ c. AllByRecursion (IsInPart s x) (unbound_nets source s c ++ constant_nets source s c)) (child_at source s k) (λ c e. child-part source s c x e)
        (all-flat (λ c. c.step.member ≡ k) (λ c. if c.step.member == k then c ∷ [] else []) (children source s) (chosen-part k)))

-- the members of a module are different parts
parts-differ : (m : Module) → Pairwise (AreOtherParts m) (enumerate_from 0 (members m))
parts-differ m =
    let xs = enumerate_from 0 (members m) in
    pairwise-both (λ x y. (x.0 == y.0) ≡ false) (λ x y. Cross AreOtherBits (first_ends m x) (first_ends m y) × Cross AreOtherBits (late_bits m x) (late_bits m y)) xs
    (enumerate-apart 0 (members m))
    (pairwise-both (λ x y. Cross AreOtherBits (first_ends m x) (first_ends m y)) (λ x y. Cross AreOtherBits (late_bits m x) (late_bits m y)) xs
    (pairwise-pieces AreOtherBits (first_ends m) xs (path_ends-apart m)) (late_bits-cross m))

parts-apart : (source : Source) (s : Instance) → ConnectedOnce source s → AreApart (flat_map (member_nets source s) (enumerate_from 0 (members s.step.definition)))
parts-apart source s once =
    pairwise-flat Other (AreOtherParts s.step.definition) (IsInPart s) (member_nets source s) (enumerate_from 0 (members s.step.definition))
    (part-is source s) (λ x y e a b h g. parts-tell s.step.definition x y a.spot b.spot e h.1 g.1)
    (all-anyway (λ x. AreApart (member_nets source s x)) (enumerate_from 0 (members s.step.definition)) (part-apart source s once))
    (parts-differ s.step.definition)

-- a bit of a variable of the instance
abbrev pub IsBitOwned : ℕ → OwnNet → Type 0
IsBitOwned s o = (scope_of_spot o.spot ≡ s) × IsBit o.spot

pub variable-is : (source : Source) (s : Instance) → AllByRecursion (IsBitOwned s.step.number) (variable_nets source s)
variable-is source s =
    all-flat (IsBitOwned s.step.number) (λ v. flat_map (bit_net source s v) (positions v.range)) (variables s.step.definition)
    (λ v. all-flat (IsBitOwned s.step.number) (bit_net source s v) (positions v.range)
    (λ p. all-weaker (IsBitAt s.step.number v.name p) (IsBitOwned s.step.number) (bit_net source s v p) (λ o h. rw h (refl, tt)) (owned-bit source s v p)))

abbrev IsNoBit : Instance → OwnNet → Type 0
IsNoBit s o = (x : ℕ × Member) × IsInPart s x o

parts-are : (source : Source) (s : Instance) → AllByRecursion (IsNoBit s) (flat_map (member_nets source s) (enumerate_from 0 (members s.step.definition)))
parts-are source s =
    all-flat (IsNoBit s) (member_nets source s) (enumerate_from 0 (members s.step.definition))
    (λ x. all-weaker (IsInPart s x) (IsNoBit s) (member_nets source s x) (λ o h. (x, h)) (part-is source s x))

-- the nets of one instance
pub nets_of-apart : (source : Source) (s : Instance) → ConnectedOnce source s → AreApart (nets_of source s)
nets_of-apart source s once =
    pairwise-append Other (variable_nets source s) (flat_map (member_nets source s) (enumerate_from 0 (members s.step.definition))) (variable_nets-apart source s) (parts-apart source s once)
    (cross-by Other (IsBitOwned s.step.number) (IsNoBit s) (variable_nets source s) (flat_map (member_nets source s) (enumerate_from 0 (members s.step.definition)))
    (λ a b h g. bits-tell s.step.definition g.0 a.spot b.spot h.1 g.1.1) (variable-is source s) (parts-are source s))

pub nets_of-scope : (source : Source) (s : Instance) → AllByRecursion (λ o. scope_of_spot o.spot ≡ s.step.number) (nets_of source s)
nets_of-scope source s =
    all-append (λ o. scope_of_spot o.spot ≡ s.step.number) (variable_nets source s) (flat_map (member_nets source s) (enumerate_from 0 (members s.step.definition)))
    (all-weaker (IsBitOwned s.step.number) (λ o. scope_of_spot o.spot ≡ s.step.number) (variable_nets source s) (λ o h. h.0) (variable-is source s))
    (all-weaker (IsNoBit s) (λ o. scope_of_spot o.spot ≡ s.step.number) (flat_map (member_nets source s) (enumerate_from 0 (members s.step.definition))) (λ o h. h.1.0) (parts-are source s))

pub instances-apart : (source : Source) (top : Module) → Pairwise (λ s t. (s.step.number == t.step.number) ≡ false) (instances source top)
instances-apart source top =
    pairwise-map_back (λ a b. (a == b) ≡ false) number (instances source top)
    (subst (Pairwise (λ a b. (a == b) ≡ false)) (sym (numbers-are-places source top)) (range-apart 0 (size source levels_below_top top)))

-- the nets are distinct, where no port is connected twice
pub nets-apart : (source : Source) (top : Module) → AllByRecursion (ConnectedOnce source) (instances source top) → AreApart (nets source top)
nets-apart source top once =
    pairwise-flat Other (λ s t. (s.step.number == t.step.number) ≡ false) (λ s o. scope_of_spot o.spot ≡ s.step.number) (nets_of source) (instances source top)
    (nets_of-scope source)
    (λ s t e a b h g. scopes-tell a.spot b.spot (rw (h, g) e))
    (all-weaker (ConnectedOnce source) (λ s. AreApart (nets_of source s)) (instances source top) (nets_of-apart source) once)
    (instances-apart source top)

-- ---- the number of a net is how many come before it

pub others-before : (xs : List OwnNet) (o : OwnNet) (ys : List OwnNet) → AreApart (xs ++ o ∷ ys) → AreOther o.spot xs
others-before [] o ys h = tt
others-before (x ∷ xs) o ys h = (spots-either o.spot x.spot ∙ all-in (Other x) o (xs ++ o ∷ ys) h.0 (there xs), others-before xs o ys h.1)
  where
    there : (xs : List OwnNet) → In o (xs ++ o ∷ ys)
    there [] = inl refl
    there (x ∷ xs) = inr (there xs)

pub number-count : (xs : List OwnNet) (o : OwnNet) (ys : List OwnNet) → AreApart (xs ++ o ∷ ys) → number_of (xs ++ o ∷ ys) o.spot ≡ length xs
number-count xs o ys h = number-after o.spot xs o ys (others-before xs o ys h) (spot-same o.spot)
