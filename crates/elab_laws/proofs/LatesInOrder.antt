-- The Lates of an instance, among all elements, are one for each copy of its module, in the same order.
use Rattle.std.specs.Prelude.{◌≡◌, ℕ, ◌==◌, List, [], ◌∷◌, ◌++◌, true, false, ◌&&◌, Option, Some, None, filter, flat_map, length, map, zip, refl, ℤ}
use Rattle.std.specs.List.{AllByRecursion, enumerate_from}
use Rattle.std.proofs.Common.{sym, ◌∙◌, ap, inl, inr, append-nil}
use Rattle.std.proofs.lemmas.Bool.{eq-eqb}
use Rattle.std.proofs.lemmas.List.{map-append}
use Rattle.std.proofs.lemmas.List.Elements.{filter-append}
use Rattle.sg_circuit.specs.Circuit.{Kind, Gate, Udp}
use Rattle.sg_delay.specs.declared.corners.Corner.{Corner}
use Rattle.sg_text.specs.declared.places.Place.{Place}
use Rattle.vl_tree.specs.Tree.{Instance as instance_text, Delay, Part, a_module, a_primitive, Source}
use Rattle.elab_model.specs.Bits.{Bit, net, constant, positions, leaf_bits}
use Rattle.elab_model.specs.Connections.{port_values}
use Rattle.elab_model.specs.Definitions.{definition_of}
use Rattle.elab_model.specs.Delays.{tick_of, delays_of}
use Rattle.elab_model.specs.Elements.{Component, expression_bits, leg_at, variable_legs, legs, pass_to, passes, constant_pass, output_element, input_spot, terminal_elements, output_count, output_bits, input_bits, port_spot, port_elements, child_elements, child_at, path_at, late_at, instance_elements, member_elements, elements_of}
use Rattle.elab_model.specs.Ends.{first_ends}
use Rattle.elab_model.specs.Hierarchy.{Instance, instances, is_leaf}
use Rattle.elab_model.specs.Homes.{Spot, is_input, terminal}
use Rattle.elab_model.specs.Lates.{DelayedCopy, own_copies, module_copies}
use Rattle.elab_model.specs.Leaves.{whole}
use Rattle.elab_model.specs.Members.{Member, assignment, supply, gate, instance, path, check, members, connection_values}
use Rattle.elab_model.specs.Names.{variables}
use Rattle.elab_model.specs.Ports.{port_list}
use Rattle.elab_model.specs.Primitives.{table_of, initial_value}
use Rattle.elab_laws.specs.LateLaws.{is_late, is_late_of, LatesAreInOrder}
use Rattle.elab_laws.specs.Words.{In}
use Rattle.elab_laws.proofs.Apart.{and-false, numbers-either}
use Rattle.elab_laws.proofs.Filters.{filter-all, filter-none, filter-flat}
use Rattle.elab_laws.proofs.Lists.{Pairwise, all-anyway, all-append, all-flat, all-in, all-map, all-weaker, flat-same}
use Rattle.elab_laws.proofs.NetsApart.{instances-apart}
use Rattle.elab_laws.proofs.PartsApart.{all-if}

-- an element of an instance that delays nothing
pub record IsPlain (number : ℕ) (e : Component) : Type 0 where
  pub scope : e.scope ≡ number
  pub kind : is_late e.kind ≡ false

abbrev ArePlain : ℕ → List Component → Type 0
ArePlain number es = AllByRecursion (IsPlain number) es

legs-plain : (source : Source) (s : Instance) → ArePlain s.step.number (legs source s)
legs-plain source s =
    all-if (IsPlain s.step.number) (is_leaf source s) (flat_map (variable_legs source s) (variables s.step.definition))
    (all-flat (IsPlain s.step.number) (variable_legs source s) (variables s.step.definition)
    (λ v. all-if (IsPlain s.step.number) (is_input v.port) (map (leg_at source s v.name) (positions v.range))
    (all-map (IsPlain s.step.number) (leg_at source s v.name) (positions v.range) (all-anyway (λ p. IsPlain s.step.number (leg_at source s v.name p)) (positions v.range) (λ p. record { scope = refl; kind = refl })))))

pass-plain : (source : Source) (s : Instance) (at : Place) (x : Bit × Bit) → ArePlain s.step.number (pass_to source s at x)
pass-plain source s at (net n p, b) = (record { scope = refl; kind = refl }, tt)
pass-plain source s at (constant there v, b) = tt

constant-plain : (s : Instance) (spot : Spot) (b : Bit) → ArePlain s.step.number (constant_pass s spot b)
constant-plain s spot (net n p) = tt
constant-plain s spot (constant at v) = (record { scope = refl; kind = refl }, tt)

output-plain : (source : Source) (s : Instance) (at : Place) (kind : Kind) (inputs : List Spot) (b : Bit) → is_late kind ≡ false → ArePlain s.step.number (output_element source s at kind inputs b)
output-plain source s at kind inputs (net n p) e = (record { scope = refl; kind = e }, tt)
output-plain source s at kind inputs (constant there v) e = tt

terminals-plain : (source : Source) (s : Instance) (at : Place) (k : ℕ) (kind : Kind) (outputs inputs : List Bit) → is_late kind ≡ false → ArePlain s.step.number (terminal_elements source s at k kind outputs inputs)
terminals-plain source s at k kind outputs inputs e =
    let spots = map (input_spot source s k) (enumerate_from 0 inputs) in
    all-append (IsPlain s.step.number) (flat_map (output_element source s at kind spots) outputs) (flat_map (λ i. constant_pass s (terminal s.step.number k i.0) i.1) (enumerate_from 0 inputs))
    (all-flat (IsPlain s.step.number) (output_element source s at kind spots) outputs (λ b. output-plain source s at kind spots b e))
    (all-flat (IsPlain s.step.number) (λ i. constant_pass s (terminal s.step.number k i.0) i.1) (enumerate_from 0 inputs) (λ i. constant-plain s (terminal s.step.number k i.0) i.1))

child-plain : (source : Source) (s c : Instance) → ArePlain s.step.number (child_elements source s c)
child-plain source s c =
    all-flat (IsPlain s.step.number) (port_elements source s c) (port_values c.step.connections (port_list c.step.definition))
    (λ e. all-flat (IsPlain s.step.number) (λ b. constant_pass s (port_spot source s c e.0 b.0) b.1) (enumerate_from 0 (expression_bits s e.1)) (λ b. constant-plain s (port_spot source s c e.0 b.0) b.1))

instance-plain : (source : Source) (corner : Corner) (tick : ℤ) (s : Instance) (k : ℕ) (d : Option Delay) (i : instance_text) (o : Option Part)
    → ArePlain s.step.number (instance_elements source corner tick s k d i o)
instance-plain source corner tick s k d i None = tt
instance-plain source corner tick s k d i (Some (a_module m)) = all-flat (IsPlain s.step.number) (child_elements source s) (child_at source s k) (child-plain source s)
instance-plain source corner tick s k d i (Some (a_primitive p)) =
    let es = connection_values i.connections in
    terminals-plain source s i.place k (Udp (table_of p) (initial_value p.initial) (delays_of corner tick s.step.definition d)) (output_bits s 1 es) (input_bits s 1 es) refl

-- elements that have the instance's number, with Lates for these copies alone
abbrev IsIn : ℕ → Component → Type 0
IsIn number e = e.scope ≡ number

record AreOf (source : Source) (s : Instance) (es : List Component) (cs : List (Place × DelayedCopy)) : Type 0 where
  lates : filter (is_late_of s.step.number) es ≡ map (late_at source s) cs
  scopes : AllByRecursion (IsIn s.step.number) es

plain-of : (source : Source) (s : Instance) (es : List Component) → ArePlain s.step.number es → AreOf source s es []
plain-of source s es h = record {
  lates = filter-none (is_late_of s.step.number) es
      (all-weaker (IsPlain s.step.number) (λ e. is_late_of s.step.number e ≡ false) es (λ e k. and-false (e.scope == s.step.number) (is_late e.kind) k.kind) h);
  scopes = all-weaker (IsPlain s.step.number) (IsIn s.step.number) es (λ e k. k.scope) h;
}

member-of : (source : Source) (corner : Corner) (tick : ℤ) (s : Instance) (x : ℕ × Member) → AreOf source s (member_elements source corner tick s x) (own_copies s.step.definition x)
member-of source corner tick s (k, assignment j) =
    plain-of source s (passes source s j.place (expression_bits s j.left) (expression_bits s j.right))
    (all-flat (IsPlain s.step.number) (pass_to source s j.place) (zip (expression_bits s j.left) (expression_bits s j.right)) (pass-plain source s j.place))
member-of source corner tick s (k, supply n v) =
    let bs = leaf_bits (variables s.step.definition) (whole n) in
    plain-of source s (flat_map (λ b. pass_to source s n.place (b, constant n.place v)) bs)
    (all-flat (IsPlain s.step.number) (λ b. pass_to source s n.place (b, constant n.place v)) bs (λ b. pass-plain source s n.place (b, constant n.place v)))
member-of source corner tick s (k, gate g d i) =
    let outputs = output_count g (length i.terminals) in
    let kind = Gate g (delays_of corner tick s.step.definition d) in
    plain-of source s (terminal_elements source s i.place k kind (output_bits s outputs i.terminals) (input_bits s outputs i.terminals))
    (terminals-plain source s i.place k kind (output_bits s outputs i.terminals) (input_bits s outputs i.terminals) refl)
member-of source corner tick s (k, instance n d i) =
    plain-of source s (instance_elements source corner tick s k d i (definition_of source n.text)) (instance-plain source corner tick s k d i (definition_of source n.text))
member-of source corner tick s (k, path p) =
    let es = first_ends s.step.definition (k, path p) in
    plain-of source s (map (path_at source s p.place) es)
    (all-map (IsPlain s.step.number) (path_at source s p.place) es (all-anyway (λ b. IsPlain s.step.number (path_at source s p.place b)) es (λ b. record { scope = refl; kind = refl })))
member-of source corner tick s (k, check t) =
    let cs = own_copies s.step.definition (k, check t) in
    record {
      lates = filter-all (is_late_of s.step.number) (map (late_at source s) cs)
          (all-map (λ e. is_late_of s.step.number e ≡ true) (late_at source s) cs
          (all-anyway (λ c. is_late_of s.step.number (late_at source s c) ≡ true) cs (λ c. ap (λ b. b && true) (eq-eqb s.step.number s.step.number refl))));
      scopes = all-map (IsIn s.step.number) (late_at source s) cs (all-anyway (λ c. IsIn s.step.number (late_at source s c)) cs (λ c. refl));
    }

map-flat : {A B C : Type 0} (f : B → C) (g : A → List B) (xs : List A) → flat_map (λ x. map f (g x)) xs ≡ map f (flat_map g xs)
map-flat f g [] = refl
map-flat f g (x ∷ xs) = ap (λ ys. map f (g x) ++ ys) (map-flat f g xs) ∙ sym (map-append f (g x) (flat_map g xs))

-- all elements of an instance
own-of : (source : Source) (corner : Corner) (tick : ℤ) (s : Instance) → AreOf source s (elements_of source corner tick s) (module_copies s.step.definition)
own-of source corner tick s =
    let m = s.step.definition in
    let p = is_late_of s.step.number in
    let xs = enumerate_from 0 (members m) in
    let f = member_elements source corner tick s in
    let legs_are = plain-of source s (legs source s) (legs-plain source s) in
    record {
      lates = filter-append p (legs source s) (flat_map f xs)
          ∙ ap (λ ys. ys ++ filter p (flat_map f xs)) legs_are.lates
          ∙ filter-flat p f xs
          ∙ flat-same (λ x. filter p (f x)) (λ x. map (late_at source s) (own_copies m x)) xs (λ x. (member-of source corner tick s x).lates)
          ∙ map-flat (late_at source s) (own_copies m) xs;
      scopes = all-append (IsIn s.step.number) (legs source s) (flat_map f xs) legs_are.scopes
          (all-flat (IsIn s.step.number) f xs (λ x. (member-of source corner tick s x).scopes));
    }

-- those of another instance are none of its Lates
other-none : (source : Source) (corner : Corner) (tick : ℤ) (s t : Instance) → (t.step.number == s.step.number) ≡ false → filter (is_late_of s.step.number) (elements_of source corner tick t) ≡ []
other-none source corner tick s t e =
    filter-none (is_late_of s.step.number) (elements_of source corner tick t)
    (all-weaker (IsIn t.step.number) (λ c. is_late_of s.step.number c ≡ false) (elements_of source corner tick t)
    (λ c k. ap (λ n. (n == s.step.number) && is_late c.kind) k ∙ ap (λ b. b && is_late c.kind) e) (own-of source corner tick t).scopes)

-- pieces that are empty but for one
flat-none : {A B : Type 0} (f : A → List B) (xs : List A) → AllByRecursion (λ x. f x ≡ []) xs → flat_map f xs ≡ []
flat-none f [] h = refl
flat-none f (x ∷ xs) h = ap (λ ys. ys ++ flat_map f xs) h.0 ∙ flat-none f xs h.1

flat-one : {A B : Type 0} (number : A → ℕ) (f : A → List B) (x : A) → ((y : A) → (number y == number x) ≡ false → f y ≡ [])
    → (xs : List A) → Pairwise (λ y z. (number y == number z) ≡ false) xs → In x xs → flat_map f xs ≡ f x
flat-one number f x h [] apart there = absurd there
flat-one number f x h (y ∷ xs) apart (inl e) =
    ap (λ ys. f y ++ ys)
    (flat-none f xs (all-weaker (λ z. (number y == number z) ≡ false) (λ z. f z ≡ []) xs (λ z k. h z (numbers-either (number z) (number x) ∙ ap (λ w. number w == number z) e ∙ k)) apart.0))
    ∙ append-nil (f y) ∙ ap f (sym e)
flat-one number f x h (y ∷ xs) apart (inr k) =
    ap (λ ys. ys ++ flat_map f xs) (h y (all-in (λ z. (number y == number z) ≡ false) x xs apart.0 k)) ∙ flat-one number f x h xs apart.1 k

pub lates-are_in_order : LatesAreInOrder
lates-are_in_order source top corner s there =
    let p = is_late_of s.step.number in
    let f = elements_of source corner (tick_of source top) in
    filter-flat p f (instances source top)
    ∙ flat-one (λ t. t.step.number) (λ t. filter p (f t)) s (λ t e. other-none source corner (tick_of source top) s t e) (instances source top) (instances-apart source top) there
    ∙ (own-of source corner (tick_of source top) s).lates
