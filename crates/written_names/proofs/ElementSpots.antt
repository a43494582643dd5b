-- The spots of each element of an instance are named.
use Rattle.std.specs.Prelude.{◌≡◌, ℕ, ◌<◌, ◌&&◌, ◌||◌, not, List, [], ◌∷◌, Bool, true, false, Option, Some, None, find, flat_map, if◌then◌else◌, length, map, refl, zip}
use Rattle.std.specs.List.{AllByRecursion, enumerate_from, list_any}
use Rattle.std.proofs.Common.{sym, ◌∙◌, ap, arith, subst}
use Rattle.sg_circuit.specs.Circuit.{Kind, Gate, Udp, Pass, Path as a_path, scope_at}
use Rattle.sg_circuit.specs.Closed.{width_of}
use Rattle.sg_delay.specs.declared.corners.Corner.{Corner}
use Rattle.sg_text.specs.declared.places.Place.{Place}
use Rattle.vl_tree.specs.Tree.{Module, Part, Source, a_module, a_primitive}
use Rattle.elab_model.specs.Bits.{Bit, constant, leaf_bits, net, positions}
use Rattle.elab_model.specs.Connections.{port_values}
use Rattle.elab_model.specs.Definitions.{definition_of}
use Rattle.elab_model.specs.Delays.{delays_of, tick_of}
use Rattle.elab_model.specs.Elements.{Component, bound_above, child_at, child_elements, constant_pass, elements_of, expression_bits, input_bits, input_spot, instance_elements, late_at, leg_at, leg_source, legs, member_elements, output_bits, output_count, output_element, pass_to, path_at, port_elements, port_spot, terminal_elements, variable_legs}
use Rattle.elab_model.specs.Ends.{driven, first_ends, inner_spot}
use Rattle.elab_model.specs.Hierarchy.{Instance, has_no_child, instances, is_empty, is_leaf}
use Rattle.elab_model.specs.Homes.{Spot, bit, has_leg, home_of, inner, is_input, is_same_spot, terminal}
use Rattle.elab_model.specs.Lates.{DelayedCopy, own_copies}
use Rattle.elab_model.specs.Leaves.{whole}
use Rattle.elab_model.specs.Members.{Member, assignment, check, connection_values, gate, instance, members, path, supply}
use Rattle.elab_model.specs.Names.{Variable, variable, variables}
use Rattle.elab_model.specs.Nets.{nets, number_of}
use Rattle.elab_model.specs.Numbered.{element_of}
use Rattle.elab_model.specs.Ports.{port_list}
use Rattle.elab_model.specs.Primitives.{initial_value, table_of}
use Rattle.elab_model.specs.Terms.{NetBit}
use Rattle.circuit_model.specs.Circuits.{circuit}
use Rattle.circuit_model.specs.PathUses.{PathUse, bit_number, kind_by, path_use, path_uses, reads, with_paths}
use Rattle.specify_model.specs.Outputs.{PathOutput, path_outputs}
use Rattle.elab_laws.proofs.Apart.{variables-apart}
use Rattle.elab_laws.proofs.Drivers.{spots-decide}
use Rattle.elab_laws.proofs.EndBits.{HasNetBit}
use Rattle.elab_laws.proofs.Firsts.{and-both}
use Rattle.elab_laws.proofs.Legs.{leg-own, variable-is}
use Rattle.elab_laws.proofs.Lists.{In, all-anyway, all-append, all-flat, all-flat_in, all-from, all-map, all-range, all-weaker, found-is}
use Rattle.elab_laws.proofs.Stated.{found-own}
use Rattle.annotation_model.specs.Spots.{Spot as Written, spots_in, spots_of}
use Rattle.written_reading.specs.Named.{IsInputOf, IsNamedSpot}
use Rattle.written_names.proofs.OuterReads.{IsOuter, IsPlain, ReadsNoInner, all-outer, outer-home, outer-input, outer-leg, plain-none}
use Rattle.written_names.proofs.PathSpots.{IsSoundAt, input-named, led-named, use-of}
use Rattle.written_names.proofs.ScopeNets.{same-instance, scope-there}

or-false : (b : Bool) → (b || false) ≡ true → b ≡ true
or-false true h = refl
or-false false h = h

-- ---- one instance

module _ (source : Source) (top : Module) (corner : Corner) (s : Instance) (sound : IsSoundAt source top corner s) where
  abbrev Named : Written → Type 0
  Named = IsNamedSpot (circuit source top corner)

  -- an element, with its paths, has named spots
  abbrev pub HasNamed : Component → Type 0
  HasNamed c = AllByRecursion Named (spots_of (element_of (nets source top) (with_paths (path_uses source top corner) c)))

  abbrev own_spots : Component → Option PathUse → List Written
  own_spots c o = spots_in c.scope (map (number_of (nets source top)) c.inputs) (number_of (nets source top) c.output) (kind_by c.kind o)

  -- what reads no inner net has the spots of its kind
  outer-named : (c : Component) → ReadsNoInner c.inputs → AllByRecursion Named (own_spots c None) → HasNamed c
  outer-named c outer h = by (find (reads c) uses) refl
    where
      uses : List PathUse
      uses = path_uses source top corner

      by : (o : Option PathUse) → find (reads c) uses ≡ o → AllByRecursion Named (own_spots c o)
      by None e = h
      by (Some u) e =
          let r = found-is (reads c) uses u e in
          let x = use-of source top corner u r.there in
          let is : list_any (is_same_spot (inner_spot x.instance x.output.output)) c.inputs ≡ true = ap (λ (v : PathUse). list_any (is_same_spot v.inner) c.inputs) (sym x.is) ∙ r.passes in
          let not_is : list_any (is_same_spot (inner_spot x.instance x.output.output)) c.inputs ≡ false = outer x.instance.step.number x.output.output.name x.output.output.position in
          absurd cc

  plain-named : (c : Component) → ReadsNoInner c.inputs → IsPlain c.kind → HasNamed c
  plain-named c outer plain =
      outer-named c outer (plain-none Named c.scope (map (number_of (nets source top)) c.inputs) (number_of (nets source top) c.output) c.kind plain)

  abbrev element : Place → List Spot → Spot → Kind → Component
  element at inputs output kind = record { scope = s.step.number; place = at; inputs = inputs; output = output; kind = kind }

  -- ---- legs

  leg-named : (v : Variable) (p : ℕ) → In v (variables s.step.definition) → p < width_of v.range → is_input v.port ≡ true → has_no_child source s.step ≡ true → HasNamed (leg_at source s v.name p)
  leg-named v p known lt input lone =
      let all = nets source top in
      let m = s.step.definition in
      let b : NetBit = record { name = v.name; position = p } in
      let port : is_input (variable m v.name).port ≡ true = ap (λ (w : Variable). is_input w.port) (variable-is m v known) ∙ input in
      let leg : has_leg source s.step v.name ≡ true = ap (λ x. x && has_no_child source s.step) port ∙ lone in
      let has : HasNetBit (variables m) b = record { variable = v; found = found-own (variables m) (variables-apart m) v known; below = lt } in
      let scope = sym (ap (λ x. x.variables) (scope-there source top corner s sound.there)) in
      let vs = (scope_at (circuit source top corner) s.step.number).variables in
      let at : IsInputOf vs (bit_number all source s b) = subst (λ vs. IsInputOf vs (bit_number all source s b)) scope (input-named source top corner s sound b lone (record { bit = has; port = port })) in
      let own : IsInputOf vs (number_of all (bit s.step.number v.name p)) = subst (λ spot. IsInputOf vs (number_of all spot)) (leg-own source s.step s.above v.name p leg) at in
      outer-named (leg_at source s v.name p) (all-outer (leg_source source s.step s.above v.name p (bound_above s.step s.above v.name p) ∷ []) (outer-leg source s.step s.above v.name p (bound_above s.step s.above v.name p), tt)) (own, tt)

  variable-named : has_no_child source s.step ≡ true → (v : Variable) → In v (variables s.step.definition) → AllByRecursion HasNamed (variable_legs source s v)
  variable-named lone v known = by (is_input v.port) refl
    where
      by : (b : Bool) → is_input v.port ≡ b → AllByRecursion HasNamed (if b then map (leg_at source s v.name) (positions v.range) else [])
      by false e = tt
      by true e =
          let w = width_of v.range in
          all-map HasNamed (leg_at source s v.name) (positions v.range)
          (all-weaker (λ p. p < w) (λ p. HasNamed (leg_at source s v.name p)) (positions v.range) (λ p lt. leg-named v p known lt e lone) (all-range w 0 w (omega arith)))

  legs-named : AllByRecursion HasNamed (legs source s)
  legs-named = by (is_leaf source s) refl
    where
      by : (b : Bool) → is_leaf source s ≡ b → AllByRecursion HasNamed (if b then flat_map (variable_legs source s) (variables s.step.definition) else [])
      by false e = tt
      by true e =
          let lone = (and-both (not (is_empty s.above)) (has_no_child source s.step) e).1 in
          let vs = variables s.step.definition in
          all-flat_in HasNamed (variable_legs source s) vs (all-from (λ v. AllByRecursion HasNamed (variable_legs source s v)) vs (variable-named lone))

  -- ---- passes, gates and primitives

  pass-named : (at : Place) (b : Bit × Bit) → AllByRecursion HasNamed (pass_to source s at b)
  pass-named at (net n p, net m q) = (plain-named (element at (home_of source s m q ∷ []) (driven source s n p) (Pass None)) (all-outer (home_of source s m q ∷ []) (outer-home source s m q, tt)) tt, tt)
  pass-named at (net n p, constant there v) = (plain-named (element at [] (driven source s n p) (Pass (Some v))) (all-outer [] tt) tt, tt)
  pass-named at (constant there v, b) = tt

  constant-named : (spot : Spot) (b : Bit) → AllByRecursion HasNamed (constant_pass s spot b)
  constant-named spot (net n p) = tt
  constant-named spot (constant at v) = (plain-named (element at [] spot (Pass (Some v))) (all-outer [] tt) tt, tt)

  output-element-named : (at : Place) (kind : Kind) (inputs : List Spot) → ReadsNoInner inputs → IsPlain kind → (b : Bit) → AllByRecursion HasNamed (output_element source s at kind inputs b)
  output-element-named at kind inputs outer plain (net n p) = (plain-named (element at inputs (driven source s n p) kind) outer plain, tt)
  output-element-named at kind inputs outer plain (constant there v) = tt

  terminals-named : (at : Place) (k : ℕ) (kind : Kind) (outputs inputs : List Bit) → IsPlain kind → AllByRecursion HasNamed (terminal_elements source s at k kind outputs inputs)
  terminals-named at k kind outputs inputs plain =
      let numbered = enumerate_from 0 inputs in
      let spots = map (input_spot source s k) numbered in
      let outer = all-outer spots (all-map IsOuter (input_spot source s k) numbered (all-anyway (λ x. IsOuter (input_spot source s k x)) numbered (outer-input source s k))) in
      all-append HasNamed (flat_map (output_element source s at kind spots) outputs) (flat_map (λ i. constant_pass s (terminal s.step.number k i.0) i.1) numbered)
      (all-flat HasNamed (output_element source s at kind spots) outputs (output-element-named at kind spots outer plain))
      (all-flat HasNamed (λ i. constant_pass s (terminal s.step.number k i.0) i.1) numbered (λ i. constant-named (terminal s.step.number k i.0) i.1))

  child-named : (c : Instance) → AllByRecursion HasNamed (child_elements source s c)
  child-named c =
      all-flat HasNamed (port_elements source s c) (port_values c.step.connections (port_list c.step.definition))
      (λ e. all-flat HasNamed (λ b. constant_pass s (port_spot source s c e.0 b.0) b.1) (enumerate_from 0 (expression_bits s e.1)) (λ b. constant-named (port_spot source s c e.0 b.0) b.1))

  -- ---- paths and Lates

  path-named : (at : Place) (b : NetBit) → HasNamed (path_at source s at b)
  path-named at b = by (find (reads c) uses) refl
    where
      c : Component
      c = path_at source s at b

      uses : List PathUse
      uses = path_uses source top corner

      by : (o : Option PathUse) → find (reads c) uses ≡ o → AllByRecursion Named (own_spots c o)
      by None e = tt
      by (Some u) e =
          let all = nets source top in
          let r = found-is (reads c) uses u e in
          let x = use-of source top corner u r.there in
          let a = inner_spot x.instance x.output.output in
          let is : is_same_spot a (inner_spot s b) ≡ true = or-false (is_same_spot a (inner_spot s b)) (ap (λ (v : PathUse). list_any (is_same_spot v.inner) (inner_spot s b ∷ [])) (sym x.is) ∙ r.passes) in
          used x.instance x.output u x.there x.led x.is (spots-decide a (inner_spot s b) is)
        where
          number-as : (k l : ℕ) (n m : List ℕ) (p q : ℕ) → inner k n p ≡ inner l m q → k ≡ l
          number-as k l n m p q e = cc

          bit-as : (k l : ℕ) (x y : NetBit) → inner k x.name x.position ≡ inner l y.name y.position → x ≡ y
          bit-as k l x y e =
              let n : x.name ≡ y.name = cc in
              let p : x.position ≡ y.position = cc in
              λ i. record { name = n i; position = p i }

          used-own : (o : PathOutput) (u : PathUse) → In o (path_outputs corner (tick_of source top) s.step.definition) → u ≡ path_use (nets source top) source s o → o.output ≡ b → AllByRecursion Named (own_spots c (Some u))
          used-own o u led is same =
              let all = nets source top in
              subst (λ (v : PathUse). AllByRecursion Named (own_spots c (Some v))) (sym is)
              (subst (λ x. AllByRecursion Named (spots_in s.step.number (map (number_of all) c.inputs) (bit_number all source s x) (a_path (path_use all source s o).paths (path_use all source s o).style))) same
              (led-named source top corner s sound (map (number_of all) c.inputs) o led))

          used : (t : Instance) (o : PathOutput) (u : PathUse) → In t (instances source top) → In o (path_outputs corner (tick_of source top) t.step.definition) → u ≡ path_use (nets source top) source t o
              → inner_spot t o.output ≡ inner_spot s b → AllByRecursion Named (own_spots c (Some u))
          used t o u there led is same =
              let e = same-instance source top t s there sound.there (number-as t.step.number s.step.number o.output.name b.name o.output.position b.position same) in
              used-own o u (subst (λ (t : Instance). In o (path_outputs corner (tick_of source top) t.step.definition)) e led) (subst (λ t. u ≡ path_use (nets source top) source t o) e is)
              (bit-as t.step.number s.step.number o.output b same)

  late-named : (c : Place × DelayedCopy) → HasNamed (late_at source s c)
  late-named c = plain-named (late_at source s c) (all-outer (home_of source s c.1.signal.name c.1.signal.position ∷ []) (outer-home source s c.1.signal.name c.1.signal.position, tt)) tt

  -- ---- all members

  member-named : (x : ℕ × Member) → AllByRecursion HasNamed (member_elements source corner (tick_of source top) s x)
  member-named (k, assignment j) = all-flat HasNamed (pass_to source s j.place) (zip (expression_bits s j.left) (expression_bits s j.right)) (pass-named j.place)
  member-named (k, supply n v) =
      all-flat HasNamed (λ b. pass_to source s n.place (b, constant n.place v)) (leaf_bits (variables s.step.definition) (whole n)) (λ b. pass-named n.place (b, constant n.place v))
  member-named (k, gate g d i) =
      let outputs = output_count g (length i.terminals) in
      terminals-named i.place k (Gate g (delays_of corner (tick_of source top) s.step.definition d)) (output_bits s outputs i.terminals) (input_bits s outputs i.terminals) tt
  member-named (k, instance n d i) = by (definition_of source n.text)
    where
      by : (o : Option Part) → AllByRecursion HasNamed (instance_elements source corner (tick_of source top) s k d i o)
      by None = tt
      by (Some (a_module m)) = all-flat HasNamed (child_elements source s) (child_at source s k) child-named
      by (Some (a_primitive p)) =
          let es = connection_values i.connections in
          terminals-named i.place k (Udp (table_of p) (initial_value p.initial) (delays_of corner (tick_of source top) s.step.definition d)) (output_bits s 1 es) (input_bits s 1 es) tt
  member-named (k, path p) =
      let bs = first_ends s.step.definition (k, path p) in
      all-map HasNamed (path_at source s p.place) bs (all-anyway (λ b. HasNamed (path_at source s p.place b)) bs (path-named p.place))
  member-named (k, check t) =
      let cs = own_copies s.step.definition (k, check t) in
      all-map HasNamed (late_at source s) cs (all-anyway (λ c. HasNamed (late_at source s c)) cs late-named)

  pub elements-named : AllByRecursion HasNamed (elements_of source corner (tick_of source top) s)
  elements-named =
      let tick = tick_of source top in
      let ms = enumerate_from 0 (members s.step.definition) in
      all-append HasNamed (legs source s) (flat_map (member_elements source corner tick s) ms) legs-named (all-flat HasNamed (member_elements source corner tick s) ms member-named)
