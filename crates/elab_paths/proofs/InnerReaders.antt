-- Which elements read what is driven inside: the Paths alone, in the order of the bits to which their paths lead.
use Rattle.std.specs.Prelude.{◌≡◌, ◌⊎◌, ℕ, ℤ, List, [], ◌∷◌, ◌++◌, Bool, true, false, Option, Some, None, flat_map, length, map, zip, refl, if◌then◌else◌}
use Rattle.std.specs.List.{AllByRecursion, enumerate_from}
use Rattle.std.proofs.Common.{sym, ap, inl, inr, subst}
use Rattle.sg_circuit.specs.Circuit.{Kind, Gate, Udp, Pass, Leg, Path, Late}
use Rattle.sg_delay.specs.declared.corners.Corner.{Corner}
use Rattle.sg_text.specs.declared.places.Place.{Place}
use Rattle.vl_tree.specs.Tree.{Delay, Instance as instance_text, Part, a_module, a_primitive, Source}
use Rattle.elab_model.specs.Bits.{Bit, net, constant, leaf_bits, positions}
use Rattle.elab_model.specs.Connections.{port_values}
use Rattle.elab_model.specs.Definitions.{definition_of}
use Rattle.elab_model.specs.Delays.{delays_of}
use Rattle.elab_model.specs.Elements.{Component, expression_bits, bound_above, leg_source, leg_at, variable_legs, legs, pass_to, passes, constant_pass}
use Rattle.elab_model.specs.Elements.{output_count, input_spot, output_element, terminal_elements, output_bits, input_bits, port_spot, port_elements, child_elements, child_at}
use Rattle.elab_model.specs.Elements.{path_kind, path_at, late_at, instance_elements, member_elements, elements_of}
use Rattle.elab_model.specs.Ends.{first_ends, path_ends, inner_spot}
use Rattle.elab_model.specs.Hierarchy.{Step, Instance, is_leaf}
use Rattle.elab_model.specs.Homes.{Spot, bit, outside, terminal, inner, late, same_above, home, is_input}
use Rattle.elab_model.specs.Lates.{DelayedCopy, own_copies}
use Rattle.elab_model.specs.Leaves.{whole}
use Rattle.elab_model.specs.Members.{Member, assignment, supply, gate, instance, path, check, members, connection_values}
use Rattle.elab_model.specs.Names.{Variable, variables}
use Rattle.elab_model.specs.Ports.{port_list}
use Rattle.elab_model.specs.Terms.{NetBit}
use Rattle.elab_laws.proofs.Lists.{all-anyway, all-append, all-flat, all-map}
use Rattle.elab_paths.proofs.PathEnds.{map-flat}

abbrev pub IsNoInner : Spot → Type 0
IsNoInner (bit s n p) = Unit {0}
IsNoInner (outside s k n p) = Unit {0}
IsNoInner (terminal s k i) = Unit {0}
IsNoInner (inner s n p) = ⊥
IsNoInner (late s n p) = Unit {0}

abbrev pub IsNoPath : Kind → Type 0
IsNoPath (Gate g ds) = Unit {0}
IsNoPath (Udp rows first ds) = Unit {0}
IsNoPath (Pass v) = Unit {0}
IsNoPath (Leg ts) = Unit {0}
IsNoPath (Path ps style) = ⊥
IsNoPath (Late d) = Unit {0}

-- an element that is no Path and reads nothing that is driven inside
pub record IsPlain (c : Component) : Type 0 where
  pub inputs : AllByRecursion IsNoInner c.inputs
  pub kind : IsNoPath c.kind

pub record IsPathFrom (spot : Spot) (c : Component) : Type 0 where
  pub inputs : c.inputs ≡ spot ∷ []
  pub kind : c.kind ≡ path_kind

-- the elements are plain but for Paths, which read these, in order
abbrev pub ReadInOrder : List Component → List Spot → Type 0
ReadInOrder [] spots = spots ≡ []
ReadInOrder (c ∷ cs) spots = (IsPlain c × ReadInOrder cs spots) ⊎ ((spot : Spot) × (rest : List Spot) × (spots ≡ spot ∷ rest) × IsPathFrom spot c × ReadInOrder cs rest)

read-append : (cs ds : List Component) (xs ys : List Spot) → ReadInOrder cs xs → ReadInOrder ds ys → ReadInOrder (cs ++ ds) (xs ++ ys)
read-append [] ds xs ys h k = subst (λ zs. ReadInOrder ds (zs ++ ys)) (sym h) k
read-append (c ∷ cs) ds xs ys (inl h) k = inl (h.0, read-append cs ds xs ys h.1 k)
read-append (c ∷ cs) ds xs ys (inr h) k = inr (h.0, h.1 ++ ys, ap (λ zs. zs ++ ys) h.2, h.3, read-append cs ds h.1 ys h.4 k)

pub read-flat : {A : Type 0} (f : A → List Component) (g : A → List Spot) (xs : List A) → AllByRecursion (λ x. ReadInOrder (f x) (g x)) xs → ReadInOrder (flat_map f xs) (flat_map g xs)
read-flat f g [] h = refl
read-flat f g (x ∷ xs) h = read-append (f x) (flat_map f xs) (g x) (flat_map g xs) h.0 (read-flat f g xs h.1)

read-plain : (cs : List Component) → AllByRecursion IsPlain cs → ReadInOrder cs []
read-plain [] h = refl
read-plain (c ∷ cs) h = inl (h.0, read-plain cs h.1)

-- ---- what elements read that are no Paths

home-outer : (source : Source) (s : Step) (above : List Step) (n : List ℕ) (p : ℕ) → IsNoInner (home source s above n p)
home-outer source s [] n p = tt
home-outer source s (parent ∷ above) n p =
    elim (same_above source s parent n p) as (λ b. IsNoInner (elim b [ None ↦ bit s.number n p | Some (net m q) ↦ home source parent above m q | Some (constant at v) ↦ bit s.number n p ]))
    [ None ↦ tt | Some (net m q) ↦ home-outer source parent above m q | Some (constant at v) ↦ tt ]

leg-outer : (source : Source) (s : Step) (above : List Step) (n : List ℕ) (p : ℕ) (b : Option Bit) → IsNoInner (leg_source source s above n p b)
leg-outer source s [] n p b = tt
leg-outer source s (parent ∷ above) n p None = tt
leg-outer source s (parent ∷ above) n p (Some (constant at v)) = tt
leg-outer source s (parent ∷ above) n p (Some (net m q)) = home-outer source parent above m q

legs-plain : (source : Source) (s : Instance) → AllByRecursion IsPlain (legs source s)
legs-plain source s = by (is_leaf source s)
  where
    leg-plain : (n : List ℕ) (p : ℕ) → IsPlain (leg_at source s n p)
    leg-plain n p = record { inputs = (leg-outer source s.step s.above n p (bound_above s.step s.above n p), tt); kind = tt }

    variable-plain : (v : Variable) → AllByRecursion IsPlain (variable_legs source s v)
    variable-plain v = each (is_input v.port)
      where
        each : (b : Bool) → AllByRecursion IsPlain (if b then map (leg_at source s v.name) (positions v.range) else [])
        each true = all-map IsPlain (leg_at source s v.name) (positions v.range) (all-anyway (λ p. IsPlain (leg_at source s v.name p)) (positions v.range) (leg-plain v.name))
        each false = tt

    by : (b : Bool) → AllByRecursion IsPlain (if b then flat_map (variable_legs source s) (variables s.step.definition) else [])
    by true = all-flat IsPlain (variable_legs source s) (variables s.step.definition) variable-plain
    by false = tt

module _ (source : Source) (s : Instance) where
  pass-plain : (at : Place) (e : Bit × Bit) → AllByRecursion IsPlain (pass_to source s at e)
  pass-plain at (net n p, net m q) = (record { inputs = (home-outer source s.step s.above m q, tt); kind = tt }, tt)
  pass-plain at (net n p, constant there v) = (record { inputs = tt; kind = tt }, tt)
  pass-plain at (constant there v, b) = tt

  constant-plain : (spot : Spot) (b : Bit) → AllByRecursion IsPlain (constant_pass s spot b)
  constant-plain spot (net n p) = tt
  constant-plain spot (constant at v) = (record { inputs = tt; kind = tt }, tt)

  input-outer : (k : ℕ) (i : ℕ × Bit) → IsNoInner (input_spot source s k i)
  input-outer k (i, net n p) = home-outer source s.step s.above n p
  input-outer k (i, constant at v) = tt

  output-plain : (at : Place) (kind : Kind) (inputs : List Spot) → IsNoPath kind → AllByRecursion IsNoInner inputs → (b : Bit) → AllByRecursion IsPlain (output_element source s at kind inputs b)
  output-plain at kind inputs k h (net n p) = (record { inputs = h; kind = k }, tt)
  output-plain at kind inputs k h (constant there v) = tt

  terminals-plain : (at : Place) (k : ℕ) (kind : Kind) (outputs inputs : List Bit) → IsNoPath kind → AllByRecursion IsPlain (terminal_elements source s at k kind outputs inputs)
  terminals-plain at k kind outputs inputs free =
      let numbered = enumerate_from 0 inputs in
      let spots = map (input_spot source s k) numbered in
      let outer : AllByRecursion IsNoInner spots = all-map IsNoInner (input_spot source s k) numbered (all-anyway (λ i. IsNoInner (input_spot source s k i)) numbered (input-outer k)) in
      all-append IsPlain (flat_map (output_element source s at kind spots) outputs) (flat_map (λ i. constant_pass s (terminal s.step.number k i.0) i.1) numbered)
      (all-flat IsPlain (output_element source s at kind spots) outputs (output-plain at kind spots free outer))
      (all-flat IsPlain (λ i. constant_pass s (terminal s.step.number k i.0) i.1) numbered (λ i. constant-plain (terminal s.step.number k i.0) i.1))

  child-plain : (c : Instance) → AllByRecursion IsPlain (child_elements source s c)
  child-plain c =
      all-flat IsPlain (port_elements source s c) (port_values c.step.connections (port_list c.step.definition))
      (λ e. all-flat IsPlain (λ b. constant_pass s (port_spot source s c e.0 b.0) b.1) (enumerate_from 0 (expression_bits s e.1)) (λ b. constant-plain (port_spot source s c e.0 b.0) b.1))

  instance-plain : (corner : Corner) (tick : ℤ) (k : ℕ) (d : Option Delay) (i : instance_text) (p : Option Part) → AllByRecursion IsPlain (instance_elements source corner tick s k d i p)
  instance-plain corner tick k d i None = tt
  instance-plain corner tick k d i (Some (a_module m)) = all-flat IsPlain (child_elements source s) (child_at source s k) child-plain
  instance-plain corner tick k d i (Some (a_primitive p)) =
      let es = connection_values i.connections in
      terminals-plain i.place k _ (output_bits s 1 es) (input_bits s 1 es) tt

  -- a Late reads a signal, whose net is never one that is driven inside
  late-plain : (c : Place × DelayedCopy) → IsPlain (late_at source s c)
  late-plain c = record { inputs = (home-outer source s.step s.above c.1.signal.name c.1.signal.position, tt); kind = tt }

  lates-plain : (cs : List (Place × DelayedCopy)) → AllByRecursion IsPlain (map (late_at source s) cs)
  lates-plain cs = all-map IsPlain (late_at source s) cs (all-anyway (λ c. IsPlain (late_at source s c)) cs late-plain)

  paths-read : (at : Place) (bs : List NetBit) → ReadInOrder (map (path_at source s at) bs) (map (inner_spot s) bs)
  paths-read at [] = refl
  paths-read at (b ∷ bs) = inr (inner_spot s b, map (inner_spot s) bs, refl, record { inputs = refl; kind = refl }, paths-read at bs)

  member-read : (corner : Corner) (tick : ℤ) (x : ℕ × Member) → ReadInOrder (member_elements source corner tick s x) (map (inner_spot s) (first_ends s.step.definition x))
  member-read corner tick (k, assignment j) =
      read-plain (passes source s j.place (expression_bits s j.left) (expression_bits s j.right))
      (all-flat IsPlain (pass_to source s j.place) (zip (expression_bits s j.left) (expression_bits s j.right)) (pass-plain j.place))
  member-read corner tick (k, supply n v) =
      let bs = leaf_bits (variables s.step.definition) (whole n) in
      read-plain (flat_map (λ b. pass_to source s n.place (b, constant n.place v)) bs)
      (all-flat IsPlain (λ b. pass_to source s n.place (b, constant n.place v)) bs (λ b. pass-plain n.place (b, constant n.place v)))
  member-read corner tick (k, gate g d i) =
      let outputs = output_count g (length i.terminals) in
      read-plain (member_elements source corner tick s (k, gate g d i))
      (terminals-plain i.place k (Gate g (delays_of corner tick s.step.definition d)) (output_bits s outputs i.terminals) (input_bits s outputs i.terminals) tt)
  member-read corner tick (k, instance n d i) =
      read-plain (member_elements source corner tick s (k, instance n d i)) (instance-plain corner tick k d i (definition_of source n.text))
  member-read corner tick (k, path p) = paths-read p.place (first_ends s.step.definition (k, path p))
  member-read corner tick (k, check c) = read-plain (map (late_at source s) (own_copies s.step.definition (k, check c))) (lates-plain (own_copies s.step.definition (k, check c)))

  pub elements-read : (corner : Corner) (tick : ℤ) → ReadInOrder (elements_of source corner tick s) (map (inner_spot s) (path_ends s.step.definition))
  elements-read corner tick =
      let numbered = enumerate_from 0 (members s.step.definition) in
      let bits-of = first_ends s.step.definition in
      subst (ReadInOrder (elements_of source corner tick s)) (sym (map-flat (inner_spot s) bits-of numbered))
      (read-append (legs source s) (flat_map (member_elements source corner tick s) numbered) [] (flat_map (λ x. map (inner_spot s) (bits-of x)) numbered)
      (read-plain (legs source s) (legs-plain source s))
      (read-flat (member_elements source corner tick s) (λ x. map (inner_spot s) (bits-of x)) numbered
      (all-anyway (λ x. ReadInOrder (member_elements source corner tick s x) (map (inner_spot s) (bits-of x))) numbered (member-read corner tick))))
