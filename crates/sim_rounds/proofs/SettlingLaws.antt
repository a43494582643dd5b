-- What elements computed last and compute, from the nets as they are.
use Rattle.std.specs.Prelude.{◌≡◌, ◌↔◌, ℕ, suc, ◌<◌, ◌^◌, All, Bool, true, false, not, IsTrue, List, [], None, length, map, replicate, slice_index_or, refl}
use Rattle.std.proofs.Common.{sym, ◌∙◌, ap, subst, arith, rules, zero-add}
use Rattle.std.proofs.lemmas.Bool.{not-true, not-false}
use Rattle.std.proofs.lemmas.List.{ext_get_or, get_or_default, get_or-map, get_or-replicate, length-map}
use Rattle.std.proofs.lemmas.List.Elements.{All-weaker}
use denote.Enum.Bare.{sameb, same_true, same_false}
use Rattle.sg_logic.specs.contracts.values.Value.{the_type}
use Rattle.sg_logic.specs.declared.values.Value.{Value}
use Rattle.sg_logic.specs.declared.values.Value.TheVariants.{X, Zero}
use Rattle.sg_model.specs.Values.{value_at}
use Rattle.sg_model.specs.Pending.{last_value, IsPending}
use Rattle.fan_round.proofs.ListLaws.{each_from-at, length-each_from}
use Rattle.sg_circuit.specs.declared.elements.Element as code_element
use Rattle.sg_circuit.specs.declared.circuits.Parts.{Parts}
use Rattle.sg_circuit.specs.Circuit.{Circuit, Element, Pass, element_at}
use Rattle.sg_circuit.specs.Closed.{IsClosed}
use Rattle.sg_circuit.specs.Seen.{circuit_seen, element_seen, kind_seen}
use Rattle.sg_circuit.proofs.SeenLaws.{all-unmapped, map-mapped}
use Rattle.udp_table.specs.declared.table.Table.{Table}
use Rattle.sim_machine.specs.declared.computing.Inputs.{Inputs}
use Rattle.sim_rounds.specs.declared.moments.Pending as code_pending
use Rattle.sim_machine.specs.Elements.{IsElement}
use Rattle.sim_machine.specs.Evaluable.{AreEvaluable}
use Rattle.sim_machine.specs.Inputs.{HasRoom, IsRoomier}
use Rattle.sim_machine.specs.Simulated.{machine_of, values_at, value_of_kind}
use Rattle.sim_rounds.specs.Moments.{Moment, Pending, computed_last, pending_of, state_of, udp_states}
use Rattle.sim_rounds.specs.MomentsSeen.{pending_seen}
use Rattle.sim_rounds.specs.Fitting.{AreComputed, AreLast, AreOrdered, HasStates, IsSettled}
use Rattle.sim_machine.proofs.ElementLaws.{is_element, computed}
use Rattle.sim_rounds.proofs.VerdictLaws.{fails, moved, refuted}

-- the nets that elements drive are nets
pub outputs_within : (parts : Parts) (elements : List code_element.Element) (nets : List Value) → IsClosed (circuit_seen parts) → elements ≡ parts.elements.items → length nets ≡ length parts.nets.items
    → All (λ (e : code_element.Element). e.output < length nets) elements
outputs_within parts elements nets closed same many =
    subst (λ n. All (λ (e : code_element.Element). e.output < n) elements) (sym many)
    (subst (λ es. All (λ (e : code_element.Element). e.output < length parts.nets.items) es) (sym same) (all-unmapped (λ (e : Element). e.output < length parts.nets.items) (element_seen parts) parts.elements.items closed.outputs))

-- what is pending is of elements
pub drivers_within : (ps qs : List code_pending.Pending) (m n : ℕ) → ps ≡ qs → m ≡ n → All (λ p. (p.driver < n) × (p.time < 2 ^ 62)) (map (λ p. pending_seen p) qs) → All (λ (p : code_pending.Pending). p.driver < m) ps
drivers_within ps qs m n same many h =
    let Known : Pending → Type 0 = λ p. (p.driver < n) × (p.time < 2 ^ 62) in
    subst (λ k. All (λ (p : code_pending.Pending). p.driver < k) ps) (sym many)
    (subst (λ rs. All (λ (p : code_pending.Pending). p.driver < n) rs) (sym same)
    (All-weaker (λ (p : code_pending.Pending). (p.driver < n) × (p.time < 2 ^ 62)) (λ (p : code_pending.Pending). p.driver < n) (λ p k. k.0) qs (all-unmapped Known (λ (p : code_pending.Pending). pending_seen p) qs h)))

-- an element of those that can be evaluated
pub item_of : (parts : Parts) (tables : List Table) (values : List Value) (inputs : Inputs) (elements : List code_element.Element) (i : ℕ) (item : code_element.Element) → AreEvaluable parts tables values inputs
    → elements ≡ parts.elements.items → i < length elements → item ≡ slice_index_or elements i item → IsElement (circuit_seen parts) parts i item
item_of parts tables values inputs elements i item h same l is =
    is_element (circuit_seen parts) parts i item refl h.closed h.indexed (subst (λ es. i < length es) same l) (is ∙ ap (λ es. slice_index_or es i item) same)

-- its value, read and computed
pub computes : (parts : Parts) (nets values : List Value) (i : ℕ) (item : code_element.Element) (v : Value) → IsElement (circuit_seen parts) parts i item → length values ≡ length (circuit_seen parts).elements
    → v ≡ value_of_kind (kind_seen parts item.kind) (values_at item.inputs.items nets) (values_at item.inputs.items nets) (slice_index_or values i Zero)
    → v ≡ (machine_of (circuit_seen parts)).value i nets nets (value_at values i)
computes parts nets values i item v element many is =
    let l : i < length values = subst (λ n. i < n) (sym many) element.known in
    computed (circuit_seen parts) parts i item nets nets values (slice_index_or values i Zero) v element many (get_or_default values i Zero (slice_index_or values i Zero) l) is

pub agrees : (parts : Parts) (nets values : List Value) (i : ℕ) (item : code_element.Element) (v : Value) → IsElement (circuit_seen parts) parts i item → length values ≡ length (circuit_seen parts).elements
    → v ≡ value_of_kind (kind_seen parts item.kind) (values_at item.inputs.items nets) (values_at item.inputs.items nets) (slice_index_or values i Zero)
    → not (sameb the_type v (slice_index_or values i Zero)) ≡ false
    → (machine_of (circuit_seen parts)).value i nets nets (value_at values i) ≡ value_at values i
agrees parts nets values i item v element many is e =
    let l : i < length values = subst (λ n. i < n) (sym many) element.known in
    let same : v ≡ slice_index_or values i Zero = same_true the_type (search rules) v (slice_index_or values i Zero) (not-false (sameb the_type v (slice_index_or values i Zero)) e) in
    sym (computes parts nets values i item v element many is) ∙ (same ∙ get_or_default values i Zero X l)

pub disagrees : (parts : Parts) (nets values : List Value) (i : ℕ) (item : code_element.Element) (v : Value) → IsElement (circuit_seen parts) parts i item → length values ≡ length (circuit_seen parts).elements
    → v ≡ value_of_kind (kind_seen parts item.kind) (values_at item.inputs.items nets) (values_at item.inputs.items nets) (slice_index_or values i Zero)
    → not (sameb the_type v (slice_index_or values i Zero)) ≡ true → (IsTrue false ↔ AreComputed (circuit_seen parts) nets values)
disagrees parts nets values i item v element many is e =
    let l : i < length values = subst (λ n. i < n) (sym many) element.known in
    refuted (AreComputed (circuit_seen parts) nets values)
    (λ h. same_false the_type v (slice_index_or values i Zero) (not-true (sameb the_type v (slice_index_or values i Zero)) e) (computes parts nets values i item v element many is ∙ (h i element.known ∙ sym (get_or_default values i Zero X l))))

-- no room is lost
pub still_room : (old new : Inputs) (elements : List Element) → IsRoomier old new → All (λ (x : Element). HasRoom old (length x.inputs)) elements → All (λ (x : Element). HasRoom new (length x.inputs)) elements
still_room old new elements more h = All-weaker (λ (x : Element). HasRoom old (length x.inputs)) (λ (x : Element). HasRoom new (length x.inputs)) (λ x r. room x r) elements h
  where
    room : (x : Element) → HasRoom old (length x.inputs) → HasRoom new (length x.inputs)
    room x r = (let b = r.before in let a = r.after in record { before = omega (arith, b, more.before); after = omega (arith, a, more.after) })

-- the values of the nets that elements drive
pub present_seen : (parts : Parts) (elements : List code_element.Element) (nets others values present : List Value) → elements ≡ parts.elements.items → nets ≡ others → values ≡ map (λ (e : code_element.Element). value_at nets e.output) elements → present ≡ values
    → present ≡ map (λ (e : Element). value_at others e.output) (circuit_seen parts).elements
present_seen parts elements nets others values present same nets_are is read =
    read ∙ (is ∙ (ap (map (λ (e : code_element.Element). value_at nets e.output)) same ∙ (ap (λ vs. map (λ (e : code_element.Element). value_at vs e.output) parts.elements.items) nets_are
    ∙ sym (map-mapped (λ (e : Element). value_at others e.output) (element_seen parts) parts.elements.items))))

-- what a circuit's elements computed last, from the nets that they drive and what they have pending
module _ (circuit : Circuit) (m : Moment) (present values : List Value) (is : present ≡ map (λ (e : Element). value_at m.nets e.output) circuit.elements) where
  pub length-present : length present ≡ length circuit.elements
  length-present = ap length is ∙ length-map circuit.elements (λ (e : Element). value_at m.nets e.output)

  within : (e : ℕ) → e < length circuit.elements → e < length present
  within e l = subst (λ n. e < n) (sym length-present) l

  present_at : (e : ℕ) → e < length circuit.elements → value_at present e ≡ value_at m.nets (element_at circuit e).output
  present_at e l = ap (λ vs. value_at vs e) is ∙ get_or-map (λ (x : Element). value_at m.nets x.output) circuit.elements e (record { scope = 0; inputs = []; output = 0; kind = Pass None }) X l

  -- the starts of all drivers are the moment's time
  starts_at : (times : List ℕ) → times ≡ replicate (length present) m.time → (e : ℕ) → e < length circuit.elements → slice_index_or times e 0 ≡ m.time
  starts_at times all e l = ap (λ ts. slice_index_or ts e 0) all ∙ get_or-replicate (length present) e m.time 0 (within e l)

  ordered_there : (times : List ℕ) → times ≡ replicate (length present) m.time → AreOrdered times present m.pending → (e : ℕ) → e < length circuit.elements → IsPending (pending_of e m.pending) (value_at m.nets (element_at circuit e).output) (suc m.time)
  ordered_there times all h e l =
      subst (λ v. IsPending (pending_of e m.pending) v (suc m.time)) (present_at e l)
      (subst (λ t. IsPending (pending_of e m.pending) (value_at present e) (suc t)) (starts_at times all e l) (h e (within e l)))

  ordered_back : (times : List ℕ) → times ≡ replicate (length present) m.time → ((e : ℕ) → e < length circuit.elements → IsPending (pending_of e m.pending) (value_at m.nets (element_at circuit e).output) (suc m.time)) → AreOrdered times present m.pending
  ordered_back times all h e k =
      let l : e < length circuit.elements = subst (λ n. e < n) length-present k in
      subst (λ v. IsPending (pending_of e m.pending) v (suc (slice_index_or times e 0))) (sym (present_at e l))
      (subst (λ t. IsPending (pending_of e m.pending) (value_at m.nets (element_at circuit e).output) (suc t)) (sym (starts_at times all e l)) (h e l))

  -- where these are the values that they computed last
  last_at : AreLast present values m.pending → (e : ℕ) → e < length circuit.elements → value_at values e ≡ computed_last m e (element_at circuit e)
  last_at last e l = last e (within e l) ∙ ap (last_value (pending_of e m.pending)) (present_at e l)

  state_at : (e : ℕ) → e < length circuit.elements → value_at (state_of circuit m).states e ≡ computed_last m e (element_at circuit e)
  state_at e l =
      each_from-at (computed_last m) 0 circuit.elements e (record { scope = 0; inputs = []; output = 0; kind = Pass None }) X l
      ∙ ap (λ n. computed_last m n (element_at circuit e)) (zero-add e)

  states_are : AreLast present values m.pending → length values ≡ length present → values ≡ (state_of circuit m).states
  states_are last many =
      let all : length values ≡ length circuit.elements = many ∙ length-present in
      ext_get_or X values (state_of circuit m).states (all ∙ sym (length-each_from (computed_last m) 0 circuit.elements))
      (λ e k. let l : e < length circuit.elements = subst (λ n. e < n) all k in last_at last e l ∙ sym (state_at e l))

  -- the moment's part that rests on what is pending
  pub settled_from : (times : List ℕ) → times ≡ replicate (length present) m.time → length values ≡ length present → AreOrdered times present m.pending → AreLast present values m.pending → HasStates circuit m values → IsSettled circuit m
  settled_from times all many ordered last h = record {
    pending = ordered_there times all ordered;
    computed = λ e l. subst (λ v. (machine_of circuit).value e m.nets m.nets v ≡ v) (last_at last e l) (h.computed e l);
    udps = h.udps ∙ ap (udp_states circuit.elements) (states_are last many);
  }

  states_from_settled : length values ≡ length present → AreLast present values m.pending → IsSettled circuit m → HasStates circuit m values
  states_from_settled many last h = record {
    computed = λ e l. subst (λ v. (machine_of circuit).value e m.nets m.nets v ≡ v) (sym (last_at last e l)) (h.computed e l);
    udps = h.udps ∙ ap (udp_states circuit.elements) (sym (states_are last many));
  }

  -- a test of the order, and one of the values
  pub unordered : (b : Bool) (times : List ℕ) → times ≡ replicate (length present) m.time → (IsTrue b ↔ AreOrdered times present m.pending) → b ≡ false → (IsTrue false ↔ IsSettled circuit m)
  unordered b times all h e = refuted (IsSettled circuit m) (λ s. fails b (AreOrdered times present m.pending) h e (ordered_back times all s.pending))

  pub settled_by : (b : Bool) (times : List ℕ) → times ≡ replicate (length present) m.time → length values ≡ length present → AreOrdered times present m.pending → AreLast present values m.pending → (IsTrue b ↔ HasStates circuit m values) → (IsTrue b ↔ IsSettled circuit m)
  settled_by b times all many ordered last h =
      moved b (HasStates circuit m values) (IsSettled circuit m) (settled_from times all many ordered last) (states_from_settled many last) h
