-- An element of a closed circuit is what its code says, and its evaluation is the machine's.
use Rattle.std.specs.Prelude.{◌≡◌, ◌≢◌, ◌⊎◌, ℕ, ◌+◌, ◌<◌, ◌≤◌, All, List, [], ◌∷◌, ◌++◌, Option, None, length, map, take, slice_index_or, refl}
use Rattle.std.proofs.Common.{sym, ◌∙◌, ap, subst, arith, inl, inr}
use Rattle.std.specs.Vec.{vec_capacity}
use Rattle.std.proofs.lemmas.Bool.{cases_eq}
use Rattle.std.proofs.lemmas.List.{length-map, length-append, length-take-le, take_more, get_or-map, get_or_default}
use Rattle.std.proofs.Math.Seq.{get_or-append_seam}
use Rattle.std.proofs.Math.ListN.{get_or-append}
use Rattle.std.proofs.lemmas.List.Elements.{All-map}
use Rattle.sg_logic.specs.declared.values.Value.{Value}
use Rattle.sg_logic.specs.declared.values.Value.TheVariants.{X}
use Rattle.sg_model.specs.Values.{value_at}
use Rattle.sg_model.specs.Pending.{last_value}
use Rattle.sg_model.specs.Machine.{Stamp}
use Rattle.sg_model.specs.Round.{placed_by, element_list, element_value}
use Rattle.sg_circuit.specs.Circuit.{Circuit, Element, Pass, element_at}
use Rattle.sg_circuit.specs.Closed.{IsClosed, TakesInputs, HasDelays, NamesNets}
use Rattle.sg_circuit.specs.Seen.{circuit_seen, kind_seen, element_seen, IsIndexed, AreIndexed}
use Rattle.sg_circuit.specs.declared.elements.Element as code_element
use Rattle.sg_circuit.specs.declared.elements.UdpUse.{UdpUse}
use Rattle.sg_circuit.specs.declared.circuits.Parts.{Parts}
use Rattle.udp_table.specs.declared.table.Table.{Table}
use Rattle.time_checks.specs.declared.latest.Latest.{Latest}
use Rattle.udp_table.specs.Cells.{IsTableOf, IsWhole}
use Rattle.sg_circuit.proofs.SeenLaws.{all-unmapped, map-mapped}
use Rattle.sim_machine.specs.declared.computing.Inputs.{Inputs}
use Rattle.sim_machine.specs.Inputs.{HasRoom}
use Rattle.sim_machine.specs.Elements.{IsElement, AreTables, ElementsSeen}
use Rattle.sim_machine.specs.Evaluable.{AreEvaluable}
use Rattle.sim_machine.specs.Simulated.{machine_of, first_state, first_of_kind, values_at, value_of_kind, rule_of_kind}

seen_element : (parts : Parts) (e : ℕ) (item : code_element.Element) → IsClosed (circuit_seen parts) → AreIndexed parts → e < length parts.elements.items → item ≡ slice_index_or parts.elements.items e item
    → IsElement (circuit_seen parts) parts e item
seen_element parts e item closed indexed l is = record {
  known = subst (λ n. e < n) (sym (length-map parts.elements.items (element_seen parts))) l;
  at = get_or-map (element_seen parts) parts.elements.items e item (record { scope = 0; inputs = []; output = 0; kind = Pass None }) l ∙ ap (element_seen parts) (sym is);
  inputs = subst (λ (x : code_element.Element). All (λ n. n < length parts.nets.items) x.inputs.items) (sym is) (all-unmapped (λ (x : Element). All (λ n. n < length parts.nets.items) x.inputs) (element_seen parts) parts.elements.items closed.inputs e item l);
  output = subst (λ (x : code_element.Element). x.output < length parts.nets.items) (sym is) (all-unmapped (λ (x : Element). x.output < length parts.nets.items) (element_seen parts) parts.elements.items closed.outputs e item l);
  takes = subst (λ (x : code_element.Element). TakesInputs (kind_seen parts x.kind) (length x.inputs.items)) (sym is) (all-unmapped (λ (x : Element). TakesInputs x.kind (length x.inputs)) (element_seen parts) parts.elements.items closed.takes_inputs e item l);
  delays = subst (λ (x : code_element.Element). HasDelays (kind_seen parts x.kind)) (sym is) (all-unmapped (λ (x : Element). HasDelays x.kind) (element_seen parts) parts.elements.items closed.has_delays e item l);
  indexed = subst (λ (x : code_element.Element). IsIndexed parts x.kind) (sym is) (indexed.named e item l);
  paths = subst (λ (x : code_element.Element). NamesNets (length parts.nets.items) (kind_seen parts x.kind)) (sym is) (all-unmapped (λ (x : Element). NamesNets (length parts.nets.items) x.kind) (element_seen parts) parts.elements.items closed.paths e item l);
}

pub is_element : (circuit : Circuit) (parts : Parts) (e : ℕ) (item : code_element.Element) → circuit_seen parts ≡ circuit → IsClosed circuit → AreIndexed parts → e < length parts.elements.items → item ≡ slice_index_or parts.elements.items e item
    → IsElement circuit parts e item
is_element circuit parts e item seen closed indexed l is =
    subst (λ c. IsElement c parts e item) seen (seen_element parts e item (subst (λ c. IsClosed c) (sym seen) closed) indexed l is)

pub known_element : (circuit : Circuit) (parts : Parts) (e : ℕ) → circuit_seen parts ≡ circuit → e < length (machine_of circuit).inputs → e < length parts.elements.items
known_element circuit parts e seen l =
    let many : length (machine_of circuit).inputs ≡ length parts.elements.items = length-map circuit.elements (λ (x : Element). x.inputs) ∙ (ap (λ c. length c.elements) (sym seen) ∙ length-map parts.elements.items (element_seen parts)) in
    subst (λ n. e < n) many l

-- the value that the machine computes
pub machine_value : (circuit : Circuit) (parts : Parts) (e : ℕ) (item : code_element.Element) (before after : List Value) (state v : Value) → IsElement circuit parts e item
    → v ≡ value_of_kind (kind_seen parts item.kind) (values_at item.inputs.items before) (values_at item.inputs.items after) state
    → v ≡ element_value (machine_of circuit) before after e state
machine_value circuit parts e item before after state v h is = is ∙ ap (λ (x : Element). value_of_kind x.kind (values_at x.inputs before) (values_at x.inputs after) state) (sym h.at)

output_of : (circuit : Circuit) (parts : Parts) (e : ℕ) (item : code_element.Element) → IsElement circuit parts e item → slice_index_or (machine_of circuit).outputs e 0 ≡ item.output
output_of circuit parts e item h = get_or-map (λ (x : Element). x.output) circuit.elements e (record { scope = 0; inputs = []; output = 0; kind = Pass None }) 0 h.known ∙ ap (λ (x : Element). x.output) h.at

-- and where it places it
pub machine_list : (circuit : Circuit) (parts : Parts) (e : ℕ) (item : code_element.Element) (now : ℕ) (before after : List Value) (stamps : List (Option Stamp)) (states : List Value) (list : List (ℕ × Value)) (v present : Value)
    → IsElement circuit parts e item → v ≡ element_value (machine_of circuit) before after e (value_at states e) → present ≡ value_at after item.output
    → placed_by (rule_of_kind (kind_seen parts item.kind) now after stamps (last_value list present) v) list present now v ≡ element_list (machine_of circuit) now before after stamps states e list
machine_list circuit parts e item now before after stamps states list v present h value net =
    let net' : present ≡ value_at after (slice_index_or (machine_of circuit).outputs e 0) = net ∙ ap (value_at after) (sym (output_of circuit parts e item h)) in
    ap (λ (x : Element). placed_by (rule_of_kind x.kind now after stamps (last_value list present) v) list present now v) (sym h.at)
    ∙ (ap (λ w. placed_by (rule_of_kind (element_at circuit e).kind now after stamps (last_value list present) w) list present now w) value
    ∙ ap (λ p. placed_by (rule_of_kind (element_at circuit e).kind now after stamps (last_value list p) (element_value (machine_of circuit) before after e (value_at states e))) list p now (element_value (machine_of circuit) before after e (value_at states e))) net')

pub the_element : (circuit : Circuit) (parts : Parts) (e : ℕ) (item : code_element.Element) → circuit_seen parts ≡ circuit → IsClosed circuit → AreIndexed parts → e < length (machine_of circuit).inputs → item ≡ slice_index_or parts.elements.items e item
    → IsElement circuit parts e item
the_element circuit parts e item seen closed indexed l is = is_element circuit parts e item seen closed indexed (known_element circuit parts e seen l) is

pub inputs_among : (circuit : Circuit) (parts : Parts) (e : ℕ) (item : code_element.Element) (values : List Value) → IsElement circuit parts e item → length values ≡ length circuit.nets → All (λ n. n < length values) item.inputs.items
inputs_among circuit parts e item values h many = subst (λ k. All (λ n. n < k) item.inputs.items) (sym many) h.inputs

pub has_room : (circuit : Circuit) (parts : Parts) (e : ℕ) (item : code_element.Element) (inputs : Inputs) → IsElement circuit parts e item → All (λ (x : Element). HasRoom inputs (length x.inputs)) circuit.elements → HasRoom inputs (length item.inputs.items)
has_room circuit parts e item inputs h room = subst (λ (x : Element). HasRoom inputs (length x.inputs)) h.at (room e (record { scope = 0; inputs = []; output = 0; kind = Pass None }) h.known)

-- a value that was read from its place
pub read_value : (values : List Value) (n : ℕ) (v d : Value) → n < length values → v ≡ slice_index_or values n d → v ≡ value_at values n
read_value values n v d l e = e ∙ get_or_default values n d X l

-- the value that the code computes, from the state that it read, is the machine's
pub computed : (circuit : Circuit) (parts : Parts) (e : ℕ) (item : code_element.Element) (before after states : List Value) (state v : Value) → IsElement circuit parts e item → length states ≡ length circuit.elements → state ≡ slice_index_or states e state
    → v ≡ value_of_kind (kind_seen parts item.kind) (values_at item.inputs.items before) (values_at item.inputs.items after) state
    → v ≡ element_value (machine_of circuit) before after e (value_at states e)
computed circuit parts e item before after states state v h many read is =
    let at : state ≡ value_at states e = read_value states e state state (subst (λ n. e < n) (sym many) h.known) read in
    machine_value circuit parts e item before after (value_at states e) v h (is ∙ ap (λ s. value_of_kind (kind_seen parts item.kind) (values_at item.inputs.items before) (values_at item.inputs.items after) s) at)

-- so is the list that it leaves
pub placed_list : (circuit : Circuit) (parts : Parts) (e : ℕ) (item : code_element.Element) (now : ℕ) (before after : List Value) (stamps : List (Option Stamp)) (states : List Value) (list : List (ℕ × Value)) (v present d : Value)
    → IsElement circuit parts e item → length after ≡ length circuit.nets → v ≡ element_value (machine_of circuit) before after e (value_at states e) → present ≡ slice_index_or after item.output d
    → placed_by (rule_of_kind (kind_seen parts item.kind) now after stamps (last_value list present) v) list present now v ≡ element_list (machine_of circuit) now before after stamps states e list
placed_list circuit parts e item now before after stamps states list v present d h many value read =
    machine_list circuit parts e item now before after stamps states list v present h value (read_value after item.output present d (subst (λ n. item.output < n) (sym many) h.output) read)

-- the values before time 0
pub first_states : (circuit : Circuit) (parts : Parts) (elements : List code_element.Element) (states : List Value) → circuit_seen parts ≡ circuit → elements ≡ parts.elements.items
    → states ≡ map (λ e. first_of_kind (kind_seen parts e.kind)) elements → states ≡ (first_state circuit).states
first_states circuit parts elements states seen same is =
    is ∙ (ap (λ es. map (λ e. first_of_kind (kind_seen parts e.kind)) es) same
    ∙ (sym (map-mapped (λ (e : Element). first_of_kind e.kind) (element_seen parts) parts.elements.items) ∙ ap (λ c. (first_state c).states) seen))

pub length-first_states : (circuit : Circuit) (states : List Value) → states ≡ (first_state circuit).states → length states ≡ length circuit.elements
length-first_states circuit states is = ap length is ∙ length-map circuit.elements (λ (e : Element). first_of_kind e.kind)

-- and the room for the widest element
pub all_have_room : (circuit : Circuit) (parts : Parts) (elements : List code_element.Element) (inputs : Inputs) (width : ℕ) → circuit_seen parts ≡ circuit → elements ≡ parts.elements.items
    → All (λ e. length e.inputs.items ≤ width) elements → width ≤ vec_capacity inputs.before → width ≤ vec_capacity inputs.after
    → All (λ (x : Element). HasRoom inputs (length x.inputs)) circuit.elements
all_have_room circuit parts elements inputs width seen same most before after =
    let rooms : All (λ e. HasRoom inputs (length e.inputs.items)) elements = (λ k d l. (let m = most k d l in record { before = omega (arith, m, before); after = omega (arith, m, after) })) in
    subst (λ c. All (λ (x : Element). HasRoom inputs (length x.inputs)) c.elements) seen
    (All-map (λ (x : Element). HasRoom inputs (length x.inputs)) (element_seen parts) parts.elements.items (subst (λ es. All (λ e. HasRoom inputs (length e.inputs.items)) es) same rooms))

-- what the code of a circuit's elements holds stands for
element_in : (seen : ElementsSeen) (parts : Parts) (earlier : List Latest) (tables : List Table) (states : List Value) (inputs : Inputs) (e : ℕ) (item : code_element.Element) → record { circuit = circuit_seen parts; earlier = earlier; states = states } ≡ seen → AreEvaluable parts tables states inputs
    → e < length (machine_of seen.circuit).inputs → item ≡ slice_index_or parts.elements.items e item → IsElement seen.circuit parts e item
element_in seen parts earlier tables states inputs e item view h l is =
    the_element seen.circuit parts e item (ap (λ (s : ElementsSeen). s.circuit) view) (subst (λ (s : ElementsSeen). IsClosed s.circuit) view h.closed) h.indexed l is

pub inputs_in : (seen : ElementsSeen) (parts : Parts) (earlier : List Latest) (tables : List Table) (states : List Value) (inputs : Inputs) (e : ℕ) (item : code_element.Element) (values : List Value) → record { circuit = circuit_seen parts; earlier = earlier; states = states } ≡ seen → AreEvaluable parts tables states inputs
    → e < length (machine_of seen.circuit).inputs → item ≡ slice_index_or parts.elements.items e item → length values ≡ length seen.circuit.nets → All (λ n. n < length values) item.inputs.items
inputs_in seen parts earlier tables states inputs e item values view h l is many = inputs_among seen.circuit parts e item values (element_in seen parts earlier tables states inputs e item view h l is) many

pub output_in : (seen : ElementsSeen) (parts : Parts) (earlier : List Latest) (tables : List Table) (states : List Value) (inputs : Inputs) (e : ℕ) (item : code_element.Element) (values : List Value) → record { circuit = circuit_seen parts; earlier = earlier; states = states } ≡ seen → AreEvaluable parts tables states inputs
    → e < length (machine_of seen.circuit).inputs → item ≡ slice_index_or parts.elements.items e item → length values ≡ length seen.circuit.nets → item.output < length values
output_in seen parts earlier tables states inputs e item values view h l is many = subst (λ n. item.output < n) (sym many) (element_in seen parts earlier tables states inputs e item view h l is).output

pub room_in : (seen : ElementsSeen) (parts : Parts) (earlier : List Latest) (tables : List Table) (states : List Value) (inputs : Inputs) (e : ℕ) (item : code_element.Element) → record { circuit = circuit_seen parts; earlier = earlier; states = states } ≡ seen → AreEvaluable parts tables states inputs
    → e < length (machine_of seen.circuit).inputs → item ≡ slice_index_or parts.elements.items e item → HasRoom inputs (length item.inputs.items)
room_in seen parts earlier tables states inputs e item view h l is =
    has_room seen.circuit parts e item inputs (element_in seen parts earlier tables states inputs e item view h l is)
    (subst (λ (s : ElementsSeen). All (λ (x : Element). HasRoom inputs (length x.inputs)) s.circuit.elements) view h.room)

pub takes_in : (seen : ElementsSeen) (parts : Parts) (earlier : List Latest) (tables : List Table) (states : List Value) (inputs : Inputs) (e : ℕ) (item : code_element.Element) → record { circuit = circuit_seen parts; earlier = earlier; states = states } ≡ seen → AreEvaluable parts tables states inputs
    → e < length (machine_of seen.circuit).inputs → item ≡ slice_index_or parts.elements.items e item → TakesInputs (kind_seen parts item.kind) (length item.inputs.items)
takes_in seen parts earlier tables states inputs e item view h l is = (element_in seen parts earlier tables states inputs e item view h l is).takes

pub delays_in : (seen : ElementsSeen) (parts : Parts) (earlier : List Latest) (tables : List Table) (states : List Value) (inputs : Inputs) (e : ℕ) (item : code_element.Element) → record { circuit = circuit_seen parts; earlier = earlier; states = states } ≡ seen → AreEvaluable parts tables states inputs
    → e < length (machine_of seen.circuit).inputs → item ≡ slice_index_or parts.elements.items e item → HasDelays (kind_seen parts item.kind)
delays_in seen parts earlier tables states inputs e item view h l is = (element_in seen parts earlier tables states inputs e item view h l is).delays

pub paths_in : (seen : ElementsSeen) (parts : Parts) (earlier : List Latest) (tables : List Table) (states : List Value) (inputs : Inputs) (e : ℕ) (item : code_element.Element) (values : List Value) → record { circuit = circuit_seen parts; earlier = earlier; states = states } ≡ seen → AreEvaluable parts tables states inputs
    → e < length (machine_of seen.circuit).inputs → item ≡ slice_index_or parts.elements.items e item → length values ≡ length seen.circuit.nets → NamesNets (length values) (kind_seen parts item.kind)
paths_in seen parts earlier tables states inputs e item values view h l is many = subst (λ n. NamesNets n (kind_seen parts item.kind)) (sym many) (element_in seen parts earlier tables states inputs e item view h l is).paths

pub value_in : (seen : ElementsSeen) (parts : Parts) (earlier : List Latest) (tables : List Table) (states : List Value) (inputs : Inputs) (e : ℕ) (item : code_element.Element) (before after : List Value) (state v : Value) → record { circuit = circuit_seen parts; earlier = earlier; states = states } ≡ seen → AreEvaluable parts tables states inputs
    → e < length (machine_of seen.circuit).inputs → item ≡ slice_index_or parts.elements.items e item → state ≡ slice_index_or states e state
    → v ≡ value_of_kind (kind_seen parts item.kind) (values_at item.inputs.items before) (values_at item.inputs.items after) state
    → v ≡ element_value (machine_of seen.circuit) before after e (value_at seen.states e)
value_in seen parts earlier tables states inputs e item before after state v view h l is read value =
    computed seen.circuit parts e item before after states state v (element_in seen parts earlier tables states inputs e item view h l is)
    (subst (λ (s : ElementsSeen). length states ≡ length s.circuit.elements) view h.state_of_each) read value
    ∙ ap (λ (s : ElementsSeen). element_value (machine_of seen.circuit) before after e (value_at s.states e)) view

pub list_in : (seen : ElementsSeen) (parts : Parts) (earlier : List Latest) (tables : List Table) (states : List Value) (inputs : Inputs) (e : ℕ) (item : code_element.Element) (now : ℕ) (before after : List Value) (stamps : List (Option Stamp)) (list : List (ℕ × Value)) (state v present d : Value)
    → record { circuit = circuit_seen parts; earlier = earlier; states = states } ≡ seen → AreEvaluable parts tables states inputs
    → e < length (machine_of seen.circuit).inputs → item ≡ slice_index_or parts.elements.items e item → length after ≡ length seen.circuit.nets → state ≡ slice_index_or states e state
    → v ≡ value_of_kind (kind_seen parts item.kind) (values_at item.inputs.items before) (values_at item.inputs.items after) state → present ≡ slice_index_or after item.output d
    → placed_by (rule_of_kind (kind_seen parts item.kind) now after stamps (last_value list present) v) list present now v ≡ element_list (machine_of seen.circuit) now before after stamps seen.states e list
list_in seen parts earlier tables states inputs e item now before after stamps list state v present d view h l is many read value net =
    placed_list seen.circuit parts e item now before after stamps seen.states list v present d (element_in seen parts earlier tables states inputs e item view h l is) many
    (value_in seen parts earlier tables states inputs e item before after state v view h l is read value) net

-- with whatever values were computed last
pub evaluable_with : (circuit : Circuit) (parts : Parts) (tables : List Table) (elements : List code_element.Element) (udps : List UdpUse) (states : List Value) (inputs : Inputs) (width : ℕ)
    → circuit_seen parts ≡ circuit → IsClosed circuit → AreIndexed parts → udps ≡ parts.udps.items → AreTables udps tables → length states ≡ length circuit.elements
    → elements ≡ parts.elements.items → All (λ e. length e.inputs.items ≤ width) elements → width ≤ vec_capacity inputs.before → width ≤ vec_capacity inputs.after
    → AreEvaluable parts tables states inputs
evaluable_with circuit parts tables elements udps states inputs width seen closed indexed same_udps compiled many same most before after = record {
  closed = subst (λ c. IsClosed c) (sym seen) closed;
  indexed = indexed;
  tables_are = subst (λ us. AreTables us tables) same_udps compiled;
  state_of_each = many ∙ ap (λ c. length c.elements) (sym seen);
  room = all_have_room (circuit_seen parts) parts elements inputs width refl same most before after;
}

pub with_states : (circuit : Circuit) (earlier : List Latest) (states states' : List Value) → states ≡ states' → ◌≡◌ {A = ElementsSeen} (record { circuit = circuit; earlier = earlier; states = states }) (record { circuit = circuit; earlier = earlier; states = states' })
with_states circuit earlier states states' e =
    let with : List Value → ElementsSeen = λ vs. record { circuit = circuit; earlier = earlier; states = vs } in
    ap with e

pub with_earlier : (circuit : Circuit) (earlier earlier' : List Latest) (states : List Value) → earlier ≡ earlier' → ◌≡◌ {A = ElementsSeen} (record { circuit = circuit; earlier = earlier; states = states }) (record { circuit = circuit; earlier = earlier'; states = states })
with_earlier circuit earlier earlier' states e =
    let with : List Latest → ElementsSeen = λ ls. record { circuit = circuit; earlier = ls; states = states } in
    ap with e

pub of_circuit_seen : (circuit : Circuit) (parts : Parts) (earlier : List Latest) (states : List Value) → circuit_seen parts ≡ circuit
    → ◌≡◌ {A = ElementsSeen} (record { circuit = circuit_seen parts; earlier = earlier; states = states }) (record { circuit = circuit; earlier = earlier; states = states })
of_circuit_seen circuit parts earlier states seen =
    let with : Circuit → ElementsSeen = λ c. record { circuit = c; earlier = earlier; states = states } in
    ap with seen

-- one table more
pub tables_more : (udps : List UdpUse) (i : ℕ) (u : UdpUse) (tables : List Table) (t : Table) → i < length udps → u ≡ slice_index_or udps i u → AreTables (take i udps) tables → IsWhole t → IsTableOf u.rows t → AreTables (take (i + 1) udps) (tables ++ t ∷ [])
tables_more udps i u tables t l is h whole table =
    let many : length (take i udps) ≡ i = length-take-le i udps (let k : i ≤ length udps = omega arith in k) in
    subst (λ us. AreTables us (tables ++ t ∷ [])) (sym (take_more udps i u l ∙ ap (λ x. take i udps ++ x ∷ []) (sym is))) (record {
      count = length-append tables (t ∷ []) ∙ (ap (λ n. n + 1) h.count ∙ sym (length-append (take i udps) (u ∷ [])));
      each = λ k d e m. at k d e m (cases_eq k (length (take i udps)));
    })
  where
    at : (k : ℕ) (d : Table) (e : UdpUse) → k < length (take i udps ++ u ∷ []) → (k ≡ length (take i udps)) ⊎ (k ≢ length (take i udps))
        → IsWhole (slice_index_or (tables ++ t ∷ []) k d) × IsTableOf (slice_index_or (take i udps ++ u ∷ []) k e).rows (slice_index_or (tables ++ t ∷ []) k d)
    at k d e m (inl last) =
        let t_is : t ≡ slice_index_or (tables ++ t ∷ []) k d = sym (ap (λ n. slice_index_or (tables ++ t ∷ []) n d) (last ∙ sym h.count) ∙ get_or-append_seam tables t [] d) in
        let u_is : u ≡ slice_index_or (take i udps ++ u ∷ []) k e = sym (ap (λ n. slice_index_or (take i udps ++ u ∷ []) n e) last ∙ get_or-append_seam (take i udps) u [] e) in
        (subst (λ x. IsWhole x) t_is whole, subst (λ (x : UdpUse). IsTableOf x.rows (slice_index_or (tables ++ t ∷ []) k d)) u_is (subst (λ x. IsTableOf u.rows x) t_is table))
    at k d e m (inr early) =
        let less : k < length (take i udps) = (let n : length (take i udps ++ u ∷ []) ≡ length (take i udps) + 1 = length-append (take i udps) (u ∷ []) in omega arith) in
        let less' : k < length tables = omega (arith, h.count, less) in
        let t_is : slice_index_or tables k d ≡ slice_index_or (tables ++ t ∷ []) k d = sym (get_or-append tables (t ∷ []) d k less') in
        let u_is : slice_index_or (take i udps) k e ≡ slice_index_or (take i udps ++ u ∷ []) k e = sym (get_or-append (take i udps) (u ∷ []) e k less) in
        let both = h.each k d e less in
        (subst (λ x. IsWhole x) t_is both.0, subst (λ (x : UdpUse). IsTableOf x.rows (slice_index_or (tables ++ t ∷ []) k d)) u_is (subst (λ x. IsTableOf (slice_index_or (take i udps) k e).rows x) t_is both.1))
