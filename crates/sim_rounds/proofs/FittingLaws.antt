-- The parts of what it is for a moment to fit a circuit, put together.
use Rattle.std.specs.Prelude.{◌≡◌, ◌≢◌, ◌↔◌, ℕ, ◌+◌, ◌<◌, ◌≤◌, ◌^◌, ◌==◌, All, Bool, true, false, IsTrue, List, [], ◌∷◌, Option, drop, length, map, slice_index_or, refl}
use Rattle.std.proofs.Common.{sym, ◌∙◌, ap, subst, arith}
use Rattle.std.proofs.lemmas.Bool.{eqb-true}
use Rattle.std.proofs.lemmas.List.{drop_all, drop_more, get_or_default, get_or-map, length-map, nil_from_length}
use Rattle.std.proofs.lemmas.List.Elements.{All-cons, All-head, All-map, All-nil, All-tail, All-weaker}
use Rattle.sg_logic.specs.declared.values.Value.{Value}
use Rattle.sg_logic.specs.declared.values.Value.TheVariants.{X}
use Rattle.sg_model.specs.Values.{value_at}
use Rattle.sg_model.specs.Machine.{Stamp}
use Rattle.sg_circuit.specs.declared.elements.Element as code_element
use Rattle.sg_circuit.specs.declared.elements.ElementKind.{ElementKind}
use Rattle.sg_circuit.specs.declared.elements.ElementKind.TheVariants as kind
use Rattle.sg_circuit.specs.declared.nets.Net.{Net}
use Rattle.sg_circuit.specs.declared.nets.Driver.{Driver}
use Rattle.sg_circuit.specs.declared.circuits.Parts.{Parts}
use Rattle.sg_circuit.specs.Circuit.{Circuit, Element}
use Rattle.sg_circuit.specs.Seen.{circuit_seen, element_seen, kind_seen}
use Rattle.sg_circuit.proofs.SeenLaws.{all-unmapped}
use Rattle.time_checks.specs.declared.latest.Latest.{Latest}
use Rattle.time_checks.specs.Falling.{AreBy, IsBy}
use Rattle.sim_rounds.specs.declared.moments.LastChange as code_change
use Rattle.sim_rounds.specs.declared.moments.Pending as code_pending
use Rattle.sim_rounds.specs.Moments.{Fits, Moment, Pending, IsStampOf, is_udp, stamp_at, udp_states}
use Rattle.sim_rounds.specs.MomentsSeen.{change_seen, pending_seen}
use Rattle.sim_rounds.specs.Fitting.{AreStamped, HasPast, HasSizes, IsSettled, is_primitive, net_in, with_state}
use Rattle.sim_rounds.proofs.VerdictLaws.{moved, refuted}

-- the whole, and its parts
pub fits_from : (circuit : Circuit) (m : Moment) → HasSizes circuit m → HasPast circuit m → IsSettled circuit m → Fits circuit m
fits_from circuit m sizes past settled = record {
  nets = sizes.nets;
  stamps = sizes.stamps;
  drivers = All-weaker (λ (p : Pending). (p.driver < length circuit.elements) × (p.time < 2 ^ 62)) (λ (p : Pending). p.driver < length circuit.elements) (λ p h. h.0) m.pending sizes.pending;
  checks = sizes.checks;
  pending = settled.pending;
  near = All-weaker (λ (p : Pending). (p.driver < length circuit.elements) × (p.time < 2 ^ 62)) (λ (p : Pending). p.time < 2 ^ 62) (λ p h. h.1) m.pending sizes.pending;
  stamped = past.stamped;
  latest = past.latest;
  last = past.last;
  computed = settled.computed;
  udps = settled.udps;
}

pub sizes_of : (circuit : Circuit) (m : Moment) → Fits circuit m → HasSizes circuit m
sizes_of circuit m h = record { nets = h.nets; stamps = h.stamps; checks = h.checks; pending = λ k d l. (h.drivers k d l, h.near k d l) }

pub past_of : (circuit : Circuit) (m : Moment) → Fits circuit m → HasPast circuit m
past_of circuit m h = record { last = h.last; latest = h.latest; stamped = h.stamped }

pub settled_of : (circuit : Circuit) (m : Moment) → Fits circuit m → IsSettled circuit m
settled_of circuit m h = record { pending = h.pending; computed = h.computed; udps = h.udps }

-- what is pending is known, said of the code's list
pub known_seen : (b : Bool) (parts : Parts) (ps qs : List code_pending.Pending) (n : ℕ) → ps ≡ qs → n ≡ length parts.elements.items → (IsTrue b ↔ All (λ p. (p.driver < n) × (p.time < 2 ^ 62)) ps)
    → (IsTrue b ↔ All (λ p. (p.driver < length (circuit_seen parts).elements) × (p.time < 2 ^ 62)) (map (λ p. pending_seen p) qs))
known_seen b parts ps qs n same many h =
    let P : Pending → Type 0 = λ p. (p.driver < n) × (p.time < 2 ^ 62) in
    let Q : ℕ → List code_pending.Pending → Type 0 = λ k rs. IsTrue b ↔ All (λ (p : Pending). (p.driver < k) × (p.time < 2 ^ 62)) (map (λ (p : code_pending.Pending). pending_seen p) rs) in
    let all : n ≡ length (circuit_seen parts).elements = many ∙ sym (length-map parts.elements.items (element_seen parts)) in
    subst (λ k. Q k qs) all (subst (λ rs. Q n rs) same
    (moved b (All (λ (p : code_pending.Pending). (p.driver < n) × (p.time < 2 ^ 62)) ps) (All P (map (λ p. pending_seen p) ps)) (All-map P (λ (p : code_pending.Pending). pending_seen p) ps) (all-unmapped P (λ (p : code_pending.Pending). pending_seen p) ps) h))

-- events by a time, one by one
by_each : (time : ℕ) (ls : List Latest) → AreBy time ls → All (λ (l : Latest). IsBy time l.refer × IsBy time l.datum) ls
by_each time [] h = All-nil (λ (l : Latest). IsBy time l.refer × IsBy time l.datum)
by_each time (l ∷ ls) h = All-cons (λ (l : Latest). IsBy time l.refer × IsBy time l.datum) l ls h.0 (by_each time ls h.1)

by_all : (time : ℕ) (ls : List Latest) → All (λ (l : Latest). IsBy time l.refer × IsBy time l.datum) ls → AreBy time ls
by_all time [] h = tt
by_all time (l ∷ ls) h = (All-head (λ (l : Latest). IsBy time l.refer × IsBy time l.datum) l ls h, by_all time ls (All-tail (λ (l : Latest). IsBy time l.refer × IsBy time l.datum) l ls h))

pub are_by : (b : Bool) (time : ℕ) (ls : List Latest) → (IsTrue b ↔ All (λ l. IsBy time l.refer × IsBy time l.datum) ls) → (IsTrue b ↔ AreBy time ls)
are_by b time ls h = moved b (All (λ (l : Latest). IsBy time l.refer × IsBy time l.datum) ls) (AreBy time ls) (by_all time ls) (by_each time ls) h

-- the last change of one net
stamp_moved : (time : ℕ) (d e : Driver) (v w : Value) (s t : Option Stamp) → d ≡ e → v ≡ w → s ≡ t → IsStampOf time d v s → IsStampOf time e w t
stamp_moved time d e v w s t drivers values stamps h = subst (λ x. IsStampOf time x w t) drivers (subst (λ x. IsStampOf time d x t) values (subst (λ x. IsStampOf time d v x) stamps h))

pub stamp_read : (b : Bool) (time : ℕ) (nets : List Net) (values : List Value) (stamps : List (Option code_change.LastChange)) (i : ℕ) (net : Net) (c : Value) (o : Option code_change.LastChange)
    → i < length nets → length values ≡ length nets → length stamps ≡ length nets → net ≡ slice_index_or nets i net
    → (IsTrue b ↔ IsStampOf time net.driver (slice_index_or values i c) (change_seen (slice_index_or stamps i o))) → (IsTrue b ↔ IsStampOf time (net_in nets i).driver (value_at values i) (stamp_at (map change_seen stamps) i))
stamp_read b time nets values stamps i net c o l many_values many_stamps is h =
    let v : Value = slice_index_or values i c in
    let s : Option Stamp = change_seen (slice_index_or stamps i o) in
    let in_values : i < length values = omega arith in
    let in_stamps : i < length stamps = omega arith in
    let driver : net.driver ≡ (net_in nets i).driver = ap (λ (x : Net). x.driver) (is ∙ get_or_default nets i net (net_in [] 0) l) in
    let value : v ≡ value_at values i = get_or_default values i c X in_values in
    let stamp : s ≡ stamp_at (map change_seen stamps) i = sym (get_or-map change_seen stamps i o (stamp_at [] 0) in_stamps) in
    moved b (IsStampOf time net.driver v s) (IsStampOf time (net_in nets i).driver (value_at values i) (stamp_at (map change_seen stamps) i))
    (stamp_moved time net.driver (net_in nets i).driver v (value_at values i) s (stamp_at (map change_seen stamps) i) driver value stamp)
    (stamp_moved time (net_in nets i).driver net.driver (value_at values i) v (stamp_at (map change_seen stamps) i) s (sym driver) (sym value) (sym stamp)) h

-- what happened, where the tests before the last one pass, and where one fails
pub past_by : (b : Bool) (circuit : Circuit) (m : Moment) (nets : List Net) (values : List Value) (stamps : List (Option code_change.LastChange)) → nets ≡ circuit.nets → values ≡ m.nets → map change_seen stamps ≡ m.stamps
    → m.last ≤ m.time → AreBy m.time m.latest → (IsTrue b ↔ AreStamped m.time nets values (map change_seen stamps)) → (IsTrue b ↔ HasPast circuit m)
past_by b circuit m nets values stamps nets_are values_are stamps_are last latest h =
    moved b (AreStamped m.time circuit.nets m.nets m.stamps) (HasPast circuit m) (λ s. record { last = last; latest = latest; stamped = s }) (λ p. p.stamped)
    (subst (λ ns. IsTrue b ↔ AreStamped m.time ns m.nets m.stamps) nets_are (subst (λ vs. IsTrue b ↔ AreStamped m.time nets vs m.stamps) values_are (subst (λ ss. IsTrue b ↔ AreStamped m.time nets values ss) stamps_are h)))

pub sizes_by : (b : Bool) (circuit : Circuit) (m : Moment) → length m.nets ≡ length circuit.nets → length m.stamps ≡ length circuit.nets → length m.latest ≡ length circuit.checks
    → (IsTrue b ↔ All (λ p. (p.driver < length circuit.elements) × (p.time < 2 ^ 62)) m.pending) → (IsTrue b ↔ HasSizes circuit m)
sizes_by b circuit m nets stamps checks h =
    moved b (All (λ (p : Pending). (p.driver < length circuit.elements) × (p.time < 2 ^ 62)) m.pending) (HasSizes circuit m) (λ p. record { nets = nets; stamps = stamps; checks = checks; pending = p }) (λ s. s.pending) h

-- a state of a primitive's element, in front of others
state_in_front : (b : Bool) (v : Value) (more rest : List Value) → with_state b v more ≡ with_state b v rest → more ≡ rest
state_in_front true v more rest e = cc
state_in_front false v more rest e = e

primitive_seen : (parts : Parts) (k : ElementKind) → is_udp (kind_seen parts k) ≡ is_primitive k
primitive_seen parts (kind.Gate gate delays) = refl
primitive_seen parts (kind.Udp udp delays) = refl
primitive_seen parts (kind.Pass constant) = refl
primitive_seen parts (kind.Leg timing) = refl
primitive_seen parts (kind.Path paths style) = refl
primitive_seen parts (kind.Late delay) = refl

-- the states of the elements from one on
states_from : (parts : Parts) (values : List Value) (elements : List code_element.Element) (i : ℕ) (item : code_element.Element) (c : Value) → elements ≡ parts.elements.items → i < length elements → length values ≡ length parts.elements.items → item ≡ slice_index_or elements i item
    → udp_states (drop i (circuit_seen parts).elements) (drop i values) ≡ with_state (is_primitive item.kind) (slice_index_or values i c) (udp_states (drop (i + 1) (circuit_seen parts).elements) (drop (i + 1) values))
states_from parts values elements i item c same m many is =
    let v : Value = slice_index_or values i c in
    let l : i < length parts.elements.items = subst (λ xs. i < length xs) same m in
    let item_is : item ≡ slice_index_or parts.elements.items i item = is ∙ ap (λ xs. slice_index_or xs i item) same in
    let es : List Element = (circuit_seen parts).elements in
    let in_es : i < length es = subst (λ n. i < n) (sym (length-map parts.elements.items (element_seen parts))) l in
    let in_values : i < length values = omega arith in
    let at : slice_index_or es i (element_seen parts item) ≡ element_seen parts item = get_or-map (element_seen parts) parts.elements.items i item (element_seen parts item) l ∙ ap (element_seen parts) (sym item_is) in
    ap (λ xs. udp_states xs (drop i values)) (drop_more es i (element_seen parts item) in_es ∙ ap (λ x. x ∷ drop (i + 1) es) at)
    ∙ (ap (λ vs. udp_states (element_seen parts item ∷ drop (i + 1) es) vs) (drop_more values i c in_values)
    ∙ ap (λ b. with_state b v (udp_states (drop (i + 1) es) (drop (i + 1) values))) (primitive_seen parts item.kind))

-- one is passed
pub states_turn : (parts : Parts) (values states left more : List Value) (elements : List code_element.Element) (i : ℕ) (item : code_element.Element) (c : Value) → elements ≡ parts.elements.items → i < length elements → length values ≡ length parts.elements.items → item ≡ slice_index_or elements i item
    → left ≡ with_state (is_primitive item.kind) (slice_index_or values i c) more
    → ((states ≡ udp_states (circuit_seen parts).elements values) ↔ (left ≡ udp_states (drop i (circuit_seen parts).elements) (drop i values)))
    → ((states ≡ udp_states (circuit_seen parts).elements values) ↔ (more ≡ udp_states (drop (i + 1) (circuit_seen parts).elements) (drop (i + 1) values)))
states_turn parts values states left more elements i item c same l many is passed h =
    let v : Value = slice_index_or values i c in
    let rest : List Value = udp_states (drop (i + 1) (circuit_seen parts).elements) (drop (i + 1) values) in
    let from : udp_states (drop i (circuit_seen parts).elements) (drop i values) ≡ with_state (is_primitive item.kind) v rest = states_from parts values elements i item c same l many is in (
      λ e. state_in_front (is_primitive item.kind) v more rest (sym passed ∙ (h.0 e ∙ from)),
      λ e. h.1 (passed ∙ (ap (with_state (is_primitive item.kind) v) e ∙ sym from)),
    )

-- none is left that could be
pub states_differ : (parts : Parts) (values states left : List Value) (elements : List code_element.Element) (i : ℕ) (item : code_element.Element) (c : Value) → elements ≡ parts.elements.items → i < length elements → length values ≡ length parts.elements.items → item ≡ slice_index_or elements i item
    → ((more : List Value) → left ≢ with_state (is_primitive item.kind) (slice_index_or values i c) more)
    → ((states ≡ udp_states (circuit_seen parts).elements values) ↔ (left ≡ udp_states (drop i (circuit_seen parts).elements) (drop i values)))
    → (IsTrue false ↔ (states ≡ udp_states (circuit_seen parts).elements values))
states_differ parts values states left elements i item c same l many is none h =
    refuted (states ≡ udp_states (circuit_seen parts).elements values)
    (λ e. none (udp_states (drop (i + 1) (circuit_seen parts).elements) (drop (i + 1) values)) (h.0 e ∙ states_from parts values elements i item c same l many is))

-- all are passed
pub empty_when : (b : Bool) (xs : List Value) → b ≡ (length xs == 0) → (IsTrue b ↔ (xs ≡ []))
empty_when b xs is = (λ e. nil_from_length xs (eqb-true (length xs) 0 (sym is ∙ e)), λ e. is ∙ ap (λ ys. length ys == 0) e)

pub states_end : (b : Bool) (parts : Parts) (values states left : List Value) (elements : List code_element.Element) (i : ℕ) → elements ≡ parts.elements.items → length elements ≤ i → (IsTrue b ↔ (left ≡ []))
    → ((states ≡ udp_states (circuit_seen parts).elements values) ↔ (left ≡ udp_states (drop i (circuit_seen parts).elements) (drop i values)))
    → (IsTrue b ↔ (states ≡ udp_states (circuit_seen parts).elements values))
states_end b parts values states left elements i same l empty h =
    let es : List Element = (circuit_seen parts).elements in
    let past : length es ≤ i = subst (λ n. n ≤ i) (ap length same ∙ sym (length-map parts.elements.items (element_seen parts))) l in
    let none : udp_states (drop i es) (drop i values) ≡ [] = ap (λ xs. udp_states xs (drop i values)) (drop_all i es past) in
    (λ e. h.1 (empty.0 e ∙ sym none), λ e. empty.1 (h.0 e ∙ none))
