-- What a moment says of pending transitions and of the values that elements computed last, place by place.
use Rattle.std.specs.Prelude.{◌≡◌, ◌≢◌, ◌⊎◌, ℕ, zero, suc, ◌+◌, ◌<◌, ◌≤◌, if◌then◌else◌, All, IfSome, List, [], ◌∷◌, ◌++◌, length, map, drop, replicate, reverse, slice_index_or, slice_set, Option, Some, None, refl}
use Rattle.std.proofs.Common.{sym, ◌∙◌, ap, subst, arith, inl, inr, zero-add}
use Rattle.std.proofs.lemmas.Bool.{cases_eq}
use Rattle.std.proofs.lemmas.List.{append_assoc, drop_more, ext_get_or, get_or-map, get_or-set_other, get_or-set_same, length-map, length-set, reverse-append}
use Rattle.sg_logic.specs.declared.values.Value.{Value}
use Rattle.sg_logic.specs.declared.values.Value.TheVariants.{X}
use Rattle.sg_model.specs.Agenda.{list_at, with_list, Rises}
use Rattle.sg_model.specs.Pending.{last_value, value_of_first, Follows, IsAbove}
use Rattle.sg_model.specs.Round.{each_from}
use Rattle.sg_model.specs.Values.{value_at}
use Rattle.sg_circuit.specs.Circuit.{Circuit, Element, Pass, element_at, net_at}
use Rattle.sg_circuit.specs.Closed.{IsClosed}
use Rattle.sg_circuit.specs.Seen.{circuit_seen, element_seen}
use Rattle.sg_circuit.specs.declared.circuits.Parts.{Parts}
use Rattle.sg_circuit.specs.declared.elements.Element as code_element
use Rattle.sg_circuit.specs.declared.nets.Driver.{Driver}
use Rattle.sg_circuit.proofs.SeenLaws.{all-unmapped, map-mapped}
use Rattle.fan_round.proofs.ListLaws.{each_from-at, length-each_from, test_other, test_same}
use Rattle.sim_rounds.specs.declared.moments.LastChange.{LastChange}
use Rattle.sim_rounds.specs.declared.moments.Pending as code_pending
use Rattle.sim_rounds.specs.declared.moments.Moment as code_moment
use Rattle.sim_rounds.specs.Moments.{Fits, IsStampOf, Moment, Pending, computed_last, pending_of, state_of}
use Rattle.sim_rounds.specs.MomentsSeen.{change_seen, moment_seen, pending_seen}
use Rattle.sim_rounds.specs.Restored.{with_values}

-- the value with which a list ends that has one transition more at its front
last_from : (p : ℕ × Value) (xs : List (ℕ × Value)) (present : Value) → last_value (p ∷ xs) present ≡ last_value xs p.1
last_from p xs present = ap (λ ys. value_of_first ys present) (reverse-append (p ∷ []) xs) ∙ at (reverse xs)
  where
    at : (ys : List (ℕ × Value)) → value_of_first (ys ++ p ∷ []) present ≡ value_of_first ys p.1
    at [] = refl
    at (y ∷ ys) = refl

-- what a driver has pending, by whether the first transition is its own
own_first : (driver : ℕ) (p : Pending) (ps : List Pending) → p.driver ≡ driver → pending_of driver (p ∷ ps) ≡ (p.time, p.value) ∷ pending_of driver ps
own_first driver p ps e = ap (λ b. if b then ((p.time, p.value) ∷ pending_of driver ps) else pending_of driver ps) (test_same p.driver driver e)

other_first : (driver : ℕ) (p : Pending) (ps : List Pending) → p.driver ≢ driver → pending_of driver (p ∷ ps) ≡ pending_of driver ps
other_first driver p ps e = ap (λ b. if b then ((p.time, p.value) ∷ pending_of driver ps) else pending_of driver ps) (test_other p.driver driver e)

-- the values that the code puts
length-with_values : (ps : List Pending) (values : List Value) → length (with_values ps values) ≡ length values
length-with_values [] values = refl
length-with_values (p ∷ ps) values = length-with_values ps (slice_set values p.driver p.value) ∙ length-set values p.driver p.value

value_put : (ps : List Pending) (values : List Value) (n : ℕ) → n < length values → value_at (with_values ps values) n ≡ last_value (pending_of n ps) (value_at values n)
value_put [] values n l = refl
value_put (p ∷ ps) values n l =
    value_put ps (slice_set values p.driver p.value) n (subst (λ k. n < k) (sym (length-set values p.driver p.value)) l) ∙ at (cases_eq p.driver n)
  where
    at : (p.driver ≡ n) ⊎ (p.driver ≢ n) → last_value (pending_of n ps) (value_at (slice_set values p.driver p.value) n) ≡ last_value (pending_of n (p ∷ ps)) (value_at values n)
    at (inl same) =
        ap (λ k. last_value (pending_of n ps) (value_at (slice_set values k p.value) n)) same
        ∙ (ap (last_value (pending_of n ps)) (get_or-set_same values n p.value X l)
        ∙ (sym (last_from (p.time, p.value) (pending_of n ps) (value_at values n)) ∙ ap (λ xs. last_value xs (value_at values n)) (sym (own_first n p ps same))))
    at (inr other) =
        ap (last_value (pending_of n ps)) (get_or-set_other values p.driver n p.value X (λ q. other (sym q)))
        ∙ ap (λ xs. last_value xs (value_at values n)) (sym (other_first n p ps other))

-- one transition more is gone over
pub put_more : (items : List code_pending.Pending) (i : ℕ) (d : code_pending.Pending) (values start : List Value) → i < length items
    → with_values (map (λ p. pending_seen p) (drop i items)) values ≡ with_values (map (λ p. pending_seen p) items) start
    → with_values (map (λ p. pending_seen p) (drop (i + 1) items)) (slice_set values (slice_index_or items i d).driver (slice_index_or items i d).value) ≡ with_values (map (λ p. pending_seen p) items) start
put_more items i d values start l h = sym (ap (λ xs. with_values (map (λ p. pending_seen p) xs) values) (drop_more items i d l)) ∙ h

-- the values that elements computed last are those of the state
last_states : (elements : List Element) (m : Moment) (values : List Value) → values ≡ with_values m.pending (map (λ e. value_at m.nets e.output) elements)
    → values ≡ each_from (computed_last m) 0 elements
last_states elements m values is =
    let outputs : List Value = map (λ (e : Element). value_at m.nets e.output) elements in
    let many : length values ≡ length elements = ap length is ∙ (length-with_values m.pending outputs ∙ length-map elements (λ (e : Element). value_at m.nets e.output)) in
    let blank : Element = record { scope = 0; inputs = []; output = 0; kind = Pass None } in
    ext_get_or X values (each_from (computed_last m) 0 elements) (many ∙ sym (length-each_from (computed_last m) 0 elements))
    (λ n l.
    (let known : n < length elements = subst (λ k. n < k) many l in
    let within : n < length outputs = subst (λ k. n < k) (sym (length-map elements (λ (e : Element). value_at m.nets e.output))) known in
    ap (λ vs. value_at vs n) is ∙ (value_put m.pending outputs n within
    ∙ (ap (last_value (pending_of n m.pending)) (get_or-map (λ (e : Element). value_at m.nets e.output) elements n blank X known)
    ∙ (ap (λ k. computed_last m k (slice_index_or elements n blank)) (sym (zero-add n)) ∙ sym (each_from-at (computed_last m) 0 elements n blank X known))))))

pub restored_states : (circuit : Circuit) (m : Moment) (parts : Parts) (elements : List code_element.Element) (nets values : List Value) (items pending : List code_pending.Pending) → circuit_seen parts ≡ circuit → elements ≡ parts.elements.items → nets ≡ m.nets → pending ≡ items → m.pending ≡ map (λ p. pending_seen p) items
    → values ≡ with_values (map (λ p. pending_seen p) pending) (map (λ e. value_at nets e.output) elements) → values ≡ (state_of circuit m).states
restored_states circuit m parts elements nets values items pending seen same n p q is =
    last_states circuit.elements m values
    (is ∙ (ap (λ ps. with_values ps (map (λ (e : code_element.Element). value_at nets e.output) elements)) (ap (map (λ x. pending_seen x)) p ∙ sym q)
    ∙ (ap (λ vs. with_values m.pending (map (λ (e : code_element.Element). value_at vs e.output) elements)) n
    ∙ (ap (λ es. with_values m.pending (map (λ (e : code_element.Element). value_at m.nets e.output) es)) same
    ∙ (ap (with_values m.pending) (sym (map-mapped (λ (e : Element). value_at m.nets e.output) (element_seen parts) parts.elements.items))
    ∙ ap (λ (c : Circuit). with_values m.pending (map (λ (e : Element). value_at m.nets e.output) c.elements)) seen)))))

pub length-restored : (circuit : Circuit) (m : Moment) (values : List Value) → values ≡ (state_of circuit m).states → length values ≡ length circuit.elements
length-restored circuit m values is = ap length is ∙ length-each_from (computed_last m) 0 circuit.elements

-- on the agenda what was put there and what is left come to what the moment has
list_put : (lists : List (List (ℕ × Value))) (p : Pending) (rest : List Pending) (e : ℕ) → e < length lists
    → list_at (with_list lists p.driver (list_at lists p.driver ++ (p.time, p.value) ∷ [])) e ++ pending_of e rest ≡ list_at lists e ++ pending_of e (p ∷ rest)
list_put lists p rest e l = at (cases_eq p.driver e)
  where
    at : (p.driver ≡ e) ⊎ (p.driver ≢ e) → list_at (with_list lists p.driver (list_at lists p.driver ++ (p.time, p.value) ∷ [])) e ++ pending_of e rest ≡ list_at lists e ++ pending_of e (p ∷ rest)
    at (inl same) =
        ap (λ k. list_at (with_list lists k (list_at lists k ++ (p.time, p.value) ∷ [])) e ++ pending_of e rest) same
        ∙ (ap (λ xs. xs ++ pending_of e rest) (get_or-set_same lists e (list_at lists e ++ (p.time, p.value) ∷ []) [] l)
        ∙ (append_assoc (list_at lists e) ((p.time, p.value) ∷ []) (pending_of e rest) ∙ ap (λ xs. list_at lists e ++ xs) (sym (own_first e p rest same))))
    at (inr other) =
        ap (λ xs. xs ++ pending_of e rest) (get_or-set_other lists p.driver e (list_at lists p.driver ++ (p.time, p.value) ∷ []) [] (λ q. other (sym q)))
        ∙ ap (λ xs. list_at lists e ++ xs) (sym (other_first e p rest other))

-- how an agenda stands to the one before, once so many transitions were put on it
pub record HasPut (items : List code_pending.Pending) (i : ℕ) (before lists : List (List (ℕ × Value))) : Type 0 where
  pub many : length lists ≡ length before
  pub each : (e : ℕ) → e < length before → list_at lists e ++ pending_of e (map (λ p. pending_seen p) (drop i items)) ≡ pending_of e (map (λ p. pending_seen p) items)

pub none_at : (n d : ℕ) → list_at (replicate n []) d ≡ []
none_at zero d = refl
none_at (suc n) zero = refl
none_at (suc n) (suc d) = none_at n d

pub none_put : (items : List code_pending.Pending) (before lists : List (List (ℕ × Value))) → lists ≡ before → ((e : ℕ) → e < length before → list_at before e ≡ []) → HasPut items 0 before lists
none_put items before lists same none = record {
  many = ap length same;
  each = λ e l. ap (λ xs. xs ++ pending_of e (map (λ p. pending_seen p) items)) (ap (λ ls. list_at ls e) same ∙ none e l);
}

pub one_more_put : (items : List code_pending.Pending) (i : ℕ) (d : code_pending.Pending) (before lists new : List (List (ℕ × Value))) → i < length items → HasPut items i before lists
    → new ≡ with_list lists (slice_index_or items i d).driver (list_at lists (slice_index_or items i d).driver ++ ((slice_index_or items i d).time, (slice_index_or items i d).value) ∷ [])
    → HasPut items (i + 1) before new
one_more_put items i d before lists new l h is =
    let p : Pending = pending_seen (slice_index_or items i d) in
    let rest : List Pending = map (λ q. pending_seen q) (drop (i + 1) items) in
    record {
      many = ap length is ∙ (length-set lists p.driver (list_at lists p.driver ++ (p.time, p.value) ∷ []) ∙ h.many);
      each = λ e k. ap (λ ls. list_at ls e ++ pending_of e rest) is ∙ (list_put lists p rest e (subst (λ n. e < n) (sym h.many) k)
          ∙ (ap (λ xs. list_at lists e ++ pending_of e (map (λ q. pending_seen q) xs)) (sym (drop_more items i d l)) ∙ h.each e k));
    }

-- times rise behind the front of a list
rises_behind : (xs ys : List (ℕ × Value)) → Rises (xs ++ ys) → Rises ys
rises_behind [] ys r = r
rises_behind (x ∷ xs) ys r = rises_behind xs ys r.1

above_all : (before : List (ℕ × Value)) (p : ℕ × Value) (rest : List (ℕ × Value)) → Rises (reverse (before ++ p ∷ rest)) → IsAbove p.0 (reverse before)
above_all before p rest r =
    let turned : reverse (before ++ p ∷ rest) ≡ (reverse rest ++ p ∷ []) ++ reverse before = reverse-append before (p ∷ rest) ∙ ap (λ xs. xs ++ reverse before) (reverse-append (p ∷ []) rest) in
    let split : reverse (before ++ p ∷ rest) ≡ reverse rest ++ (p ∷ reverse before) = turned ∙ append_assoc (reverse rest) (p ∷ []) (reverse before) in
    (rises_behind (reverse rest) (p ∷ reverse before) (subst Rises split r)).0

-- the next transition comes after all that its driver has on the agenda
pub next_above : (items : List code_pending.Pending) (i : ℕ) (d : code_pending.Pending) (before lists : List (List (ℕ × Value))) → i < length items → HasPut items i before lists → (slice_index_or items i d).driver < length before
    → ((e : ℕ) → e < length before → Rises (reverse (pending_of e (map (λ p. pending_seen p) items))))
    → IsAbove (slice_index_or items i d).time (reverse (list_at lists (slice_index_or items i d).driver))
next_above items i d before lists l h k rise =
    let p : Pending = pending_seen (slice_index_or items i d) in
    let rest : List Pending = map (λ q. pending_seen q) (drop (i + 1) items) in
    let whole : pending_of p.driver (map (λ q. pending_seen q) items) ≡ list_at lists p.driver ++ (p.time, p.value) ∷ pending_of p.driver rest =
    sym (h.each p.driver k) ∙ (ap (λ xs. list_at lists p.driver ++ pending_of p.driver (map (λ q. pending_seen q) xs)) (drop_more items i d l) ∙ ap (λ xs. list_at lists p.driver ++ xs) (own_first p.driver p rest refl)) in
    above_all (list_at lists p.driver) (p.time, p.value) (pending_of p.driver rest) (subst (λ xs. Rises (reverse xs)) whole (rise p.driver k))

-- what follows in order rises
pub follows_rise : (xs : List (ℕ × Value)) (present : Value) (now : ℕ) → Follows xs present now → Rises xs
follows_rise [] present now f = tt
follows_rise (p ∷ ps) present now f = (f.1, follows_rise ps present now f.3)

-- the lists of an agenda on which all was put are those of the state
pub restored_lists : (circuit : Circuit) (m : Moment) (before lists : List (List (ℕ × Value))) → length before ≡ length circuit.elements → length lists ≡ length before
    → ((e : ℕ) → e < length before → list_at lists e ≡ pending_of e m.pending) → lists ≡ (state_of circuit m).lists
restored_lists circuit m before lists elements many each =
    let of : ℕ → Element → List (ℕ × Value) = λ number element. pending_of number m.pending in
    let blank : Element = record { scope = 0; inputs = []; output = 0; kind = Pass None } in
    ext_get_or [] lists (each_from of 0 circuit.elements) (many ∙ (elements ∙ sym (length-each_from of 0 circuit.elements)))
    (λ e l. (let known : e < length before = subst (λ n. e < n) many l in
    each e known ∙ (ap (λ k. pending_of k m.pending) (sym (zero-add e)) ∙ sym (each_from-at of 0 circuit.elements e blank [] (subst (λ n. e < n) elements known)))))

-- the stamps of a moment that fits are near
near_stamp : (time bound : ℕ) (driver : Driver) (value : Value) (o : Option LastChange) → IsStampOf time driver value (change_seen o) → time < bound → IfSome o (λ c. c.time < bound)
near_stamp time bound driver value None h l = tt
near_stamp time bound driver value (Some c) h l = (let q : c.time ≤ time = h.0 in omega arith)

pub near_stamps : (circuit : Circuit) (m : code_moment.Moment) (bound : ℕ) → Fits circuit (moment_seen m) → m.time < bound → All (λ o. IfSome o (λ c. c.time < bound)) m.stamps.items
near_stamps circuit m bound fits near =
    λ i d l. (let within : i < length circuit.nets = subst (λ n. i < n) (sym (length-map m.stamps.items change_seen) ∙ fits.stamps) l in
    near_stamp m.time bound (net_at circuit i).driver (value_at m.nets.items i) (slice_index_or m.stamps.items i d)
    (subst (λ o. IsStampOf m.time (net_at circuit i).driver (value_at m.nets.items i) o) (get_or-map change_seen m.stamps.items i d None l) (fits.stamped i within)) near)

pub stamp_of_each : (circuit : Circuit) (m : code_moment.Moment) → Fits circuit (moment_seen m) → length m.stamps.items ≡ length m.nets.items
stamp_of_each circuit m fits = sym (length-map m.stamps.items change_seen) ∙ (fits.stamps ∙ sym fits.nets)

-- its drivers are elements, and their transitions rise
pub drivers_within : (circuit : Circuit) (m : code_moment.Moment) (n : ℕ) → Fits circuit (moment_seen m) → n ≡ length circuit.elements → All (λ p. p.driver < n) m.pending.items
drivers_within circuit m n fits same =
    subst (λ k. All (λ (p : code_pending.Pending). p.driver < k) m.pending.items) (sym same) (all-unmapped (λ (p : Pending). p.driver < length circuit.elements) (λ p. pending_seen p) m.pending.items fits.drivers)

pub drivers_among : (circuit : Circuit) (parts : Parts) (elements : List code_element.Element) (m : code_moment.Moment) (pending : List code_pending.Pending) → Fits circuit (moment_seen m) → circuit_seen parts ≡ circuit → elements ≡ parts.elements.items → pending ≡ m.pending.items
    → All (λ p. p.driver < length elements) pending
drivers_among circuit parts elements m pending fits seen same p =
    subst (λ ps. All (λ (q : code_pending.Pending). q.driver < length elements) ps) (sym p)
    (drivers_within circuit m (length elements) fits (ap length same ∙ (sym (length-map parts.elements.items (element_seen parts)) ∙ ap (λ (c : Circuit). length c.elements) seen)))

pub rise_each : (circuit : Circuit) (m : Moment) (e : ℕ) → Fits circuit m → e < length circuit.elements → Rises (reverse (pending_of e m.pending))
rise_each circuit m e fits l = follows_rise (reverse (pending_of e m.pending)) (value_at m.nets (element_at circuit e).output) (suc m.time) (fits.pending e l)

pub outputs_among : (circuit : Circuit) (parts : Parts) (elements : List code_element.Element) (n : ℕ) → IsClosed circuit → circuit_seen parts ≡ circuit → elements ≡ parts.elements.items → n ≡ length circuit.nets → All (λ e. e.output < n) elements
outputs_among circuit parts elements n closed seen same many =
    subst (λ k. All (λ (e : code_element.Element). e.output < k) elements) (sym many)
    (subst (λ es. All (λ (e : code_element.Element). e.output < length circuit.nets) es) (sym same)
    (all-unmapped (λ (x : Element). x.output < length circuit.nets) (element_seen parts) parts.elements.items
    (subst (λ (c : Circuit). All (λ (x : Element). x.output < length circuit.nets) c.elements) (sym seen) closed.outputs)))
