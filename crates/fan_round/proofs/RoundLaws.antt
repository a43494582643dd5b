-- Evaluating the elements with a changed input comes to evaluating all.
use Rattle.std.specs.Prelude.{◌≡◌, ◌≢◌, ℕ, zero, suc, ◌<◌, ◌==◌, ◌||◌, Bool, true, false, not, if◌then◌else◌, All, List, [], ◌∷◌, ◌++◌, length, map, slice_index_or, slice_set, refl}
use Rattle.std.proofs.Common.{sym, ◌∙◌, ap, subst, arith, zero-add}
use Rattle.std.proofs.lemmas.List.{length-map, length-set, get_or-set_same, get_or-set_other}
use Rattle.std.specs.declared.option.Option.{Option}
use Rattle.std.specs.declared.option.Option.TheVariants.{Some, None}
use Rattle.sg_logic.specs.declared.values.Value.{Value}
use Rattle.sg_logic.specs.declared.values.Value.TheVariants.{X}
use Rattle.sg_logic.specs.Values.{is_same}
use Rattle.sg_model.specs.Values.{value_at}
use Rattle.sg_model.specs.Agenda.{due, list_at}
use Rattle.sg_model.specs.Machine.{Machine, State, Stamp, IsNoOutput, AreOutputs}
use Rattle.sg_model.specs.Round.{each_from, changed_by, due_change, due_changes, without_due, stamp_after, element_list, element_value, values_after, stamps_after, round}
use Rattle.sg_model.specs.Time.{any_differs}
use Rattle.sg_model.specs.FanOut.{present_after, AgreeAt, IsSteady, IsSettled}
use Rattle.sg_model.proofs.PlacedLaws.{same-true}
use Rattle.sg_model.proofs.FanOutLaws.{settled-value, settled-list, settled-evaluated}
use Rattle.sg_model.proofs.RunSteps.{round-is}
use Rattle.fan_round.specs.declared.stamps.Stamp as code_stamp
use Rattle.fan_round.specs.Lists.{IsListOf, at_places}
use Rattle.fan_round.specs.Work.{has_changed}
use Rattle.fan_round.specs.Nets.{stamp_seen}
use Rattle.fan_round.specs.Rounds.{AreHanded, AreSettled, StaysElsewhere}
use Rattle.fan_round.specs.States.{IsOfCircuit}
use Rattle.std.specs.Prelude.{Result, Ok, Err, OnOk}
use Rattle.fan_round.proofs.ListLaws.{at_places-each, each_from-at, length-each_from}
use Rattle.fan_round.proofs.NetLaws.{changed_append}

-- the inputs agree where none differs
agree : (before values : List Value) (nets : List ℕ) → any_differs before values nets ≡ false → AgreeAt nets before values
agree before values [] h = tt
agree before values (n ∷ ns) h = (same-true (value_at before n) (value_at values n) (first (is_same (value_at before n) (value_at values n)) (any_differs before values ns) h), agree before values ns (rest (is_same (value_at before n) (value_at values n)) (any_differs before values ns) h))
  where
    first : (a b : Bool) → (not a || b) ≡ false → a ≡ true
    first true b e = refl
    first false b e = cc

    rest : (a b : Bool) → (not a || b) ≡ false → b ≡ false
    rest true b e = e
    rest false b e = cc

-- each change is of another net than this one
abbrev pub Spare : ℕ → List (ℕ × Value) → Type 0
Spare net [] = Unit {0}
Spare net (c ∷ cs) = (c.0 ≢ net) × Spare net cs

changed_by-spared : (net : ℕ) (cs : List (ℕ × Value)) (values : List Value) → Spare net cs → value_at (changed_by cs values) net ≡ value_at values net
changed_by-spared net [] values h = refl
changed_by-spared net (c ∷ cs) values h =
    let apart : net ≢ c.0 = (λ q. h.0 (sym q)) in
    changed_by-spared net cs (slice_set values c.0 c.1) h.1 ∙ get_or-set_other values c.0 net c.1 X apart

due-spared : (now net : ℕ) (nets : List ℕ) (lists : List (List (ℕ × Value))) → IsNoOutput net nets → Spare net (due_changes now nets lists)
due-spared now net [] lists h = tt
due-spared now net (n ∷ ns) [] h = tt
due-spared now net (n ∷ ns) (list ∷ lists) h = elim (due now list) as (λ c. Spare net (due_change c n (due_changes now ns lists))) [
  | None ↦ due-spared now net ns lists h.1
  | Some v ↦ (h.0, due-spared now net ns lists h.1)
]

present-none : (now : ℕ) (list : List (ℕ × Value)) (present : Value) → due now list ≡ None → present_after now list present ≡ present
present-none now [] present h = refl
present-none now (p ∷ ps) present h =
    (elim (p.0 == now) as (λ b. (if b then Some p.1 else None) ≡ None → (if b then p.1 else present) ≡ present) [ true ↦ λ g. cc | false ↦ λ g. refl ]) h

present-some : (now : ℕ) (list : List (ℕ × Value)) (present v : Value) → due now list ≡ Some v → present_after now list present ≡ v
present-some now [] present v h = cc
present-some now (p ∷ ps) present v h =
    (elim (p.0 == now) as (λ b. (if b then Some p.1 else None) ≡ Some v → (if b then p.1 else present) ≡ v) [ true ↦ λ g. cc | false ↦ λ g. cc ]) h

outside-at : (net : ℕ) (nets : List ℕ) (d : ℕ) → d < length nets → IsNoOutput net nets → slice_index_or nets d 0 ≢ net
outside-at net [] d l h = absurd (omega arith)
outside-at net (x ∷ xs) zero l h = h.0
outside-at net (x ∷ xs) (suc d) l h = outside-at net xs d (omega arith) h.1

-- an output takes the value that is due for it
taken_present : (now : ℕ) (nets : List ℕ) (lists : List (List (ℕ × Value))) (e : ℕ) (values : List Value) → AreOutputs nets → e < length nets → length lists ≡ length nets → All (λ n. n < length values) nets
    → value_at (changed_by (due_changes now nets lists) values) (slice_index_or nets e 0) ≡ present_after now (list_at lists e) (value_at values (slice_index_or nets e 0))
taken_present now [] lists e values o l many within = absurd (omega arith)
taken_present now (n ∷ ns) [] e values o l many within = absurd (omega arith)
taken_present now (n ∷ ns) (list ∷ lists) zero values o l many within = at (due now list) refl
  where
    at : (c : Option Value) → due now list ≡ c → value_at (changed_by (due_change c n (due_changes now ns lists)) values) n ≡ present_after now list (value_at values n)
    at None h = changed_by-spared n (due_changes now ns lists) values (due-spared now n ns lists o.0) ∙ sym (present-none now list (value_at values n) h)
    at (Some v) h =
        let m : n < length values = within 0 0 (omega arith) in
        changed_by-spared n (due_changes now ns lists) (slice_set values n v) (due-spared now n ns lists o.0) ∙ (get_or-set_same values n v X m ∙ sym (present-some now list (value_at values n) v h))
taken_present now (n ∷ ns) (list ∷ lists) (suc e) values o l many within =
    let out : ℕ = slice_index_or ns e 0 in
    let apart : out ≢ n = outside-at n ns e (omega arith) o.0 in
    let rest = λ (vs : List Value) (k : length vs ≡ length values). taken_present now ns lists e vs o.1 (omega arith) (omega arith) (λ i d h. subst (λ x. slice_index_or ns i d < x) (sym k) (within (suc i) d (omega arith))) in
    elim (due now list) as (λ c. value_at (changed_by (due_change c n (due_changes now ns lists)) values) out ≡ present_after now (list_at lists e) (value_at values out)) [
      | None ↦ rest values refl
      | Some v ↦ rest (slice_set values n v) (length-set values n v) ∙ ap (λ w. present_after now (list_at lists e) w) (get_or-set_other values n out v X apart)
    ]

handed-spared : (outputs : List ℕ) (handed : List (ℕ × Value)) (e : ℕ) → e < length outputs → AreHanded outputs handed → Spare (slice_index_or outputs e 0) handed
handed-spared outputs [] e l h = tt
handed-spared outputs (c ∷ cs) e l h = ((λ q. outside-at c.0 outputs e l h.0 (sym q)), handed-spared outputs cs e l h.1)

pub round_present : (now : ℕ) (outputs : List ℕ) (handed : List (ℕ × Value)) (lists : List (List (ℕ × Value))) (values : List Value) (e : ℕ) → AreOutputs outputs → AreHanded outputs handed → length lists ≡ length outputs → All (λ n. n < length values) outputs → e < length outputs
    → value_at (changed_by (due_changes now outputs lists ++ handed) values) (slice_index_or outputs e 0) ≡ present_after now (list_at lists e) (value_at values (slice_index_or outputs e 0))
round_present now outputs handed lists values e o h many within l =
    let out : ℕ = slice_index_or outputs e 0 in
    ap (λ vs. value_at vs out) (changed_append (due_changes now outputs lists) handed values)
    ∙ (changed_by-spared out handed (changed_by (due_changes now outputs lists) values) (handed-spared outputs handed e l h) ∙ taken_present now outputs lists e values o l many within)

-- a list of the table after what was due is taken
pub left_at : (now : ℕ) (lists : List (List (ℕ × Value))) (e : ℕ) → list_at (map (without_due now) lists) e ≡ without_due now (list_at lists e)
left_at now [] e = refl
left_at now (x ∷ xs) zero = refl
left_at now (x ∷ xs) (suc e) = left_at now xs e

-- so where each element is settled, those without a changed input stay
pub stays_elsewhere : (m : Machine) → IsSteady m → (now : ℕ) (handed : List (ℕ × Value)) (s : State) → AreSettled m s.values s.lists s.states
    → AreOutputs m.outputs → AreHanded m.outputs handed → length s.lists ≡ length m.outputs → length s.states ≡ length s.lists → All (λ n. n < length s.values) m.outputs
    → StaysElsewhere m now s.values (values_after m now handed s) (stamps_after m now handed s) (map (without_due now) s.lists) s.states
stays_elsewhere m steady now handed s settled o h many many' within = record {
  list = λ e l same.
      (let l' : e < length s.lists = subst (λ n. e < n) (length-map s.lists (without_due now)) l in
      let after : List Value = values_after m now handed s in
      ap (λ xs. element_list m now s.values after (stamps_after m now handed s) s.states e xs) (left_at now s.lists e)
      ∙ (settled-list m steady now e s.values after (stamps_after m now handed s) s.states (list_at s.lists e) (settled.each e l') (agree s.values after (slice_index_or m.inputs e []) same)
      (round_present now m.outputs handed s.lists s.values e o h many within (subst (λ n. e < n) many l'))
      ∙ sym (left_at now s.lists e)));
  state = λ e l same.
      (let l' : e < length s.lists = subst (λ n. e < n) many' l in
      let after : List Value = values_after m now handed s in
      settled-value m steady e s.values after (list_at s.lists e) (value_at s.states e) (settled.each e l') (agree s.values after (slice_index_or m.inputs e []) same));
}

-- and evaluating the others is a pass over all
pub worked_lists : (m : Machine) (now : ℕ) (before values : List Value) (stamps : List (Option Stamp)) (lists : List (List (ℕ × Value))) (states : List Value) (work : List ℕ) → StaysElsewhere m now before values stamps lists states → IsListOf (has_changed before values m.inputs) work
    → at_places (element_list m now before values stamps states) [] work lists ≡ each_from (element_list m now before values stamps states) 0 lists
worked_lists m now before values stamps lists states work stays is = at_places-each (has_changed before values m.inputs) (element_list m now before values stamps states) [] work lists is (λ j l h. stays.list j l h)

pub worked_states : (m : Machine) (now : ℕ) (before values : List Value) (stamps : List (Option Stamp)) (lists : List (List (ℕ × Value))) (states : List Value) (work : List ℕ) → StaysElsewhere m now before values stamps lists states → IsListOf (has_changed before values m.inputs) work
    → at_places (element_value m before values) X work states ≡ each_from (element_value m before values) 0 states
worked_states m now before values stamps lists states work stays is = at_places-each (has_changed before values m.inputs) (element_value m before values) X work states is (λ j l h. stays.state j l h)

-- after a round each element is settled
pub round_settles : (m : Machine) (now : ℕ) (handed : List (ℕ × Value)) (s : State) → length s.states ≡ length s.lists → AreSettled m (round m now handed s).values (round m now handed s).lists (round m now handed s).states
round_settles m now handed s many = subst (λ r. AreSettled m r.values r.lists r.states) (sym (round-is m now handed s)) (record {
  each = λ e l.
      (let before : List Value = s.values in
      let after : List Value = values_after m now handed s in
      let stamps : List (Option Stamp) = stamps_after m now handed s in
      let left : List (List (ℕ × Value)) = map (without_due now) s.lists in
      let l1 : e < length left = subst (λ n. e < n) (length-each_from (element_list m now before after stamps s.states) 0 left) l in
      let l2 : e < length s.states = subst (λ n. e < n) (length-map s.lists (without_due now) ∙ sym many) l1 in
      let list : list_at (each_from (element_list m now before after stamps s.states) 0 left) e ≡ element_list m now before after stamps s.states e (list_at left e) =
      each_from-at (element_list m now before after stamps s.states) 0 left e [] [] l1 ∙ ap (λ n. element_list m now before after stamps s.states n (list_at left e)) (zero-add e) in
      let state : value_at (each_from (element_value m before after) 0 s.states) e ≡ element_value m before after e (value_at s.states e) =
      each_from-at (element_value m before after) 0 s.states e X X l2 ∙ ap (λ n. element_value m before after n (value_at s.states e)) (zero-add e) in
      subst (λ x. IsSettled m e after x (value_at (each_from (element_value m before after) 0 s.states) e)) (sym list)
      (subst (λ x. IsSettled m e after (element_list m now before after stamps s.states e (list_at left e)) x) (sym state) (settled-evaluated m now e before after stamps s.states (list_at left e))));
})

-- the same, of what the code has at hand
pub whole_lists : (m : Machine) (now : ℕ) (before values b v : List Value) (stamps st : List (Option code_stamp.Stamp)) (lists ls new : List (List (ℕ × Value))) (states : List Value) (work w : List ℕ) → b ≡ before → v ≡ values → st ≡ stamps → w ≡ work → ls ≡ lists
    → StaysElsewhere m now before values (map stamp_seen stamps) lists states → IsListOf (has_changed before values m.inputs) work
    → new ≡ at_places (element_list m now b v (map stamp_seen st) states) [] w ls → new ≡ each_from (element_list m now before values (map stamp_seen stamps) states) 0 lists
whole_lists m now before values b v stamps st lists ls new states work w eb ev es ew el stays is made =
    made ∙ (ap (λ x. at_places (element_list m now x v (map stamp_seen st) states) [] w ls) eb
    ∙ (ap (λ x. at_places (element_list m now before x (map stamp_seen st) states) [] w ls) ev
    ∙ (ap (λ x. at_places (element_list m now before values (map stamp_seen x) states) [] w ls) es
    ∙ (ap (λ x. at_places (element_list m now before values (map stamp_seen stamps) states) [] x ls) ew
    ∙ (ap (λ x. at_places (element_list m now before values (map stamp_seen stamps) states) [] work x) el ∙ worked_lists m now before values (map stamp_seen stamps) lists states work stays is)))))

pub whole_states : (m : Machine) (now : ℕ) (before values b v : List Value) (stamps : List (Option code_stamp.Stamp)) (lists : List (List (ℕ × Value))) (states new : List Value) (work w : List ℕ) → b ≡ before → v ≡ values → w ≡ work
    → StaysElsewhere m now before values (map stamp_seen stamps) lists states → IsListOf (has_changed before values m.inputs) work
    → new ≡ at_places (element_value m b v) X w states → new ≡ each_from (element_value m before values) 0 states
whole_states m now before values b v stamps lists states new work w eb ev ew stays is made =
    made ∙ (ap (λ x. at_places (element_value m x v) X w states) eb ∙ (ap (λ x. at_places (element_value m before x) X w states) ev
    ∙ (ap (λ x. at_places (element_value m before values) X x states) ew ∙ worked_states m now before values (map stamp_seen stamps) lists states work stays is)))

-- the round as a whole
pub round_made : (m : Machine) (now : ℕ) (handed : List (ℕ × Value)) (s new : State) → new.values ≡ values_after m now handed s → new.stamps ≡ each_from (stamp_after now s.values new.values) 0 s.stamps
    → new.lists ≡ each_from (element_list m now s.values new.values new.stamps s.states) 0 (map (without_due now) s.lists) → new.states ≡ each_from (element_value m s.values new.values) 0 s.states
    → new ≡ round m now handed s
round_made m now handed s new ev es el et =
    let after : List Value = values_after m now handed s in
    let stamps : new.stamps ≡ stamps_after m now handed s = es ∙ ap (λ vs. each_from (stamp_after now s.values vs) 0 s.stamps) ev in
    let left : List (List (ℕ × Value)) = map (without_due now) s.lists in
    let lists : new.lists ≡ each_from (element_list m now s.values after (stamps_after m now handed s) s.states) 0 left =
    el ∙ (ap (λ vs. each_from (element_list m now s.values vs new.stamps s.states) 0 left) ev ∙ ap (λ ss. each_from (element_list m now s.values after ss s.states) 0 left) stamps) in
    let states : new.states ≡ each_from (element_value m s.values after) 0 s.states = et ∙ ap (λ vs. each_from (element_value m s.values vs) 0 s.states) ev in
    same_state new.values after new.stamps (stamps_after m now handed s) new.lists (each_from (element_list m now s.values after (stamps_after m now handed s) s.states) 0 left) new.states (each_from (element_value m s.values after) 0 s.states) ev stamps lists states
    ∙ sym (round-is m now handed s)
  where
    same_state : (v v' : List Value) (st st' : List (Option Stamp)) (l l' : List (List (ℕ × Value))) (c c' : List Value) → v ≡ v' → st ≡ st' → l ≡ l' → c ≡ c'
        → ◌≡◌ {A = State} (record { values = v; stamps = st; lists = l; states = c }) (record { values = v'; stamps = st'; lists = l'; states = c' })
    same_state v v' st st' l l' c c' ev es el ec = cc

pub on_ok_then : {A E : Type 0} (r : Result A E) (P Q R : Type 0) → (P → Q → R) → OnOk r P → OnOk r Q → OnOk r R
on_ok_then (Ok a) P Q R f p q = f p q
on_ok_then (Err e) P Q R f p q = tt

-- the changes of a round, with the circuit's outputs
pub values_made : (m : Machine) (now : ℕ) (handed : List (ℕ × Value)) (s : State) (outputs : List ℕ) (values : List Value) → outputs ≡ m.outputs → values ≡ changed_by (due_changes now outputs s.lists ++ handed) s.values → values ≡ values_after m now handed s
values_made m now handed s outputs values e made = made ∙ ap (λ os. changed_by (due_changes now os s.lists ++ handed) s.values) e

pub stays_now : (m : Machine) (now : ℕ) (handed : List (ℕ × Value)) (s : State) (fan : List (List ℕ)) (outputs : List ℕ) (before values : List Value) (stamps : List (Option Stamp)) (lists : List (List (ℕ × Value)))
    → IsOfCircuit m fan outputs (length s.values) (length s.lists) → AreHanded outputs handed → length s.states ≡ length s.lists → AreSettled m s.values s.lists s.states
    → before ≡ s.values → values ≡ changed_by (due_changes now outputs s.lists ++ handed) s.values → stamps ≡ each_from (stamp_after now s.values values) 0 s.stamps → lists ≡ map (without_due now) s.lists
    → StaysElsewhere m now before values stamps lists s.states
stays_now m now handed s fan outputs before values stamps lists circuit h many settled eb made es el =
    let ev : values ≡ values_after m now handed s = values_made m now handed s outputs values circuit.outputs made in
    let es' : stamps ≡ stamps_after m now handed s = es ∙ ap (λ vs. each_from (stamp_after now s.values vs) 0 s.stamps) ev in
    subst (λ x. StaysElsewhere m now x values stamps lists s.states) (sym eb)
    (subst (λ x. StaysElsewhere m now s.values x stamps lists s.states) (sym ev)
    (subst (λ x. StaysElsewhere m now s.values (values_after m now handed s) x lists s.states) (sym es')
    (subst (λ x. StaysElsewhere m now s.values (values_after m now handed s) (stamps_after m now handed s) x s.states) (sym el)
    (stays_elsewhere m circuit.steady now handed s settled circuit.one_driver (subst (λ os. AreHanded os handed) circuit.outputs h) (sym circuit.output_of_each) many
    (subst (λ os. All (λ n. n < length s.values) os) circuit.outputs circuit.within)))))

pub round_is_made : (m : Machine) (now : ℕ) (handed : List (ℕ × Value)) (s new : State) (outputs : List ℕ) (before : List Value) (lists : List (List (ℕ × Value)))
    → outputs ≡ m.outputs → before ≡ s.values → new.values ≡ changed_by (due_changes now outputs s.lists ++ handed) s.values → new.stamps ≡ each_from (stamp_after now s.values new.values) 0 s.stamps → lists ≡ map (without_due now) s.lists
    → new.lists ≡ each_from (element_list m now before new.values new.stamps s.states) 0 lists → new.states ≡ each_from (element_value m before new.values) 0 s.states
    → new ≡ round m now handed s
round_is_made m now handed s new outputs before lists eo eb made es el ll lt =
    round_made m now handed s new (values_made m now handed s outputs new.values eo made) es
    (ll ∙ (ap (λ x. each_from (element_list m now x new.values new.stamps s.states) 0 lists) eb ∙ ap (λ x. each_from (element_list m now s.values new.values new.stamps s.states) 0 x) el))
    (lt ∙ ap (λ x. each_from (element_value m x new.values) 0 s.states) eb)

pub settled_again : (m : Machine) (now : ℕ) (handed : List (ℕ × Value)) (s new : State) → length s.states ≡ length s.lists → new ≡ round m now handed s → AreSettled m new.values new.lists new.states
settled_again m now handed s new many e = subst (λ r. AreSettled m r.values r.lists r.states) (sym e) (round_settles m now handed s many)
