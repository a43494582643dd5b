-- What a round changes, and when: no net later than its deadline, and what is then pending has none later.
use Rattle.std.specs.Prelude.{◌≡◌, ◌⊎◌, ℕ, suc, ◌+◌, ◌<◌, ◌≤◌, ◌==◌, Bool, true, false, if◌then◌else◌, All, Contains, List, [], ◌∷◌, ◌++◌, length, map, slice_index_or, slice_set, refl}
use Rattle.std.proofs.Common.{sym, ◌∙◌, ap, subst, arith, inl, inr, zero-add}
use Rattle.std.proofs.lemmas.Bool.{cases_eq, cases_lt}
use Rattle.std.proofs.lemmas.Bool.Decides.{nat_tests}
use Rattle.std.proofs.lemmas.List.{append-nil, length-map, length-set, get_or-set_other, get_or_past}
use Rattle.std.specs.declared.option.Option.{Option}
use Rattle.std.specs.declared.option.Option.TheVariants.{Some, None}
use Rattle.sg_logic.specs.declared.values.Value.{Value}
use Rattle.sg_logic.specs.declared.values.Value.TheVariants.{X}
use Rattle.sg_logic.specs.Values.{is_same}
use Rattle.sg_model.specs.Values.{value_at}
use Rattle.sg_model.specs.Agenda.{due, list_at}
use Rattle.sg_model.specs.Pending.{last_value}
use Rattle.sg_model.specs.Machine.{Machine, State, Stamp}
use Rattle.sg_model.specs.Round.{each_from, changed_by, due_change, due_changes, without_due, stamp_after, element_list, element_value, values_after, stamps_after, round}
use Rattle.sg_model.specs.FanOut.{present_after, AgreeAt}
use Rattle.sg_model.proofs.PlacedLaws.{if_fact, same-true, same-false}
use Rattle.sg_model.proofs.FanOutLaws.{settled-list}
use Rattle.sg_model.proofs.RunSteps.{round-is}
use Rattle.fan_round.proofs.ListLaws.{each_from-at, length-each_from}
use Rattle.fan_round.proofs.NetLaws.{changed_append}
use Rattle.fan_round.proofs.RoundLaws.{left_at, round_present, round_settles}
use Rattle.settle_bound.proofs.PendingTimes.{NoneAfter, none-placed_by, none-left}
use Rattle.settle_bound.proofs.Deadlines.{inputs_of, output_of, IsStamped, AreStamped, MeetsDeadlines, IsMoved, AreMoved, IsOnTime, AreCalm, AreSettledAll}

-- a change is of the net
abbrev IsAmong : ℕ → List (ℕ × Value) → Type 0
IsAmong net [] = ⊥
IsAmong net (c ∷ cs) = (c.0 ≡ net) ⊎ IsAmong net cs

spared : (net : ℕ) (cs : List (ℕ × Value)) (values : List Value) → (value_at (changed_by cs values) net ≡ value_at values net) ⊎ IsAmong net cs
spared net [] values = inl refl
spared net (c ∷ cs) values = elim (spared net cs (slice_set values c.0 c.1)) [
  | inr a ↦ inr (inr a)
  | inl e ↦ elim (cases_eq c.0 net) [
    | inl q ↦ inr (inl q)
    | inr n ↦ inl (e ∙ get_or-set_other values c.0 net c.1 X (λ q. n (sym q)))
  ]
]

among-append : (net : ℕ) (xs ys : List (ℕ × Value)) → IsAmong net (xs ++ ys) → IsAmong net xs ⊎ IsAmong net ys
among-append net [] ys a = inr a
among-append net (x ∷ xs) ys (inl e) = inl (inl e)
among-append net (x ∷ xs) ys (inr a) = elim (among-append net xs ys a) [ inl b ↦ inl (inr b) | inr b ↦ inr b ]

-- an element that drives the net has a value that is due
record IsDueAt (now net : ℕ) (nets : List ℕ) (lists : List (List (ℕ × Value))) : Type 0 where
  place : ℕ
  within : place < length nets
  is : slice_index_or nets place 0 ≡ net
  value : Value
  due_is : due now (list_at lists place) ≡ Some value

due-found : (now net : ℕ) (nets : List ℕ) (lists : List (List (ℕ × Value))) → IsAmong net (due_changes now nets lists) → IsDueAt now net nets lists
due-found now net [] lists a = absurd a
due-found now net (n ∷ ns) [] a = absurd a
due-found now net (n ∷ ns) (list ∷ lists) a = at (due now list) refl a (λ b. due-found now net ns lists b)
  where
    later : IsDueAt now net ns lists → IsDueAt now net (n ∷ ns) (list ∷ lists)
    later r = record { place = suc r.place; within = (let l = r.within in omega arith); is = r.is; value = r.value; due_is = r.due_is }

    at : (c : Option Value) → due now list ≡ c → IsAmong net (due_change c n (due_changes now ns lists)) → (IsAmong net (due_changes now ns lists) → IsDueAt now net ns lists) → IsDueAt now net (n ∷ ns) (list ∷ lists)
    at None e b rest = later (rest b)
    at (Some v) e (inl q) rest = record { place = 0; within = omega arith; is = q; value = v; due_is = e }
    at (Some v) e (inr b) rest = later (rest b)

due-within : (time now : ℕ) (list : List (ℕ × Value)) (v : Value) → NoneAfter time list → due now list ≡ Some v → now ≤ time
due-within time now [] v h e = absurd (let f : None ≡ Some v = e in cc)
due-within time now (p ∷ ps) v h e = at (p.0 == now) refl e
  where
    at : (b : Bool) → (p.0 == now) ≡ b → (if b then Some p.1 else None) ≡ Some v → now ≤ time
    at true t f = let q : p.0 ≡ now = grind (arith, nat_tests) in let l : p.0 ≤ time = h.0 in omega arith
    at false t f = absurd (let g : None ≡ Some v = f in cc)

moved-at : (m : Machine) (delay until : ℕ → ℕ) (now net : ℕ) (cs : List (ℕ × Value)) → AreMoved m delay until now cs → IsAmong net cs → IsMoved m delay until now net
moved-at m delay until now net [] h a = absurd a
moved-at m delay until now net (c ∷ cs) h (inl e) = subst (IsMoved m delay until now) e h.0
moved-at m delay until now net (c ∷ cs) h (inr a) = moved-at m delay until now net cs h.1 a

-- a round changes no net later than its deadline
pub changed-in_time : (m : Machine) (delay until : ℕ → ℕ) (now : ℕ) (handed : List (ℕ × Value)) (s : State) → IsOnTime m until now s → AreMoved m delay until now handed
    → (net : ℕ) → (value_at (values_after m now handed s) net ≡ value_at s.values net) ⊎ (now ≤ until net)
changed-in_time m delay until now handed s on moved net = elim (spared net (due_changes now m.outputs s.lists ++ handed) s.values) [
  | inl e ↦ inl e
  | inr a ↦ inr (elim (among-append net (due_changes now m.outputs s.lists) handed a) [
    | inl b ↦ (let d = due-found now net m.outputs s.lists b in
        subst (λ n. now ≤ until n) d.is (due-within (until (output_of m d.place)) now (list_at s.lists d.place) d.value (on.pending d.place d.within) d.due_is))
    | inr b ↦ (moved-at m delay until now net handed moved b).soon
  ])
]

-- an input differs, where they don't all agree
record IsOther (nets : List ℕ) (vs ws : List Value) : Type 0 where
  net : ℕ
  read : Contains nets net
  differs : is_same (value_at vs net) (value_at ws net) ≡ false

agree-or : (nets : List ℕ) (vs ws : List Value) → AgreeAt nets vs ws ⊎ IsOther nets vs ws
agree-or [] vs ws = inl tt
agree-or (n ∷ ns) vs ws = at (is_same (value_at vs n) (value_at ws n)) refl (agree-or ns vs ws)
  where
    at : (b : Bool) → is_same (value_at vs n) (value_at ws n) ≡ b → AgreeAt ns vs ws ⊎ IsOther ns vs ws → AgreeAt (n ∷ ns) vs ws ⊎ IsOther (n ∷ ns) vs ws
    at false e rest = inr (record { net = n; read = (0, omega arith, refl); differs = e })
    at true e (inl a) = inl (same-true (value_at vs n) (value_at ws n) e, a)
    at true e (inr o) = inr (record { net = o.net; read = (suc o.read.0, (let l = o.read.1 in omega arith), o.read.2); differs = o.differs })

-- the stamps after a round
stamped-one : (now net : ℕ) (before after : List Value) (stamp : Option Stamp) → IsStamped now stamp → IsStamped now (stamp_after now before after net stamp)
stamped-one now net before after stamp h =
    if_fact (IsStamped now) (is_same (value_at before net) (value_at after net)) stamp (Some (record { time = now; before = value_at before net; after = value_at after net })) (λ _. h) (λ _. (let l : now ≤ now = omega arith in l))

stamped-after : (m : Machine) (until : ℕ → ℕ) (now : ℕ) (handed : List (ℕ × Value)) (s : State) → IsOnTime m until now s → AreStamped now (stamps_after m now handed s)
stamped-after m until now handed s on net = elim (cases_lt net (length s.stamps)) [
  | inr past ↦ subst (IsStamped now) (sym (get_or_past (stamps_after m now handed s) net None (subst (λ n. n ≤ net) (sym many) past))) tt
  | inl l ↦ subst (IsStamped now) (sym (each_from-at f 0 s.stamps net None None l)) (stamped-one now (0 + net) s.values (values_after m now handed s) (slice_index_or s.stamps net None) (on.stamped net))
]
  where
    f : ℕ → Option Stamp → Option Stamp
    f = stamp_after now s.values (values_after m now handed s)

    many : length (stamps_after m now handed s) ≡ length s.stamps
    many = length-each_from f 0 s.stamps

-- where a value may be placed anew, what is then pending for its element has no later deadline
placed-in_time : (m : Machine) (delay until : ℕ → ℕ) → MeetsDeadlines m delay until → (now e : ℕ) (before after : List Value) (stamps : List (Option Stamp)) (states : List Value) (list : List (ℕ × Value))
    → AreStamped now stamps → now + delay e ≤ until (output_of m e) → NoneAfter (until (output_of m e)) list → NoneAfter (until (output_of m e)) (element_list m now before after stamps states e list)
placed-in_time m delay until meets now e before after stamps states list stamped l h =
    let present : Value = value_at after (output_of m e) in
    let v : Value = m.value e before after (value_at states e) in
    let t = meets.placed now e after stamps (last_value list present) v stamped in
    none-placed_by (until (output_of m e)) (m.rule e now after stamps (last_value list present) v) list present now v h (omega arith) (omega arith)

-- and so it is with each element after a round
list-in_time : (m : Machine) (delay until : ℕ → ℕ) → MeetsDeadlines m delay until → (now : ℕ) (handed : List (ℕ × Value)) (s : State) → IsOnTime m until now s → AreCalm m delay until now s → AreMoved m delay until now handed
    → (e : ℕ) → e < length m.outputs → NoneAfter (until (output_of m e)) (element_list m now s.values (values_after m now handed s) (stamps_after m now handed s) s.states e (without_due now (list_at s.lists e)))
list-in_time m delay until meets now handed s on calm moved e l = elim (agree-or (inputs_of m e) s.values after) [
  | inr o ↦ anew (elim (changed-in_time m delay until now handed s on moved o.net) [
    | inl same ↦ absurd (same-false (value_at s.values o.net) (value_at after o.net) o.differs (sym same))
    | inr soon ↦ (let t = meets.through e o.net l o.read in omega arith)
  ])
  | inl agree ↦ elim (spared out handed (changed_by (due_changes now m.outputs s.lists) s.values)) [
    | inr a ↦ anew ((moved-at m delay until now out handed moved a).again e l refl)
    | inl same ↦ elim (calm e l) [
      | inr late ↦ anew late
      | inl settled ↦ subst (NoneAfter (until out))
          (sym (settled-list m meets.steady now e s.values after stamps s.states (list_at s.lists e) settled agree (ap (λ vs. value_at vs out) (changed_append (due_changes now m.outputs s.lists) handed s.values) ∙ (same ∙ present))))
          left
    ]
  ]
]
  where
    out : ℕ
    out = output_of m e

    after : List Value
    after = values_after m now handed s

    stamps : List (Option Stamp)
    stamps = stamps_after m now handed s

    left : NoneAfter (until out) (without_due now (list_at s.lists e))
    left = none-left (until out) now (list_at s.lists e) (on.pending e l)

    anew : now + delay e ≤ until out → NoneAfter (until out) (element_list m now s.values after stamps s.states e (without_due now (list_at s.lists e)))
    anew late = placed-in_time m delay until meets now e s.values after stamps s.states (without_due now (list_at s.lists e)) (stamped-after m until now handed s on) late left

    present : value_at (changed_by (due_changes now m.outputs s.lists) s.values) out ≡ present_after now (list_at s.lists e) (value_at s.values out)
    present =
        ap (λ cs. value_at (changed_by cs s.values) out) (sym (append-nil (due_changes now m.outputs s.lists)))
        ∙ round_present now m.outputs [] s.lists s.values e meets.one_driver tt on.list_of_each on.within l

length-changed_by : (cs : List (ℕ × Value)) (values : List Value) → length (changed_by cs values) ≡ length values
length-changed_by [] values = refl
length-changed_by (c ∷ cs) values = length-changed_by cs (slice_set values c.0 c.1) ∙ length-set values c.0 c.1

-- after a round a state is on time, and each element is settled
pub round-on_time : (m : Machine) (delay until : ℕ → ℕ) → MeetsDeadlines m delay until → (now : ℕ) (handed : List (ℕ × Value)) (s : State) → IsOnTime m until now s → AreCalm m delay until now s → AreMoved m delay until now handed
    → IsOnTime m until now (round m now handed s)
round-on_time m delay until meets now handed s on calm moved = subst (IsOnTime m until now) (sym (round-is m now handed s)) (record {
  list_of_each = length-each_from lists_f 0 left ∙ (length-map s.lists (without_due now) ∙ on.list_of_each);
  state_of_each = length-each_from states_f 0 s.states ∙ (on.state_of_each ∙ sym (length-each_from lists_f 0 left ∙ length-map s.lists (without_due now)));
  within = subst (λ n. All (λ k. k < n) m.outputs) (sym (length-changed_by (due_changes now m.outputs s.lists ++ handed) s.values)) on.within;
  pending = λ e l. subst (NoneAfter (until (output_of m e))) (sym (at_list e l)) (list-in_time m delay until meets now handed s on calm moved e l);
  stamped = stamped-after m until now handed s on;
})
  where
    left : List (List (ℕ × Value))
    left = map (without_due now) s.lists

    lists_f : ℕ → List (ℕ × Value) → List (ℕ × Value)
    lists_f = element_list m now s.values (values_after m now handed s) (stamps_after m now handed s) s.states

    states_f : ℕ → Value → Value
    states_f = element_value m s.values (values_after m now handed s)

    at_list : (e : ℕ) → e < length m.outputs → list_at (each_from lists_f 0 left) e ≡ lists_f e (without_due now (list_at s.lists e))
    at_list e l =
        let k : e < length left = subst (λ n. e < n) (sym (length-map s.lists (without_due now) ∙ on.list_of_each)) l in
        each_from-at lists_f 0 left e [] [] k ∙ (ap (λ n. lists_f n (list_at left e)) (zero-add e) ∙ ap (lists_f e) (left_at now s.lists e))

pub round-settled : (m : Machine) (until : ℕ → ℕ) (now : ℕ) (handed : List (ℕ × Value)) (s : State) → IsOnTime m until now s → AreSettledAll m (round m now handed s)
round-settled m until now handed s on = λ e l. (round_settles m now handed s on.state_of_each).each e (subst (λ n. e < n) (sym many) l)
  where
    many : length (round m now handed s).lists ≡ length m.outputs
    many =
        ap (λ r. length r.lists) (round-is m now handed s)
        ∙ (length-each_from (element_list m now s.values (values_after m now handed s) (stamps_after m now handed s) s.states) 0 (map (without_due now) s.lists) ∙ (length-map s.lists (without_due now) ∙ on.list_of_each))

pub round-values : (m : Machine) (delay until : ℕ → ℕ) (now : ℕ) (handed : List (ℕ × Value)) (s : State) → IsOnTime m until now s → AreMoved m delay until now handed
    → (net : ℕ) → until net < now → value_at (round m now handed s).values net ≡ value_at s.values net
round-values m delay until now handed s on moved net late =
    ap (λ r. value_at r.values net) (round-is m now handed s) ∙ elim (changed-in_time m delay until now handed s on moved net) [
      | inl e ↦ e
      | inr soon ↦ absurd (omega arith)
    ]
