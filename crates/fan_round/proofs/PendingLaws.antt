-- A round keeps what is pending in order.
use Rattle.std.specs.Prelude.{◌≡◌, ℕ, ◌<◌, ◌≤◌, ◌==◌, true, false, if◌then◌else◌, All, List, [], ◌∷◌, length, map, reverse, slice_index_or}
use Rattle.std.proofs.Common.{sym, ◌∙◌, ap, subst, zero-add}
use Rattle.std.proofs.lemmas.List.{length-map, get_or_default}
use Rattle.std.specs.declared.option.Option.{Option}
use Rattle.sg_logic.specs.declared.values.Value.{Value}
use Rattle.sg_model.specs.Values.{value_at}
use Rattle.sg_model.specs.Pending.{Follows, IsPending, last_value}
use Rattle.sg_model.specs.Agenda.{list_at, NoneBelow, NothingBelow, Rises, AllRise}
use Rattle.sg_model.specs.Machine.{Machine, State, Stamp, Rule, Inertial, Pulse, AreOutputs}
use Rattle.sg_model.specs.Round.{each_from, placed_by, without_due, element_list, element_value, values_after, stamps_after, round}
use Rattle.sg_model.specs.FanOut.{present_after}
use Rattle.sg_model.proofs.PlacedLaws.{IsPending-placed, IsPending-inertial, IsPending-taken}
use Rattle.sg_model.proofs.LeastLaws.{none_below-first}
use Rattle.sg_model.proofs.RunSteps.{round-is}
use Rattle.fan_round.specs.Rounds.{time_of_rule, AreHanded, ArePending, IsLater}
use Rattle.fan_round.specs.declared.nets.Nets.{Nets}
use Rattle.fan_round.specs.declared.work.WorkList.{WorkList}
use Rattle.fan_round.specs.Nets.{AreNets}
use Rattle.fan_round.specs.States.{state_seen, IsIdle, IsOfCircuit, IsReady}
use Rattle.fan_round.proofs.ListLaws.{each_from-at, length-each_from}
use Rattle.fan_round.proofs.RoundLaws.{left_at, round_present, settled_again}

pending-placed_by : (rule : Rule) (list : List (ℕ × Value)) (present : Value) (now : ℕ) (v : Value) → IsPending list present now → now ≤ time_of_rule rule → IsPending (placed_by rule list present now v) present now
pending-placed_by (Inertial time) list present now v h l = IsPending-inertial list present now v time h l
pending-placed_by (Pulse time reject error style) list present now v h l = IsPending-placed list present now v time reject error style h l

pending-without_due : (now : ℕ) (list : List (ℕ × Value)) (present : Value) → IsPending list present now → IsPending (without_due now list) (present_after now list present) now
pending-without_due now [] present h = tt
pending-without_due now (p ∷ ps) present h = elim (p.0 == now) as (λ b. IsPending (if b then ps else (p ∷ ps)) (if b then p.1 else present) now) [
  | true ↦ (IsPending-taken ps p.0 p.1 present now h).0
  | false ↦ h
]

-- what is pending rises, and nothing is before now
rises_of : (xs : List (ℕ × Value)) (present : Value) (now : ℕ) → Follows xs present now → Rises xs
rises_of [] present now h = tt
rises_of (p ∷ ps) present now h = (h.1, rises_of ps present now h.3)

none_below_of : (list : List (ℕ × Value)) (present : Value) (now : ℕ) → IsPending list present now → NoneBelow now list
none_below_of [] present now h = tt
none_below_of (p ∷ ps) present now h = none_below-first now p ps (rises_of (reverse (p ∷ ps)) present now h) (IsPending-taken ps p.0 p.1 present now h).1.1

pub pending_rises : (driven : List ℕ) (values : List Value) (lists : List (List (ℕ × Value))) (now : ℕ) → ArePending driven values lists now → AllRise lists
pending_rises driven values lists now h = λ e d l. subst (λ xs. Rises (reverse xs)) (get_or_default lists e [] d l) (rises_of (reverse (list_at lists e)) (value_at values (slice_index_or driven e 0)) now (h.each e l))

pub pending_below : (driven : List ℕ) (values : List Value) (lists : List (List (ℕ × Value))) (now : ℕ) → ArePending driven values lists now → NothingBelow now lists
pending_below driven values lists now h = λ e l. none_below_of (list_at lists e) (value_at values (slice_index_or driven e 0)) now (h.each e l)

-- so they are after a round
pub round_pending : (m : Machine) (now : ℕ) (handed : List (ℕ × Value)) (s : State) → IsLater m → AreOutputs m.outputs → AreHanded m.outputs handed → length s.lists ≡ length m.outputs → All (λ n. n < length s.values) m.outputs → ArePending m.outputs s.values s.lists now
    → ArePending m.outputs (round m now handed s).values (round m now handed s).lists now
round_pending m now handed s later o h many within pending = subst (λ r. ArePending m.outputs r.values r.lists now) (sym (round-is m now handed s)) (record {
  each = λ e l.
      (let before : List Value = s.values in
      let after : List Value = values_after m now handed s in
      let stamps : List (Option Stamp) = stamps_after m now handed s in
      let left : List (List (ℕ × Value)) = map (without_due now) s.lists in
      let out : ℕ = slice_index_or m.outputs e 0 in
      let l1 : e < length left = subst (λ n. e < n) (length-each_from (element_list m now before after stamps s.states) 0 left) l in
      let l2 : e < length s.lists = subst (λ n. e < n) (length-map s.lists (without_due now)) l1 in
      let list : list_at (each_from (element_list m now before after stamps s.states) 0 left) e ≡ element_list m now before after stamps s.states e (list_at left e) =
      each_from-at (element_list m now before after stamps s.states) 0 left e [] [] l1 ∙ ap (λ n. element_list m now before after stamps s.states n (list_at left e)) (zero-add e) in
      let present : value_at after out ≡ present_after now (list_at s.lists e) (value_at before out) = round_present now m.outputs handed s.lists before e o h many within (subst (λ n. e < n) many l2) in
      let taken : IsPending (list_at left e) (value_at after out) now =
      subst (λ w. IsPending (list_at left e) w now) (sym present) (subst (λ xs. IsPending xs (present_after now (list_at s.lists e) (value_at before out)) now) (sym (left_at now s.lists e)) (pending-without_due now (list_at s.lists e) (value_at before out) (pending.each e l2))) in
      let v : Value = m.value e before after (value_at s.states e) in
      subst (λ xs. IsPending xs (value_at after out) now) (sym list)
      (pending-placed_by (m.rule e now after stamps (last_value (list_at left e) (value_at after out)) v) (list_at left e) (value_at after out) now v taken (later.later now e after stamps (last_value (list_at left e) (value_at after out)) v)));
})

pub pending_again : (m : Machine) (now : ℕ) (handed : List (ℕ × Value)) (s new : State) (fan : List (List ℕ)) (outputs : List ℕ) → IsOfCircuit m fan outputs (length s.values) (length s.lists) → AreHanded outputs handed → ArePending outputs s.values s.lists now → new ≡ round m now handed s
    → ArePending outputs new.values new.lists now
pending_again m now handed s new fan outputs circuit h pending e =
    subst (λ os. ArePending os new.values new.lists now) (sym circuit.outputs) (subst (λ r. ArePending m.outputs r.values r.lists now) (sym e)
    (round_pending m now handed s circuit.later circuit.one_driver (subst (λ os. AreHanded os handed) circuit.outputs h) (sym circuit.output_of_each)
    (subst (λ os. All (λ n. n < length s.values) os) circuit.outputs circuit.within) (subst (λ os. ArePending os s.values s.lists now) circuit.outputs pending)))

-- a round keeps how many lists and states there are
pub round_many : (m : Machine) (now : ℕ) (handed : List (ℕ × Value)) (s new : State) → new ≡ round m now handed s → (length new.lists ≡ length s.lists) × (length new.states ≡ length s.states)
round_many m now handed s new e =
    let is = e ∙ round-is m now handed s in
    let before : List Value = s.values in
    let after : List Value = values_after m now handed s in
    let left : List (List (ℕ × Value)) = map (without_due now) s.lists in (
      ap (λ r. length r.lists) is ∙ (length-each_from (element_list m now before after (stamps_after m now handed s) s.states) 0 left ∙ length-map s.lists (without_due now)),
      ap (λ r. length r.states) is ∙ length-each_from (element_value m before after) 0 s.states,
    )

pub idle_as_many : (work : WorkList) (now : ℕ) (lists left : List (List (ℕ × Value))) → left ≡ map (without_due now) lists → IsIdle work (length left) → IsIdle work (length lists)
idle_as_many work now lists left e h = subst (λ n. IsIdle work n) (ap length e ∙ length-map lists (without_due now)) h

-- after a round the engine is ready for the next
pub ready_again : (m : Machine) (now : ℕ) (handed : List (ℕ × Value)) (lists lists' : List (List (ℕ × Value))) (states states' : List Value) (nets nets' : Nets) (work : WorkList) (fan : List (List ℕ)) (outputs : List ℕ)
    → IsOfCircuit m fan outputs (length nets.values.items) (length lists) → length states ≡ length lists → AreHanded outputs handed → ArePending outputs nets.values.items lists now
    → AreNets nets' → nets'.before.items ≡ nets.values.items → IsIdle work (length lists) → state_seen nets' lists' states' ≡ round m now handed (state_seen nets lists states)
    → IsReady m fan outputs nets' work lists' states' now
ready_again m now handed lists lists' states states' nets nets' work fan outputs circuit many h pending are eb idle made =
    let s : State = state_seen nets lists states in
    let new : State = state_seen nets' lists' states' in
    let kept = round_many m now handed s new made in
    let values : length nets'.values.items ≡ length nets.values.items = are.changed.as_many ∙ ap length eb in
    record {
      circuit = subst (λ n. IsOfCircuit m fan outputs n (length lists')) (sym values) (subst (λ n. IsOfCircuit m fan outputs (length nets.values.items) n) (sym kept.0) circuit);
      state_of_each = kept.1 ∙ (many ∙ sym kept.0);
      settled = settled_again m now handed s new many made;
      nets_are = are;
      idle = subst (λ n. IsIdle work n) (sym kept.0) idle;
      in_order = pending_again m now handed s new fan outputs circuit h pending made;
    }
