-- The state of a circuit between rounds, and that a round keeps what is so of it.
use Rattle.std.specs.Prelude.{◌≡◌, ℕ, suc, ◌+◌, ◌-◌, ◌<◌, ◌≤◌, ◌^◌, ◌++◌, false, All, List, [], ◌∷◌, length, map, slice_index_or, slice_set, refl}
use Rattle.std.proofs.Common.{sym, ◌∙◌, ap, subst, arith, zero-add}
use Rattle.std.proofs.lemmas.List.{length-map, length-set}
use Rattle.std.specs.declared.option.Option.{Option}
use Rattle.std.specs.declared.option.Option.TheVariants.{None}
use Rattle.sg_logic.specs.declared.values.Value.{Value}
use Rattle.sg_model.specs.Values.{value_at}
use Rattle.sg_model.specs.Agenda.{list_at}
use Rattle.sg_model.specs.Pending.{last_value}
use Rattle.sg_model.specs.Machine.{Machine, State, Stamp}
use Rattle.sg_model.specs.Round.{any_due, each_from, changed_by, due_changes, without_due, element_list, element_value, stamp_after, values_after, stamps_after, round}
use Rattle.sg_model.proofs.RunSteps.{round-is}
use Rattle.sg_circuit.specs.Circuit.{Circuit, Pass, element_at}
use Rattle.sg_circuit.specs.Closed.{IsClosed}
use Rattle.path_pick.specs.Choice.{time_of, stamp_at}
use Rattle.fan_round.specs.Rounds.{AreHanded, ArePending, time_of_rule}
use Rattle.fan_round.proofs.ListLaws.{each_from-at, length-each_from}
use Rattle.fan_round.proofs.PendingLaws.{round_pending}
use Rattle.fan_round.proofs.RoundLaws.{left_at}
use Rattle.time_checks.specs.declared.latest.Latest.{Latest}
use Rattle.sim_machine.specs.Simulated.{machine_of, machine_since}
use Rattle.sim_rounds.proofs.MachineLaws.{later, length-outputs, one_driver, outputs_within}
use Rattle.sim_rounds.proofs.PendingInvariants.{all_pending_later}
use Rattle.sim_rounds.proofs.PendingTimes.{NoneAfter, none-left, none-placed_by}
use Rattle.sim_rounds.proofs.SoonLaws.{placed_soon}
use Rattle.sim_rounds.proofs.StampInvariants.{AreStamps, stamps_by, stamps_later, stamps_next}

-- the latest time at which anything may be pending
abbrev pub farthest : ℕ
farthest = 2 ^ 62 - 1

-- all lists and tables are as long as they should; no change is later than one time, and nothing is pending before another
pub record Stands (c : Circuit) (by from : ℕ) (s : State) : Type 0 where
  pub values : length s.values ≡ length c.nets
  pub stamps : length s.stamps ≡ length c.nets
  pub lists : length s.lists ≡ length c.elements
  pub states : length s.states ≡ length c.elements
  pub stamped : AreStamps by c s.values s.stamps
  pub pending : ArePending (machine_of c).outputs s.values s.lists from
  pub near : (e : ℕ) → e < length c.elements → NoneAfter farthest (list_at s.lists e)

pub stands_later : (c : Circuit) (by later from : ℕ) (s : State) → by ≤ later → Stands c by from s → Stands c later from s
stands_later c by later from s l h = record { values = h.values; stamps = h.stamps; lists = h.lists; states = h.states; stamped = stamps_later by later c s.values s.stamps l h.stamped; pending = h.pending; near = h.near }

pub stands_next : (c : Circuit) (now : ℕ) (s : State) → Stands c now now s → any_due now s.lists ≡ false → Stands c now (suc now) s
stands_next c now s h none = record {
  values = h.values;
  stamps = h.stamps;
  lists = h.lists;
  states = h.states;
  stamped = h.stamped;
  pending = all_pending_later (machine_of c).outputs s.values s.lists now h.pending none;
  near = h.near;
}

length-changed : (cs : List (ℕ × Value)) (values : List Value) → length (changed_by cs values) ≡ length values
length-changed [] values = refl
length-changed (x ∷ xs) values = length-changed xs (slice_set values x.0 x.1) ∙ length-set values x.0 x.1

module _ (c : Circuit) (closed : IsClosed c) (earlier : List Latest) (now : ℕ) (handed : List (ℕ × Value)) (s : State) where
  -- what an element's list is after a round
  list_after : ℕ → List (ℕ × Value) → List (ℕ × Value)
  list_after e list = element_list (machine_since c earlier) now s.values (values_after (machine_since c earlier) now handed s) (stamps_after (machine_since c earlier) now handed s) s.states e list

  stamped_by : Stands c now now s → (net : ℕ) → time_of (stamp_at (stamps_after (machine_since c earlier) now handed s) net) ≤ now
  stamped_by h =
      stamps_by now c (values_after (machine_since c earlier) now handed s) (stamps_after (machine_since c earlier) now handed s)
      (length-each_from (stamp_after now s.values (values_after (machine_since c earlier) now handed s)) 0 s.stamps ∙ h.stamps)
      (stamps_next c (machine_since c earlier) now handed s h.stamps h.stamped)

  -- no list has a pair too far away
  list_near : now < 2 ^ 60 → Stands c now now s → (e : ℕ) → e < length c.elements → NoneAfter farthest (list_after e (without_due now (list_at s.lists e)))
  unfolding list_after
  list_near soon h e l =
      let m : Machine = machine_since c earlier in
      let after : List Value = values_after m now handed s in
      let stamps : List (Option Stamp) = stamps_after m now handed s in
      let list : List (ℕ × Value) = without_due now (list_at s.lists e) in
      let present : Value = value_at after (slice_index_or m.outputs e 0) in
      let v : Value = m.value e s.values after (value_at s.states e) in
      let near : time_of_rule (m.rule e now after stamps (last_value list present) v) < now + 2 ^ 60 =
      placed_soon (element_at c e).kind (closed.has_delays e (record { scope = 0; inputs = []; output = 0; kind = Pass None }) l) now after stamps (last_value list present) v (stamped_by h) in
      none-placed_by farthest (m.rule e now after stamps (last_value list present) v) list present now v (none-left farthest now (list_at s.lists e) (h.near e l)) (omega arith) (omega arith)

pub round_stands : (c : Circuit) → IsClosed c → (earlier : List Latest) (now : ℕ) (handed : List (ℕ × Value)) (s : State) → now < 2 ^ 60 → AreHanded (machine_of c).outputs handed → Stands c now now s
    → Stands c now now (round (machine_since c earlier) now handed s)
unfolding list_after
round_stands c closed earlier now handed s soon free h =
    let m : Machine = machine_since c earlier in
    let after : List Value = values_after m now handed s in
    let stamps : List (Option Stamp) = stamps_after m now handed s in
    let left : List (List (ℕ × Value)) = map (without_due now) s.lists in
    let f : ℕ → List (ℕ × Value) → List (ℕ × Value) = element_list m now s.values after stamps s.states in
    let many : length (each_from f 0 left) ≡ length c.elements = length-each_from f 0 left ∙ (length-map s.lists (without_due now) ∙ h.lists) in
    let pending = round_pending m now handed s (record { later = (later c).later }) (one_driver c closed) free (h.lists ∙ sym (length-outputs c)) (subst (λ n. All (λ o. o < n) m.outputs) (sym h.values) (outputs_within c closed)) h.pending in
    subst (Stands c now now) (sym (round-is m now handed s)) (record {
      values = length-changed (due_changes now m.outputs s.lists ++ handed) s.values ∙ h.values;
      stamps = length-each_from (stamp_after now s.values after) 0 s.stamps ∙ h.stamps;
      lists = many;
      states = length-each_from (element_value m s.values after) 0 s.states ∙ h.states;
      stamped = stamps_next c m now handed s h.stamps h.stamped;
      pending = subst (λ r. ArePending (machine_of c).outputs r.values r.lists now) (round-is m now handed s) pending;
      near = λ e l.
          (let at : list_at (each_from f 0 left) e ≡ f e (without_due now (list_at s.lists e)) =
          each_from-at f 0 left e [] [] (subst (λ n. e < n) (sym (length-map s.lists (without_due now) ∙ h.lists)) l) ∙ (ap (λ n. f n (list_at left e)) (zero-add e) ∙ ap (f e) (left_at now s.lists e)) in
          subst (NoneAfter farthest) (sym at) (list_near c closed earlier now handed s soon h e l));
    })
