-- The last changes of nets stay right over a round.
use Rattle.std.specs.Prelude.{◌≡◌, ℕ, ◌<◌, ◌≤◌, List, length, refl}
use Rattle.std.proofs.Common.{sym, subst, arith, inl, inr, zero-add}
use Rattle.std.proofs.lemmas.Bool.{cases_lt}
use Rattle.std.proofs.lemmas.List.{get_or_past}
use Rattle.std.specs.declared.option.Option.{Option}
use Rattle.std.specs.declared.option.Option.TheVariants.{Some, None}
use Rattle.sg_logic.specs.declared.values.Value.{Value}
use Rattle.sg_logic.specs.Values.{is_same}
use Rattle.sg_model.specs.Values.{value_at}
use Rattle.sg_model.specs.Machine.{Machine, State, Stamp}
use Rattle.sg_model.specs.Round.{stamp_after, values_after, stamps_after}
use Rattle.sg_model.proofs.PlacedLaws.{if_fact, same-true, same-false}
use Rattle.sg_circuit.specs.declared.nets.Driver.{Driver}
use Rattle.sg_circuit.specs.Circuit.{Circuit, net_at}
use Rattle.path_pick.specs.Choice.{time_of}
use Rattle.fan_round.proofs.ListLaws.{each_from-at}
use Rattle.sim_rounds.specs.Moments.{IsStampOf, stamp_at}

-- each net has the stamp of its last change
abbrev pub AreStamps : (time : ℕ) → Circuit → List Value → List (Option Stamp) → Type 0
AreStamps time c values stamps = (net : ℕ) → net < length c.nets → IsStampOf time (net_at c net).driver (value_at values net) (stamp_at stamps net)

stamp_later : (time later : ℕ) (driver : Driver) (value : Value) (stamp : Option Stamp) → time ≤ later → IsStampOf time driver value stamp → IsStampOf later driver value stamp
stamp_later time later driver value None l h = h
stamp_later time later driver value (Some s) l h = let m : s.time ≤ time = h.0 in (omega arith, h.1, h.2)

pub stamps_later : (time later : ℕ) (c : Circuit) (values : List Value) (stamps : List (Option Stamp)) → time ≤ later → AreStamps time c values stamps → AreStamps later c values stamps
stamps_later time later c values stamps l h = λ net m. stamp_later time later (net_at c net).driver (value_at values net) (stamp_at stamps net) l (h net m)

-- a net that changed gets a new one
stamp_next : (now net : ℕ) (driver : Driver) (before after : List Value) (stamp : Option Stamp) → IsStampOf now driver (value_at before net) stamp → IsStampOf now driver (value_at after net) (stamp_after now before after net stamp)
stamp_next now net driver before after stamp h =
    if_fact (IsStampOf now driver (value_at after net)) (is_same (value_at before net) (value_at after net)) stamp (Some (record { time = now; before = value_at before net; after = value_at after net }))
    (λ e. subst (λ v. IsStampOf now driver v stamp) (same-true (value_at before net) (value_at after net) e) h)
    (λ e. ((let l : now ≤ now = omega arith in l), refl, same-false (value_at before net) (value_at after net) e))

pub stamps_next : (c : Circuit) (m : Machine) (now : ℕ) (handed : List (ℕ × Value)) (s : State) → length s.stamps ≡ length c.nets → AreStamps now c s.values s.stamps → AreStamps now c (values_after m now handed s) (stamps_after m now handed s)
stamps_next c m now handed s many h = λ net l.
    (let after : List Value = values_after m now handed s in
    let at = each_from-at (stamp_after now s.values after) 0 s.stamps net None None (subst (λ n. net < n) (sym many) l) in
    subst (IsStampOf now (net_at c net).driver (value_at after net)) (sym at)
    (subst (λ n. IsStampOf now (net_at c net).driver (value_at after net) (stamp_after now s.values after n (stamp_at s.stamps net))) (sym (zero-add net)) (stamp_next now net (net_at c net).driver s.values after (stamp_at s.stamps net) (h net l))))

stamp_time : (now : ℕ) (driver : Driver) (value : Value) (stamp : Option Stamp) → IsStampOf now driver value stamp → time_of stamp ≤ now
stamp_time now driver value None h = omega arith
stamp_time now driver value (Some s) h = h.0

-- none is later than now
pub stamps_by : (now : ℕ) (c : Circuit) (values : List Value) (stamps : List (Option Stamp)) → length stamps ≡ length c.nets → AreStamps now c values stamps → (net : ℕ) → time_of (stamp_at stamps net) ≤ now
stamps_by now c values stamps many h net = elim (cases_lt net (length stamps)) [
  | inl l ↦ stamp_time now (net_at c net).driver (value_at values net) (stamp_at stamps net) (h net (subst (λ n. net < n) many l))
  | inr past ↦ subst (λ stamp. time_of stamp ≤ now) (sym (get_or_past stamps net None past)) (let l : 0 ≤ now = omega arith in l)
]
