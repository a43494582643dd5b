-- Elements without a delay place every value at once.
use Rattle.std.specs.Prelude.{◌≡◌, ℕ, ◌+◌, ◌<◌, Bool, true, false, if◌then◌else◌, All, IsTrue, List, [], ◌∷◌, Option, length, reverse, slice_index_or, refl}
use Rattle.std.specs.Bool.{OnTrue}
use Rattle.std.proofs.lemmas.List.{get_or-map}
use Rattle.std.proofs.Common.{sym, ◌∙◌, ap, arith, add-zero}
use Rattle.sg_logic.specs.declared.values.Value.{Value}
use Rattle.sg_logic.specs.declared.values.Value.TheVariants.{Zero, One, X, Z}
use Rattle.sg_logic.specs.Values.{is_same}
use Rattle.sg_model.specs.Pending.{last_value, put, placed_latest_first}
use Rattle.sg_model.specs.Agenda.{with_list}
use Rattle.sg_model.specs.Machine.{Stamp, Rule, Inertial, Pulse}
use Rattle.sg_model.specs.Round.{placed_by}
use Rattle.fan_round.specs.Rounds.{time_of_rule}
use Rattle.sg_circuit.specs.Circuit.{Kind}
use Rattle.sg_circuit.specs.Seen.{kind_seen}
use Rattle.sg_circuit.specs.TimingsSeen.{leg_timing_seen, timings_at}
use Rattle.sg_circuit.specs.declared.elements.LegTiming.{LegTiming}
use Rattle.sg_circuit.specs.declared.elements.ElementKind.{ElementKind}
use Rattle.sg_circuit.specs.declared.elements.ElementKind.TheVariants as kind
use Rattle.sg_circuit.specs.declared.circuits.Parts.{Parts}
use Rattle.sim_machine.specs.AtOnce.{IsAtOnce, IsUndelayed}
use Rattle.sim_machine.specs.Simulated.{rule_of_kind}

-- what holds of the four values holds of every
abbrev pub four : List Value
four = Zero ∷ One ∷ X ∷ Z ∷ []

pub of_every : (P : Value → Type 0) → All P four → (v : Value) → P v
of_every P h Zero = h 0 Zero (omega arith)
of_every P h One = h 1 Zero (omega arith)
of_every P h X = h 2 Zero (omega arith)
of_every P h Z = h 3 Zero (omega arith)

one_put : (p : ℕ × Value) (b : Bool) → reverse (if b then [] else (p ∷ [])) ≡ (if b then [] else (p ∷ []))
one_put p true = refl
one_put p false = refl

-- what stands at a place of the table
pub timings-at : (table : List LegTiming) (place : ℕ) (t : LegTiming) → place < length table → t ≡ slice_index_or table place t → leg_timing_seen t ≡ timings_at table place
timings-at table place t l is = ap (λ x. leg_timing_seen x) is ∙ sym (get_or-map (λ (x : LegTiming). leg_timing_seen x) table place t [] l)

-- where nothing is pending a value is placed at the time of its rule
pub placed_first : (rule : Rule) (present : Value) (now : ℕ) (v : Value) → time_of_rule rule ≡ now → placed_by rule [] present now v ≡ put [] present now v
unfolding placed_latest_first
placed_first (Inertial time) present now v e = one_put (time, v) (is_same present v) ∙ ap (λ t. put [] present t v) e
placed_first (Pulse time reject error style) present now v e = one_put (time, v) (is_same present v) ∙ ap (λ t. put [] present t v) e

-- so it is of an element that places every value at once
pub placed_at_once : (kind : Kind) (now : ℕ) (after : List Value) (stamps : List (Option Stamp)) (list : List (ℕ × Value)) (present v : Value) (table : List (List (ℕ × Value))) (e : ℕ) → IsAtOnce kind → list ≡ []
    → with_list table e (put [] present now v) ≡ with_list table e (placed_by (rule_of_kind kind now after stamps (last_value list present) v) list present now v)
placed_at_once kind now after stamps list present v table e is none =
    ap (λ xs. with_list table e xs)
    (sym (placed_first (rule_of_kind kind now after stamps (last_value [] present) v) present now v (is.time now after stamps (last_value [] present) v))
    ∙ ap (λ xs. placed_by (rule_of_kind kind now after stamps (last_value xs present) v) xs present now v) (sym none))

-- an element without a delay is one
pub undelayed_at_once : (parts : Parts) (k : ElementKind) → IsUndelayed parts k → IsAtOnce (kind_seen parts k)
undelayed_at_once parts (kind.Gate gate delays) h = record { time = λ now after stamps from to. ap (λ d. now + d) (h to) ∙ add-zero now }
undelayed_at_once parts (kind.Udp udp delays) h = record { time = λ now after stamps from to. ap (λ d. now + d) (h to) ∙ add-zero now }
undelayed_at_once parts (kind.Pass constant) h = record { time = λ now after stamps from to. refl }
undelayed_at_once parts (kind.Leg timing) h = record { time = λ now after stamps from to. ap (λ d. now + d) (h from to) ∙ add-zero now }
undelayed_at_once parts (kind.Path paths style) h = absurd h
undelayed_at_once parts (kind.Late delay) h = record { time = λ now after stamps from to. ap (λ d. now + d) h ∙ add-zero now }

pub when_true : (b : Bool) (P : Type 0) → (IsTrue b → P) → OnTrue b P
when_true true P f = f refl
when_true false P f = tt

pub of_true : (b : Bool) (P : Type 0) → IsTrue b → OnTrue b P → P
of_true true P t h = h
of_true false P t h = cc

pub when_true_then : (b : Bool) (P Q : Type 0) → (P → Q) → OnTrue b P → OnTrue b Q
when_true_then true P Q f h = f h
when_true_then false P Q f h = tt
