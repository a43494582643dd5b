-- Elements that place every value at once.
use Rattle.std.specs.Prelude.{◌≡◌, ℕ, Option, List}
use Rattle.sg_logic.specs.declared.values.Value.{Value}
use Rattle.sg_delay.specs.GateDelay.{delay_to}
use Rattle.sg_model.specs.Machine.{Stamp}
use Rattle.sg_circuit.specs.Circuit.{Kind}
use Rattle.sg_circuit.specs.Seen.{delays_at}
use Rattle.sg_circuit.specs.Timings.{timing_between}
use Rattle.sg_circuit.specs.TimingsSeen.{timings_at}
use Rattle.sg_circuit.specs.declared.elements.ElementKind.{ElementKind}
use Rattle.sg_circuit.specs.declared.elements.ElementKind.TheVariants as kind
use Rattle.sg_circuit.specs.declared.circuits.Parts.{Parts}
use Rattle.fan_round.specs.Rounds.{time_of_rule}
use Rattle.sim_machine.specs.Simulated.{rule_of_kind}

-- an element of this kind places every value at once
pub record IsAtOnce (kind : Kind) : Type 0 where
  pub time : (now : ℕ) (after : List Value) (stamps : List (Option Stamp)) (from to : Value) → time_of_rule (rule_of_kind kind now after stamps from to) ≡ now

-- none of its delays is above 0; that of a path is not looked at
abbrev pub IsUndelayed : Parts → ElementKind → Type 0
IsUndelayed parts (kind.Gate gate delays) = (to : Value) → delay_to (delays_at parts.gate_delays.items delays) to ≡ 0
IsUndelayed parts (kind.Udp udp delays) = (to : Value) → delay_to (delays_at parts.gate_delays.items delays) to ≡ 0
IsUndelayed parts (kind.Pass constant) = Unit {0}
IsUndelayed parts (kind.Leg timing) = (from to : Value) → (timing_between (timings_at parts.leg_timings.items timing) from to).delay ≡ 0
IsUndelayed parts (kind.Path paths style) = ⊥
IsUndelayed parts (kind.Late delay) = delay ≡ 0
