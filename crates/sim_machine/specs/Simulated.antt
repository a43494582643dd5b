-- The machine and the run of a circuit. This is the only place that reads the kinds of elements.
use Rattle.std.specs.Prelude.{ℕ, ◌+◌, List, [], Bool, true, false, Option, Some, None, length, map, if◌then◌else◌}
use Rattle.sg_logic.specs.declared.values.Value.{Value}
use Rattle.sg_logic.specs.declared.values.Value.TheVariants.{X, Z}
use Rattle.sg_logic.specs.Gate.{gate_value}
use Rattle.udp_rows.specs.Meaning.{udp_next}
use Rattle.sg_delay.specs.GateDelay.{delay_to}
use Rattle.sg_delay.specs.declared.limits.PulseStyle.{PulseStyle}
use Rattle.sg_model.specs.Values.{value_at}
use Rattle.sg_model.specs.Pending.{OnEvent}
use Rattle.sg_model.specs.Machine.{Machine, State, Stamp, Rule, Inertial, Pulse}
use Rattle.sg_model.specs.Run.{Finished, run_of}
use Rattle.sg_circuit.specs.declared.nets.Driver.{Driver}
use Rattle.sg_circuit.specs.declared.nets.Driver.TheVariants as driver
use Rattle.sg_circuit.specs.Circuit.{Circuit, Kind, Gate, Udp, Pass, Leg, Path, Late, element_at}
use Rattle.sg_circuit.specs.Timings.{Timing, timing_between, limits_of}
use Rattle.pulse_list.specs.Seen.{style_seen}
use Rattle.time_checks.specs.Adjusted.{adjusted_checks}
use Rattle.time_checks.specs.declared.latest.Latest.{Latest}
use Rattle.time_checks.specs.Violations.{violations_since}
use Rattle.sim_machine.specs.Notifiers.{notifiers_of}
use Rattle.path_pick.specs.Choice.{picked}
use Rattle.path_pick.specs.declared.picking.Picked.{Picked}
use Rattle.sg_stimulus.specs.Stimulus.{Stimulus, sets_at}

-- the values of some nets
abbrev pub values_at : List ℕ → List Value → List Value
values_at nets values = map (value_at values) nets

-- the value of an element of a kind, from its inputs' values before and after a round and its last value (IEEE
-- 1364-2005, 6.1, 7.2, 7.3, clause 8)
abbrev pub value_of_kind : Kind → List Value → List Value → Value → Value
value_of_kind (Gate kind delays) before after state = gate_value kind after
value_of_kind (Udp primitive first delays) before after state = udp_next primitive before after state
value_of_kind (Pass None) before after state = value_at after 0
value_of_kind (Pass (Some value)) before after state = value
value_of_kind (Leg timings) before after state = value_at after 0
value_of_kind (Path paths style) before after state = value_at after 0
value_of_kind (Late delay) before after state = value_at after 0

-- a leg's pulse rule; an error pulse shows from its leading edge on (14.6.4.1)
abbrev pub leg_rule : ℕ → Timing → Rule
leg_rule now timing = Pulse (now + timing.delay) (limits_of timing).0 (limits_of timing).1 OnEvent

-- a delayed signal shows each change of its net so many ticks later, however short a pulse is (15.8)
abbrev pub late_rule : ℕ → ℕ → Rule
late_rule now delay = Pulse (now + delay) 0 0 OnEvent

-- the pulse rule of specify paths: by what the path that decides makes of the transition, in the output's style (14.6.4)
abbrev pub path_rule : PulseStyle → Picked → Rule
path_rule style picked = Pulse picked.time picked.reject picked.error (style_seen style)

-- by which rule an element of a kind places a value: now, with the nets' values and last changes after the round, from the
-- value that its list ends with to the new one (6.1, 7.14, 8.6, 14.3, 15.8)
abbrev pub rule_of_kind : Kind → ℕ → List Value → List (Option Stamp) → Value → Value → Rule
rule_of_kind (Gate kind delays) now after stamps from to = Inertial (now + delay_to delays to)
rule_of_kind (Udp primitive first delays) now after stamps from to = Inertial (now + delay_to delays to)
rule_of_kind (Pass constant) now after stamps from to = Inertial now
rule_of_kind (Leg timings) now after stamps from to = leg_rule now (timing_between timings from to)
rule_of_kind (Path paths style) now after stamps from to = path_rule style (picked paths after stamps now from to)
rule_of_kind (Late delay) now after stamps from to = late_rule now delay

-- the value that an element of a kind computed last, before time 0: a primitive's first state (8.5)
abbrev pub first_of_kind : Kind → Value
first_of_kind (Gate kind delays) = X
first_of_kind (Udp primitive first delays) = first
first_of_kind (Pass constant) = X
first_of_kind (Leg timings) = X
first_of_kind (Path paths style) = X
first_of_kind (Late delay) = X

-- the machine of a circuit, where this is known of the events of its checks before any snapshot; each of its reg nets that a violated check names as its notifier toggles (15.5)
abbrev pub machine_since : Circuit → List Latest → Machine
machine_since circuit earlier = record {
  inputs = map (λ e. e.inputs) circuit.elements;
  outputs = map (λ e. e.output) circuit.elements;
  value = λ e before after state. value_of_kind (element_at circuit e).kind (values_at (element_at circuit e).inputs before) (values_at (element_at circuit e).inputs after) state;
  rule = λ e now after stamps from to. rule_of_kind (element_at circuit e).kind now after stamps from to;
  violated = λ snapshots. violations_since earlier (adjusted_checks circuit) snapshots;
  notifiers = λ found. notifiers_of circuit.checks (length circuit.nets) found;
}

abbrev pub machine_of : Circuit → Machine
machine_of circuit = machine_since circuit []

-- whether anything drives a net
abbrev pub is_driven : Driver → Bool
is_driven driver.Nobody = false
is_driven driver.Stimulus = true
is_driven (driver.Element element) = true
is_driven driver.Notifier = true

-- the value of a net before time 0
abbrev pub first_value_of : Driver → Value
first_value_of driver = if is_driven driver then X else Z

-- before time 0 every driven net is x and every other z, no net has a stamp, and nothing is pending (4.2.1, 4.2.2)
abbrev pub first_state : Circuit → State
first_state circuit = record {
  values = map (λ net. first_value_of net.driver) circuit.nets;
  stamps = map (λ net. None) circuit.nets;
  lists = map (λ e. []) circuit.elements;
  states = map (λ e. first_of_kind e.kind) circuit.elements;
}

-- the run of a circuit, with a bound on the rounds of one time
abbrev pub run_of_circuit : Circuit → ℕ → Stimulus → Finished
run_of_circuit circuit bound stimulus = run_of bound (machine_of circuit) (sets_at stimulus.steps) stimulus.end (first_state circuit)
