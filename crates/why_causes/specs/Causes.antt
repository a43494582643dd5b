-- The cause of a change: an event of an input of the element that drives the net. Four rules look for one, and the first that finds one decides.
use Rattle.std.specs.Prelude.{ℕ, suc, ◌+◌, ◌-◌, ◌==◌, Bool, true, false, ◌&&◌, not, if◌then◌else◌, List, [], ◌∷◌, ◌++◌, map, take, drop, filter, filter_map, Option, Some, None, is_none, slice_get}
use Rattle.std.specs.List.{enumerate_from, last_or}
use Rattle.std.specs.Option.{option_and_then}
use Rattle.sg_logic.specs.declared.values.Value.{Value}
use Rattle.sg_logic.specs.declared.values.Value.TheVariants.{X}
use Rattle.sg_logic.specs.Values.{is_same}
use Rattle.sg_delay.specs.GateDelay.{delay_to}
use Rattle.udp_rows.specs.Meaning.{Primitive, udp_next}
use Rattle.sg_circuit.specs.Timings.{timing_between}
use Rattle.sg_circuit.specs.Paths as specify
use Rattle.sg_circuit.specs.declared.nets.Driver.{Driver}
use Rattle.sg_circuit.specs.declared.nets.Driver.TheVariants as driver
use Rattle.sg_circuit.specs.Circuit.{Circuit, Element, Kind, Gate, Udp, Pass, Leg, Path, Late, net_at, element_at}
use Rattle.why_causes.specs.declared.events.Event.{Event}
use Rattle.why_causes.specs.declared.changes.Change.{Change}
use Rattle.why_causes.specs.declared.changes.Candidate.{Candidate}
use Rattle.why_causes.specs.declared.links.Rule.{Rule}
use Rattle.why_causes.specs.declared.links.Rule.TheVariants as rule
use Rattle.why_causes.specs.declared.links.Cause.{Cause}
use Rattle.why_causes.specs.declared.links.Cause.TheVariants.{Nothing, NeverSet, Linked}
use Rattle.why_causes.specs.Waveform.{Waveform, value_before, value_at, last_before, event_at}
use Rattle.why_causes.specs.Candidates.{time_of, inputs_of, last_of, last_of_each, latest, earliest}

-- the change that an event makes
abbrev pub change_of : Waveform → Event → Change
change_of w e = record { time = e.time; from = value_before w e.net e.time; to = e.value }

-- an event so long before a change, or earlier, is one before this time; where the change comes too soon for that there is none
abbrev pub limit_of : ℕ → Change → ℕ
limit_of delay change = change.time + 1 - delay

-- what a rule found for a change of an element's output
abbrev pub found : ℕ → Change → Rule → Option Candidate → Cause
found element change by None = Nothing
found element change by (Some c) = Linked (record { event = c.number; element = element; input = c.input; rule = by; delay = change.time - time_of c })

-- First, to x: the inputs that are x at the time of the change. A notifier that no violation toggled yet is no such input: each flip-flop
-- that fares well has one (15.5).
abbrev pub is_notifier : Driver → Bool
is_notifier driver.Nobody = false
is_notifier driver.Stimulus = false
is_notifier (driver.Element number) = false
is_notifier driver.Notifier = true

abbrev pub is_idle : Circuit → Waveform → ℕ → ℕ → Bool
is_idle circuit w time net = is_notifier (net_at circuit net).driver && is_none (last_before w net (time + 1))

abbrev pub is_unknown : Circuit → Waveform → ℕ → ℕ → Bool
is_unknown circuit w time net = is_same (value_at w net time) X && not (is_idle circuit w time net)

abbrev pub unknown_inputs : Circuit → Waveform → ℕ → List (ℕ × ℕ) → List (ℕ × ℕ)
unknown_inputs circuit w time inputs = filter (λ i. is_unknown circuit w time i.1) inputs

-- Of these the first that no event made x: it was so from the start, and the search ends there. Else the one that became x first.
abbrev pub never_set : Waveform → ℕ → List (ℕ × ℕ) → Option (ℕ × ℕ)
never_set w time inputs = slice_get (filter (λ i. is_none (last_before w i.1 (time + 1))) inputs) 0

abbrev pub became_first : Waveform → ℕ → List (ℕ × ℕ) → Option Candidate
became_first w time inputs = slice_get (earliest (last_of_each w (time + 1) inputs)) 0

abbrev pub never_or_first : ℕ → Change → Option (ℕ × ℕ) → Option Candidate → Cause
never_or_first element change None first = found element change rule.Unknown first
never_or_first element change (Some input) first = NeverSet element input.0

abbrev pub by_unknown_inputs : Waveform → ℕ → Change → List (ℕ × ℕ) → Cause
by_unknown_inputs w element change unknown = never_or_first element change (never_set w change.time unknown) (became_first w change.time unknown)

abbrev pub by_unknown : Circuit → Waveform → ℕ → Element → Change → Cause
by_unknown circuit w number element change =
    if is_same change.to X then by_unknown_inputs w number change (unknown_inputs circuit w change.time (inputs_of element)) else Nothing

-- Second, of specify paths: an event of the path's input exactly as long before the change as the path's delay for it.
abbrev pub exactly : ℕ → Change → Candidate → Option Candidate
exactly delay change c = if time_of c + delay == change.time then Some c else None

abbrev pub path_delay : specify.Path → Change → ℕ
path_delay path change = (timing_between path.timings change.from change.to).delay

abbrev pub through_path : Waveform → Change → ℕ × specify.Path → Option Candidate
through_path w change path =
    option_and_then (exactly (path_delay path.1 change) change) (last_of w (limit_of (path_delay path.1 change) change) (path.0, path.1.input))

-- of the paths the one with the latest such event, the first among equals
abbrev pub picked_path : Waveform → Change → List specify.Path → Option Candidate
picked_path w change paths = slice_get (latest (filter_map (through_path w change) (enumerate_from 0 paths))) 0

abbrev pub by_path : Waveform → ℕ → Kind → Change → Cause
by_path w number (Path paths style) change = found number change rule.Path (picked_path w change paths)
by_path w number _ change = Nothing

-- Third and last: the inputs that changed last of all, long enough before the change. How long the element takes for it; a Path's
-- input is the net inside, at any time before.
abbrev pub delay_of : Kind → Change → ℕ
delay_of (Gate kind delays) change = delay_to delays change.to
delay_of (Udp primitive first delays) change = delay_to delays change.to
delay_of (Pass constant) change = 0
delay_of (Leg timings) change = (timing_between timings change.from change.to).delay
delay_of (Path paths style) change = 0
delay_of (Late delay) change = delay

abbrev pub last_inputs : Waveform → Element → Change → List Candidate
last_inputs w element change = latest (last_of_each w (limit_of (delay_of element.kind change) change) (inputs_of element))

-- The state of a primitive from which the change went, when of its inputs those below k have their new values and the others
-- still their old ones; and whether it is another once input k has its new value.
abbrev pub state_when_taken : Primitive → List Value → List Value → Value → ℕ → Value
state_when_taken udp old new state k = udp_next udp old (take k new ++ drop k old) state

abbrev pub is_step : Primitive → List Value → List Value → Value → ℕ → Bool
is_step udp old new state k = not (is_same (state_when_taken udp old new state k) (state_when_taken udp old new state (suc k)))

-- of the inputs of a sequential primitive that changed at a time, taken in port order, the last whose step changed the state
abbrev pub stepping : Waveform → Primitive → List ℕ → Value → ℕ → List Candidate → List Candidate
stepping w udp nets state time cs = filter (λ c. is_step udp (map (λ n. value_before w n time) nets) (map (λ n. value_at w n time) nets) state c.input) cs

-- where none did, the last that changed
abbrev pub last_step : Waveform → Primitive → List ℕ → Value → List Candidate → Option Candidate
last_step w udp nets state [] = None
last_step w udp nets state (c ∷ cs) = last_or (last_or None (c ∷ cs)) (stepping w udp nets state (time_of c) (c ∷ cs))

-- of all others the first that changed
abbrev pub by_primitive : Waveform → ℕ → Element → Primitive → Change → Cause
by_primitive w number element udp change =
    if udp.sequential then found number change rule.Step (last_step w udp element.inputs change.from (last_inputs w element change))
    else found number change rule.Latest (slice_get (last_inputs w element change) 0)

abbrev pub by_inputs : Waveform → ℕ → Element → Kind → Change → Cause
by_inputs w number element (Udp udp first delays) change = by_primitive w number element udp change
by_inputs w number element _ change = found number change rule.Latest (slice_get (last_inputs w element change) 0)

-- the first that was found
abbrev pub or_else : Cause → Cause → Cause
or_else Nothing other = other
or_else (NeverSet element input) other = NeverSet element input
or_else (Linked link) other = Linked link

-- the cause of a change of the output of the element of a number
abbrev pub cause_through : Circuit → Waveform → ℕ → Change → Cause
cause_through circuit w number change =
    or_else (by_unknown circuit w number (element_at circuit number) change)
    (or_else (by_path w number (element_at circuit number).kind change)
    (by_inputs w number (element_at circuit number) (element_at circuit number).kind change))

-- what no element drives has none
abbrev pub cause_by : Circuit → Waveform → Driver → Change → Cause
cause_by circuit w driver.Nobody change = Nothing
cause_by circuit w driver.Stimulus change = Nothing
cause_by circuit w (driver.Element number) change = cause_through circuit w number change
cause_by circuit w driver.Notifier change = Nothing

-- the cause of an event
abbrev pub cause_of : Circuit → Waveform → Event → Cause
cause_of circuit w e = cause_by circuit w (net_at circuit e.net).driver (change_of w e)

abbrev pub cause : Circuit → Waveform → ℕ → Cause
cause circuit w number = cause_of circuit w (event_at w number)
