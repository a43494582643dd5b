-- The lines of a chain of causes: one for each event.
use Rattle.std.specs.Prelude.{ℕ, ◌+◌, ◌==◌, Bool, true, false, ◌&&◌, if◌then◌else◌, List, [], ◌∷◌, ◌++◌, Option, Some, None, codes, decimal, find, max, slice_index_or}
use Rattle.sg_logic.specs.declared.values.Value.{Value}
use Rattle.sg_model.specs.Machine.{Violation}
use Rattle.sg_circuit.specs.declared.nets.Driver.{Driver}
use Rattle.sg_circuit.specs.declared.nets.Driver.TheVariants as driver
use Rattle.sg_circuit.specs.declared.checks.CheckTiming.{CheckTiming}
use Rattle.sg_circuit.specs.declared.checks.CheckKind.TheVariants as check
use Rattle.sg_circuit.specs.Circuit.{Circuit, Element, Kind, Gate, Udp, Pass, Leg, Path, Late, element_at, net_at}
use Rattle.time_checks.specs.Adjusted.{late_delay}
use Rattle.wave_out.specs.Texts.{line}
use Rattle.wave_out.specs.Vcd.{value_letter}
use Rattle.run_report.specs.Report.{check_at, net_text, violation_line}
use Rattle.why_causes.specs.declared.events.Event.{Event}
use Rattle.why_causes.specs.declared.links.Cause.{Cause}
use Rattle.why_causes.specs.declared.links.Cause.TheVariants.{Nothing, NeverSet, Linked}
use Rattle.why_causes.specs.declared.links.Link.{Link}
use Rattle.why_causes.specs.Waveform.{Waveform, event_at, value_at}
use Rattle.why_text.specs.Pins.{instance_text, way_text}

-- how each line begins: when which net took which value
abbrev pub front : Circuit → ℕ → ℕ → Value → List ℕ
front c time net value = decimal time ++ codes " " ++ net_text c net ++ codes " " ++ value_letter value ∷ []

abbrev pub event_front : Circuit → Event → List ℕ
event_front c e = front c e.time e.net e.value

-- an event with its cause: the element through which it came, and how long that took
abbrev pub through_line : Circuit → Waveform → Event → Link → List ℕ
through_line c w e link =
    line (event_front c e ++ codes " through " ++ way_text c (element_at c link.element) (event_at w link.event).net ++ codes " delay " ++ decimal link.delay)

-- an event that stands in the chain already
abbrev pub again_line : Circuit → Event → List ℕ
again_line c e = line (event_front c e ++ codes " .. again")

-- Which violation toggled a notifier (15.5): the first that names it and was found at that time, when the later of its signals changed as the check sees
-- them (15.8).

-- what the check of a number looks for; past the end a blank
abbrev pub timing_at : Circuit → ℕ → CheckTiming
timing_at c number = slice_index_or c.check_timings number (record { kind = check.Setup; refer = record { net = 0; edge = None; condition = None }; datum = None; limits = []; threshold = 0; late = None })

-- how late it sees its reference and its data: 0 where it has no delayed copies
abbrev pub delay_by : Circuit → ℕ → Option (List ℕ) → ℕ
delay_by c place None = 0
delay_by c place (Some lates) = late_delay c (slice_index_or lates place 0)

abbrev pub found_time : Circuit → Violation → ℕ
found_time c v =
    max (v.refer_time + delay_by c 0 (timing_at c v.check).late) (v.datum_time + delay_by c 1 (timing_at c v.check).late)

abbrev pub is_net : ℕ → Option ℕ → Bool
is_net net None = false
is_net net (Some notifier) = notifier == net

abbrev pub toggles : Circuit → Event → Violation → Bool
toggles c e v = is_net e.net (check_at c v.check).notifier && found_time c v == e.time

-- with its line of the report
abbrev pub toggled_line : Circuit → Event → Option Violation → List ℕ
toggled_line c e None = line (event_front c e ++ codes " toggled")
toggled_line c e (Some v) = event_front c e ++ codes " toggled by " ++ violation_line c v

-- whether an element of a kind drives a constant
abbrev pub drives_constant : Kind → Bool
drives_constant (Pass (Some value)) = true
drives_constant _ = false

-- an event that no other caused: what the stimulus sets, what an element drives as a constant, or comes to before any input changed
abbrev pub set_line : Circuit → Event → List ℕ
set_line c e = line (event_front c e ++ codes " set by the stimulus")

abbrev pub start_line : Circuit → Event → List ℕ
start_line c e = line (event_front c e ++ codes " from the start")

abbrev pub constant_line : Circuit → Event → Element → List ℕ
constant_line c e element = line (event_front c e ++ codes " constant in " ++ instance_text c element.scope)

abbrev pub first_line : Circuit → Event → Element → List ℕ
first_line c e element = if drives_constant element.kind then constant_line c e element else start_line c e

-- by what drives its net
abbrev pub driven_line : Circuit → List Violation → Event → Driver → List ℕ
driven_line c vs e driver.Nobody = start_line c e
driven_line c vs e driver.Stimulus = set_line c e
driven_line c vs e (driver.Element number) = first_line c e (element_at c number)
driven_line c vs e driver.Notifier = toggled_line c e (find (toggles c e) vs)

-- the input of an element
abbrev pub input_at : Element → ℕ → ℕ
input_at element place = slice_index_or element.inputs place 0

-- the lines of the last event of a chain, by its cause
abbrev pub last_lines : Circuit → Waveform → List Violation → Event → Cause → List ℕ
last_lines c w vs e Nothing = driven_line c vs e (net_at c e.net).driver
last_lines c w vs e (NeverSet element input) =
    line (event_front c e ++ codes " through " ++ way_text c (element_at c element) (input_at (element_at c element) input) ++ codes " never set")
last_lines c w vs e (Linked link) = through_line c w e link ++ again_line c (event_at w link.event)

-- the lines of a chain, from the event of a number on
abbrev pub chain_lines : Circuit → Waveform → List Violation → ℕ → List Link → Cause → List ℕ
chain_lines c w vs event [] end = last_lines c w vs (event_at w event) end
chain_lines c w vs event (link ∷ links) end = through_line c w (event_at w event) link ++ chain_lines c w vs link.event links end

-- a net that didn't change up to a time
abbrev pub unchanged_line : Circuit → Waveform → ℕ → ℕ → List ℕ
unchanged_line c w net time = line (front c time net (value_at w net time) ++ codes " no change")
