-- What is told of a violation: the chains of its data and of its reference, where they part, and the times from there.
use Rattle.std.specs.Prelude.{ℕ, ◌+◌, ◌-◌, ◌==◌, ◌≡◌, ℤ, pos, ◌-ℤ◌, if◌then◌else◌, List, [], ◌∷◌, ◌++◌, Option, Some, None, codes, decimal, filter_map, find, length, map, slice_get}
use Rattle.std.specs.Fmt.{signed_decimal}
use Rattle.std.specs.Option.{option_map}
use Rattle.sg_model.specs.Machine.{Violation}
use Rattle.sg_circuit.specs.declared.checks.Event as check
use Rattle.sg_circuit.specs.Circuit.{Circuit}
use Rattle.time_checks.specs.declared.violations.Part.TheVariants.{Setup, Removal, Skew}
use Rattle.time_checks.specs.Parts.{part_number}
use Rattle.wave_out.specs.Texts.{line}
use Rattle.run_report.specs.Report.{net_text}
use Rattle.why_causes.specs.declared.events.Event.{Event}
use Rattle.why_causes.specs.Waveform.{Waveform, event_at}
use Rattle.why_text.specs.Lines.{timing_at}
use Rattle.why_text.specs.Told.{IsTold}

-- the nets of a violation's reference and data: width and period have one event (IEEE 1364-2005, 15.2, 15.3)
abbrev pub net_or : ℕ → Option check.Event → ℕ
net_or net None = net
net_or net (Some e) = e.net

abbrev pub refer_net : Circuit → Violation → ℕ
refer_net c v = (timing_at c v.check).refer.net

abbrev pub datum_net : Circuit → Violation → ℕ
datum_net c v = net_or (refer_net c v) (timing_at c v.check).datum

-- the first event of a chain, from its end backwards, that is one of a net
abbrev pub event_on : Waveform → List ℕ → ℕ → Option Event
event_on w events net = find (λ (e : Event). e.net == net) (map (event_at w) events)

-- with the data's event of the same net
abbrev pub both_on : Waveform → List ℕ → Event → Option (Event × Event)
both_on w refers e = option_map (λ r. (e, r)) (event_on w refers e.net)

-- where two chains part: the data's last event of a net that the reference's chain has an event of too, and the last of these
abbrev pub parting : Waveform → (data_events refer_events : List ℕ) → Option (Event × Event)
parting w data_events refer_events = slice_get (filter_map (both_on w refer_events) (map (event_at w) data_events)) 0

-- when a chain begins: at its first event, and where it has none at its end
abbrev pub time_or : ℕ → Option Event → ℕ
time_or time None = time
time_or time (Some e) = e.time

abbrev pub begin : Waveform → List ℕ → ℕ → ℕ
begin w events time = time_or time (option_map (event_at w) (slice_get events (length events - 1)))

-- the times of data and reference from which both are counted: where they part, or where each begins
abbrev pub starts : Waveform → Violation → (data_events refer_events : List ℕ) → Option (Event × Event) → ℕ × ℕ
starts w v data_events refer_events None = (begin w data_events v.datum_time, begin w refer_events v.refer_time)
starts w v data_events refer_events (Some both) = (both.0.time, both.1.time)

-- how far the events of a part are from one another in the direction in which its limit forbids less; of skew, which forbids more, by how much it is more
-- (15.2.1 to 15.3.5)
abbrev pub shortage : Violation → ℤ
shortage v =
    if v.part == part_number Setup then v.limit -ℤ (pos v.refer_time -ℤ pos v.datum_time)
    else if v.part == part_number Removal then v.limit -ℤ (pos v.refer_time -ℤ pos v.datum_time)
    else if v.part == part_number Skew then (pos v.datum_time -ℤ pos v.refer_time) -ℤ v.limit
    else v.limit -ℤ (pos v.datum_time -ℤ pos v.refer_time)

abbrev pub part_line : Circuit → Option (Event × Event) → List ℕ
part_line c None = codes "part none\n"
part_line c (Some both) = line (codes "part " ++ net_text c both.0.net ++ codes " " ++ decimal both.0.time ++ codes " " ++ decimal both.1.time)

-- how long data and reference took from there, how far apart they were there, and how much the distance of their events falls short of the limit
abbrev pub sums : Violation → ℕ × ℕ → List ℕ
sums v from =
    line (codes "data " ++ decimal (v.datum_time - from.0))
    ++ line (codes "reference " ++ decimal (v.refer_time - from.1))
    ++ line (codes "apart " ++ signed_decimal (pos from.1 -ℤ pos from.0))
    ++ line (codes "short by " ++ signed_decimal (shortage v))

abbrev pub parting_lines : Circuit → Waveform → Violation → (data_events refer_events : List ℕ) → List ℕ
parting_lines c w v data_events refer_events =
    part_line c (parting w data_events refer_events) ++ sums v (starts w v data_events refer_events (parting w data_events refer_events))

pub record IsToldViolation (c : Circuit) (w : Waveform) (vs : List Violation) (v : Violation) (text : List ℕ) : Type 0 where
  pub data_events : List ℕ
  pub data_text : List ℕ
  pub refer_events : List ℕ
  pub refer_text : List ℕ
  pub data_told : IsTold c w vs (datum_net c v) v.datum_time data_events data_text
  pub refer_told : IsTold c w vs (refer_net c v) v.refer_time refer_events refer_text
  pub text_is : text ≡ codes "data\n" ++ data_text ++ codes "reference\n" ++ refer_text ++ parting_lines c w v data_events refer_events
