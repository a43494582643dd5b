-- Timing checks as they look at a circuit: those that take limits below 0 see delayed copies of their signals, and limits that are moved by the delays (IEEE 1364-2005, 15.8).
use Rattle.std.specs.Prelude.{ℕ, ◌==◌, ◌&&◌, ℤ, pos, ◌+ℤ◌, ◌-ℤ◌, Bool, List, map, Option, Some, None, slice_index_or, if◌then◌else◌}
use Rattle.std.specs.List.{enumerate_from, list_any}
use Rattle.std.specs.Option.{option_map}
use Rattle.sg_circuit.specs.declared.checks.CheckKind.{CheckKind}
use Rattle.sg_circuit.specs.declared.checks.CheckTiming.{CheckTiming}
use Rattle.sg_circuit.specs.declared.checks.Event.{Event}
use Rattle.sg_circuit.specs.declared.checks.Zero.{Zero}
use Rattle.sg_circuit.specs.Circuit.{Circuit, Kind, Late, element_at}
use Rattle.time_checks.specs.declared.violations.Part.{Part}
use Rattle.time_checks.specs.declared.violations.Part.TheVariants.{Setup, Hold, Recovery, Removal}
use Rattle.time_checks.specs.Parts.{parts_of}

-- A check: the events that it sees, its limits as they are told, and the windows that decide; how late its signals are seen. Its conditions read nets that aren't delayed.
pub record AdjustedCheck : Type 0 where
  pub kind : CheckKind
  pub refer : Event
  pub datum : Option Event
  pub limits : List ℤ
  pub windows : List ℤ
  pub threshold : ℕ
  pub refer_delay : ℕ
  pub datum_delay : ℕ

-- an event is seen at what a Late drives
abbrev pub seen_at : Circuit → ℕ → Event → Event
seen_at c late e = record e { net = (element_at c late).output }

abbrev pub delay_of : Kind → ℕ
delay_of (Late delay) = delay
delay_of _ = 0

abbrev pub late_delay : Circuit → ℕ → ℕ
late_delay c late = delay_of (element_at c late).kind

-- a limit, or 0 where it is taken as that
abbrev pub is_zeroed : List Zero → (check part : ℕ) → Bool
is_zeroed zeroed check part = list_any (λ z. (z.check == check) && (z.part == part)) zeroed

abbrev pub limit_left : List Zero → (check part : ℕ) → ℤ → ℤ
limit_left zeroed check part limit = if is_zeroed zeroed check part then pos 0 else limit

-- A limit between the delayed signals. Of setup it is the longer, the later the reference is seen, and the shorter, the later the data is; of hold it is the other way. The clock of recrem
-- takes the place of the data, removal that of setup and recovery that of hold.
abbrev pub moved : Part → (refer_delay datum_delay : ℕ) → ℤ → ℤ
moved Setup r d limit = (limit +ℤ pos r) -ℤ pos d
moved Removal r d limit = (limit +ℤ pos r) -ℤ pos d
moved Hold r d limit = (limit -ℤ pos r) +ℤ pos d
moved Recovery r d limit = (limit -ℤ pos r) +ℤ pos d
moved _ r d limit = limit

abbrev pub window_of : List Zero → ℕ → CheckTiming → (refer_delay datum_delay : ℕ) → ℕ × Part → ℤ
window_of zeroed check t r d (place, part) = moved part r d (limit_left zeroed check place (slice_index_or t.limits place (pos 0)))

abbrev pub delayed_check : Circuit → ℕ → CheckTiming → (refer_late datum_late : ℕ) → AdjustedCheck
delayed_check c check t refer datum = record {
  kind = t.kind;
  refer = seen_at c refer t.refer;
  datum = option_map (seen_at c datum) t.datum;
  limits = t.limits;
  windows = map (window_of c.zeroed check t (late_delay c refer) (late_delay c datum)) (enumerate_from 0 (parts_of t.kind));
  threshold = t.threshold;
  refer_delay = late_delay c refer;
  datum_delay = late_delay c datum;
}

-- without Lates its windows are its limits
abbrev pub plain_check : CheckTiming → AdjustedCheck
plain_check t = record { kind = t.kind; refer = t.refer; datum = t.datum; limits = t.limits; windows = t.limits; threshold = t.threshold; refer_delay = 0; datum_delay = 0 }

abbrev pub check_by : Circuit → ℕ → CheckTiming → Option (List ℕ) → AdjustedCheck
check_by c check t None = plain_check t
check_by c check t (Some lates) = delayed_check c check t (slice_index_or lates 0 0) (slice_index_or lates 1 0)

abbrev pub adjusted_check : Circuit → ℕ × CheckTiming → AdjustedCheck
adjusted_check c (check, t) = check_by c check t t.late

-- all checks of a circuit
abbrev pub adjusted_checks : Circuit → List AdjustedCheck
adjusted_checks c = map (adjusted_check c) (enumerate_from 0 c.check_timings)
