-- The text of a report (its form is this project's; the timing checks' violations as in IEEE 1364-2005, 15).
use Rattle.std.specs.Prelude.{ℕ, zero, suc, max, List, [], ◌++◌, length, Option, Some, None, codes, decimal, flat_map, ◌==◌, if◌then◌else◌, slice_index_or}
use Rattle.std.specs.Fmt.{signed_decimal}
use Rattle.sg_model.specs.Machine.{Violation}
use Rattle.sg_model.specs.Run.{Finished}
use Rattle.sg_circuit.specs.declared.checks.Check.{Check}
use Rattle.sg_circuit.specs.declared.checks.CheckKind.{CheckKind}
use Rattle.sg_circuit.specs.declared.checks.CheckKind.TheVariants as check
use Rattle.sg_circuit.specs.declared.checks.Terminal.{Terminal}
use Rattle.sg_circuit.specs.declared.checks.Zero.{Zero}
use Rattle.sg_circuit.specs.Circuit.{Circuit, scope_at, net_at}
use Rattle.time_checks.specs.declared.violations.Part.{Part}
use Rattle.time_checks.specs.declared.violations.Part.TheVariants.{Setup, Hold, Recovery, Removal, Width, Period, Skew}
use Rattle.time_checks.specs.Parts.{part_number}
use Rattle.wave_out.specs.Texts.{line}
use Rattle.run_report.specs.Texts.{bit_text}

-- an entry of the SDF that matched nothing: its line and its word
pub record Unmatched : Type 0 where
  pub line : ℕ
  pub word : List ℕ

-- the check of a number; past the end a blank
abbrev pub check_at : Circuit → ℕ → Check
check_at circuit c = slice_index_or circuit.checks c (record { scope = 0; kind = check.Setup; refer = record { name = []; bit = None }; datum = None; notifier = None; place = record { file = 0; byte = 0 } })

-- the terminal of a check's data event: for width and period that of its one event (15.2, 15.3)
abbrev pub terminal_or : Terminal → Option Terminal → Terminal
terminal_or refer None = refer
terminal_or refer (Some datum) = datum

abbrev pub datum_of : Check → Terminal
datum_of check = terminal_or check.refer check.datum

-- the word of a part by its number
abbrev pub part_word : ℕ → List ℕ
part_word n =
    if n == part_number Setup then codes "setup"
    else if n == part_number Hold then codes "hold"
    else if n == part_number Recovery then codes "recovery"
    else if n == part_number Removal then codes "removal"
    else if n == part_number Width then codes "width"
    else if n == part_number Period then codes "period"
    else codes "skew"

-- the part that a limit of a check is, by its place in the text: of two limits the second is another part (15.2.3, 15.2.6)
abbrev pub limit_part : CheckKind → ℕ → Part
limit_part check.Setuphold n = if n == 0 then Setup else Hold
limit_part check.Recrem n = if n == 0 then Recovery else Removal
limit_part check.Setup n = Setup
limit_part check.Hold n = Hold
limit_part check.Recovery n = Recovery
limit_part check.Removal n = Removal
limit_part check.Skew n = Skew
limit_part check.Width n = Width
limit_part check.Period n = Period

-- a path that goes on below another one, if there is one
abbrev pub below : (ℕ → List ℕ) → Option ℕ → List ℕ
below path None = []
below path (Some scope) = path scope ++ codes "."

-- the instance names from the top's on, joined by dots, no more of them than the turns (12.5)
abbrev pub path_in : ℕ → Circuit → ℕ → List ℕ
path_in zero circuit scope = []
path_in (suc turns) circuit scope = below (path_in turns circuit) (scope_at circuit scope).parent ++ (scope_at circuit scope).name

abbrev pub path_of : Circuit → ℕ → List ℕ
path_of circuit scope = path_in (length circuit.scopes) circuit scope

abbrev pub terminal_text : Terminal → List ℕ
terminal_text t = t.name ++ bit_text t.bit

-- both terminals of a check
abbrev pub terminals_text : Check → List ℕ
terminals_text check = terminal_text check.refer ++ (codes " " ++ terminal_text (datum_of check))

-- a terminal and the time of its event
abbrev pub event_text : Terminal → ℕ → List ℕ
event_text t time = terminal_text t ++ codes " " ++ decimal time

-- a net by its path
abbrev pub net_text : Circuit → ℕ → List ℕ
net_text circuit net = path_of circuit (net_at circuit net).scope ++ codes "." ++ (net_at circuit net).name ++ bit_text (net_at circuit net).bit

abbrev pub unmatched_line : Unmatched → List ℕ
unmatched_line u = line (codes "unannotated " ++ decimal u.line ++ codes " " ++ u.word)

-- a limit that was taken as 0, with the value that it was (15.8)
abbrev pub zeroed_line : Circuit → Zero → List ℕ
zeroed_line circuit z =
    line (codes "zeroed " ++ path_of circuit (check_at circuit z.check).scope
    ++ codes " " ++ part_word (part_number (limit_part (check_at circuit z.check).kind z.part))
    ++ codes " " ++ terminals_text (check_at circuit z.check)
    ++ codes " " ++ signed_decimal z.value)

-- a violation: at the later of its two times, with the part's word and both terminals with their times (15)
abbrev pub violation_line : Circuit → Violation → List ℕ
violation_line circuit v =
    line (codes "violation " ++ decimal (max v.refer_time v.datum_time) ++ codes " " ++ path_of circuit (check_at circuit v.check).scope
    ++ codes " " ++ part_word v.part
    ++ codes " " ++ event_text (check_at circuit v.check).refer v.refer_time
    ++ codes " " ++ event_text (datum_of (check_at circuit v.check)) v.datum_time
    ++ codes " limit " ++ signed_decimal v.limit)

-- the last lines of a whole run
abbrev pub summary : ℕ → ℕ → ℕ → List ℕ
summary violations unmatched end =
    line (codes "violations " ++ decimal violations) ++ line (codes "unannotated " ++ decimal unmatched) ++ line (codes "end " ++ decimal end)

-- and of one that was stopped
abbrev pub stopped_summary : ℕ → ℕ → ℕ → List ℕ
stopped_summary violations unmatched time =
    line (codes "violations " ++ decimal violations) ++ line (codes "unannotated " ++ decimal unmatched) ++ line (codes "stopped " ++ decimal time)

-- the line of a time that was spent at a net
abbrev pub named_net : Circuit → Option ℕ → List ℕ
named_net circuit None = []
named_net circuit (Some net) = net_text circuit net

abbrev pub spent_line : Circuit → ℕ → Option ℕ → List ℕ
spent_line circuit time net = line (codes "rounds spent at " ++ decimal time ++ codes " on " ++ named_net circuit net)

-- the last lines: the counts and the end, or the time that was spent and its net
abbrev pub last_lines : Circuit → ℕ → ℕ → ℕ → Option (ℕ × Option ℕ) → List ℕ
last_lines circuit violations unmatched end None = summary violations unmatched end
last_lines circuit violations unmatched end (Some spent) = spent_line circuit spent.0 spent.1

-- what comes before the last lines
abbrev pub found_lines : Circuit → List Unmatched → List Violation → List ℕ
found_lines circuit unmatched violations = flat_map unmatched_line unmatched ++ flat_map (zeroed_line circuit) circuit.zeroed ++ flat_map (violation_line circuit) violations

-- the whole text, from what a run comes to
unfoldable pub report_lines : Circuit → List Unmatched → List Violation → ℕ → Option (ℕ × Option ℕ) → List ℕ
report_lines circuit unmatched violations end spent =
    found_lines circuit unmatched violations ++ last_lines circuit (length violations) (length unmatched) end spent

abbrev pub report_text : Circuit → List Unmatched → ℕ → Finished → List ℕ
report_text circuit unmatched end finished = report_lines circuit unmatched finished.run.violations end finished.spent

-- the whole text of a run that was stopped after a time
unfoldable pub stopped_lines : Circuit → List Unmatched → List Violation → ℕ → List ℕ
stopped_lines circuit unmatched violations time =
    found_lines circuit unmatched violations ++ stopped_summary (length violations) (length unmatched) time
