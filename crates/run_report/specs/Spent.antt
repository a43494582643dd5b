-- How a run ended, as a report is given it.
use Rattle.std.specs.Prelude.{ℕ, Option, Some, None}
use Rattle.run_report.specs.declared.report.ReportEnd.{ReportEnd}
use Rattle.run_report.specs.declared.report.ReportEnd.TheVariants.{Whole, Spent}
use Rattle.run_report.specs.declared.report.Spent as code_spent

abbrev pub spent_seen : Option code_spent.Spent → Option (ℕ × Option ℕ)
spent_seen None = None
spent_seen (Some s) = Some (s.time, Some s.net)

-- the time at which a whole run ended
abbrev pub end_time : ReportEnd → ℕ
end_time (Whole time) = time
end_time (Spent time net) = time

-- the time that was spent, and its net
abbrev pub end_spent : ReportEnd → Option (ℕ × Option ℕ)
end_spent (Whole time) = None
end_spent (Spent time net) = Some (time, Some net)
