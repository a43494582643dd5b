-- What the putting of a report tells.
use Rattle.std.proofs.Common.{◌≡◌, ◌∙◌, ap, ℕ, List, map}
use Rattle.sdf_annotate.specs.declared.unmatched.Unmatched as code_unmatched
use Rattle.sg_circuit.specs.Circuit.{Circuit}
use Rattle.time_checks.specs.Seen.{violation_seen}
use Rattle.time_checks.specs.declared.violations.Violation as code_violation
use Rattle.run_report.specs.declared.report.ReportEnd.{ReportEnd}
use Rattle.run_report.specs.Report.{report_lines, stopped_lines}
use Rattle.run_report.specs.Reporting.{unmatched_seen}
use Rattle.run_report.specs.Spent.{end_spent, end_time}

-- the lines of what a report is lent
pub lines_lent : (circuit : Circuit) (sdf sdf' : List ℕ) (us us' : List code_unmatched.Unmatched) (vs vs' : List code_violation.Violation) (end : ReportEnd) → sdf ≡ sdf' → us ≡ us' → vs ≡ vs'
    → report_lines circuit (map (unmatched_seen sdf) us) (map (λ v. violation_seen v) vs) (end_time end) (end_spent end)
    ≡ report_lines circuit (map (unmatched_seen sdf') us') (map (λ v. violation_seen v) vs') (end_time end) (end_spent end)
lines_lent circuit sdf sdf' us us' vs vs' end p q r =
    ap (λ (t : List ℕ). report_lines circuit (map (unmatched_seen t) us) (map (λ v. violation_seen v) vs) (end_time end) (end_spent end)) p
    ∙ (ap (λ (xs : List code_unmatched.Unmatched). report_lines circuit (map (unmatched_seen sdf') xs) (map (λ v. violation_seen v) vs) (end_time end) (end_spent end)) q
    ∙ ap (λ (xs : List code_violation.Violation). report_lines circuit (map (unmatched_seen sdf') us') (map (λ v. violation_seen v) xs) (end_time end) (end_spent end)) r)

-- and of a report of a run that was stopped
pub stopped_lent : (circuit : Circuit) (sdf sdf' : List ℕ) (us us' : List code_unmatched.Unmatched) (vs vs' : List code_violation.Violation) (time : ℕ) → sdf ≡ sdf' → us ≡ us' → vs ≡ vs'
    → stopped_lines circuit (map (unmatched_seen sdf) us) (map (λ v. violation_seen v) vs) time ≡ stopped_lines circuit (map (unmatched_seen sdf') us') (map (λ v. violation_seen v) vs') time
stopped_lent circuit sdf sdf' us us' vs vs' time p q r =
    ap (λ (t : List ℕ). stopped_lines circuit (map (unmatched_seen t) us) (map (λ v. violation_seen v) vs) time) p
    ∙ (ap (λ (xs : List code_unmatched.Unmatched). stopped_lines circuit (map (unmatched_seen sdf') xs) (map (λ v. violation_seen v) vs) time) q
    ∙ ap (λ (xs : List code_violation.Violation). stopped_lines circuit (map (unmatched_seen sdf') us') (map (λ v. violation_seen v) xs) time) r)
