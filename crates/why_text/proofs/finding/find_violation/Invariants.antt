-- None of the violations so far is called so.
use Rattle.std.proofs.Common.{◌≡◌, ◌++◌, ◌∷◌, [], drop, map}
use Rattle.std.specs.Prelude.{bytes_eq}
use Rattle.std.specs.List.{position_from}
use Rattle.time_checks.specs.Seen.{violation_seen}
use Rattle.wave_out.specs.Texts.{line}
use Rattle.run_report.specs.Report.{violation_line}
use Rattle.why_text.specs.Finding.{violation_called}
use Rattle.why_text.proofs.finding.find_violation.Given as goal

abbrev pub invariant-loop-place : goal.invariant-loop-place
invariant-loop-place l =
    (l.wanted.items ≡ line l.name)
    × (violation_called l.circuit (map (λ v. violation_seen v) l.violations) l.name
    ≡ position_from (λ v. bytes_eq (violation_line l.circuit v) (line l.name)) l.place (map (λ v. violation_seen v) (drop l.place l.violations)))
