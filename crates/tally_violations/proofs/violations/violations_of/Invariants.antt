-- What the rows so far tell, and what the rest does, are all.
use Rattle.std.proofs.Common.{◌≡◌, suc, drop, map}
use Rattle.tally_violations.specs.Rows.{told_from}
use Rattle.tally_violations.specs.Seen.{violation_seen}
use Rattle.tally_violations.specs.Violations.{violation_row}
use Rattle.tally_violations.proofs.RowLaws.{behind}
use Rattle.tally_violations.proofs.violations.violations_of.Given as goal

abbrev pub invariant-loop-index : goal.invariant-loop-index
invariant-loop-index l =
    behind (map (λ x. violation_seen x) l.violations.items) (told_from violation_row (suc l.index) (map (λ r. r.now) (drop l.index l.rows))) ≡ told_from violation_row 1 (map (λ r. r.now) l.rows)
