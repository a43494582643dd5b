-- What the rows so far tell, and what the rest does, are all.
use Rattle.std.proofs.Common.{◌≡◌, suc, drop, map}
use Rattle.tally_violations.specs.Rows.{told_from}
use Rattle.tally_violations.specs.Seen.{waiver_seen}
use Rattle.tally_violations.specs.Waivers.{waiver_row}
use Rattle.tally_violations.proofs.RowLaws.{behind}
use Rattle.tally_violations.proofs.waivers.waivers_of.Given as goal

abbrev pub invariant-loop-index : goal.invariant-loop-index
invariant-loop-index l =
    behind (map (λ x. waiver_seen x) l.waivers.items) (told_from waiver_row (suc l.index) (map (λ r. r.now) (drop l.index l.rows))) ≡ told_from waiver_row 1 (map (λ r. r.now) l.rows)
