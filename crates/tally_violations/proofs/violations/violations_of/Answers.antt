-- One row more.
use Rattle.std.proofs.Common.{◌∙◌, ◌+◌, ap, arith, map}
use Rattle.tally_violations.specs.Violations.{violation_row}
use Rattle.tally_violations.specs.Seen.{violation_seen}
use Rattle.tally_violations.proofs.RowLaws.{row_told}
use Rattle.tally_violations.proofs.violations.violations_of.Goals as goal

pub loop-index-preserved : goal.loop-index-preserved
loop-index-preserved c =
    row_told violation_row (λ x. violation_seen x) c.loop-index.violations.items _ (c.loop-index.index + 1) c.loop-index.index (c.loop-index.index + 1) c.args.rows.now _ c.row_of.result (map (λ w. w.now) c.deref.result.now) _
    (omega (arith, c.loop-index-test.true)) (omega arith) (omega arith) (ap (map (λ w. w.now)) c.deref.ensures.value ∙ c.in_ok-words.ensures) c.row_of.ensures c.loop-index.invariant c.in_ok-add_row.ensures
