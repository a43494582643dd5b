-- One timing check after another.
use Rattle.std.proofs.Common.{ℕ, refl, slice_get, slice_index_or}
use Rattle.written_faults.specs.Ambiguities.{check_pairs, limit_in, pairs_of_check}
use Rattle.written_faults.proofs.PairLaws.{check_pairs_is}
use Rattle.written_faults.proofs.ReadingLaws.{stops, goes-on}
use Rattle.written_faults.proofs.ambiguities.add_checks.Goals as goal

pub returns-then-branch : goal.returns-then-branch
returns-then-branch c =
    let parts = c.args.parts.now in
    let k = slice_index_or c.args.numbers.now c.loop-number.number-index 0 in
    let l = c.loop-number-test.true in
    stops (λ (n : ℕ). pairs_of_check c.args.classes.now (slice_get parts.check_timings.items n) (slice_get parts.check_conditions.items n)) c.args.numbers.now c.loop-number.number-index 0 k
    (check_pairs c.args.classes.now c.index-timing.result.now c.index.result.now) (limit_in c.args.seen.now) (limit_in c.loop-number.seen) (limit_in c.add_check.new.seen) c.in_ok-add_check.field-0 l refl
    (check_pairs_is parts c.args.classes.now k c.index-timing.result.now c.index.result.now (c.requires.timings c.loop-number.number-index 0 l) (c.requires.conditions c.loop-number.number-index 0 l) c.index-timing.ensures c.index.ensures)
    c.loop-number.invariant c.in_ok-add_check.ensures c.if-branch.true

pub loop-number-preserved : goal.loop-number-preserved
loop-number-preserved c =
    let parts = c.args.parts.now in
    let k = slice_index_or c.args.numbers.now c.loop-number.number-index 0 in
    let l = c.loop-number-test.true in
    goes-on (λ (n : ℕ). pairs_of_check c.args.classes.now (slice_get parts.check_timings.items n) (slice_get parts.check_conditions.items n)) c.args.numbers.now c.loop-number.number-index 0 k
    (check_pairs c.args.classes.now c.index-timing.result.now c.index.result.now) (limit_in c.args.seen.now) (limit_in c.loop-number.seen) (limit_in c.add_check.new.seen) c.in_ok-add_check.field-0 l refl
    (check_pairs_is parts c.args.classes.now k c.index-timing.result.now c.index.result.now (c.requires.timings c.loop-number.number-index 0 l) (c.requires.conditions c.loop-number.number-index 0 l) c.index-timing.ensures c.index.ensures)
    c.loop-number.invariant c.in_ok-add_check.ensures c.if-branch.false
