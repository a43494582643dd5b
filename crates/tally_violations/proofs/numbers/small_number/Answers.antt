-- Digits that follow make a number no less.
use Rattle.std.proofs.Common.{◌+◌, ◌-◌, ◌*◌, drop, suc, arith, get_or}
use Rattle.sg_time.proofs.Digits.{le-number_from}
use Rattle.tally_violations.proofs.NumberLaws.{digit-step}
use Rattle.tally_violations.proofs.numbers.small_number.Goals as goal

pub returns-then-n-ge-LIMIT : goal.returns-then-n-ge-LIMIT
returns-then-n-ge-LIMIT c =
    let step = digit-step c.loop-b.n c.args.digits.now c.loop-b.b-index (omega arith) in
    let low = le-number_from (c.loop-b.n * 10 + (get_or c.args.digits.now c.loop-b.b-index 0 - 48)) (drop (suc c.loop-b.b-index) c.args.digits.now) in
    omega (arith, step, low, c.loop-b.invariant.completes, c.from.ensures, c.saturating_sub.ensures)
