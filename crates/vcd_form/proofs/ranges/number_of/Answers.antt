-- A number so far is no more than the whole.
use Rattle.std.proofs.Common.{◌≡◌, arith}
use Rattle.sg_time.specs.Spelling.{number_from}
use Rattle.vcd_form.proofs.RangeLaws.{first_digit}
use Rattle.vcd_form.proofs.ranges.number_of.Goals as goal

pub overflow_mul-number : goal.overflow_mul-number
overflow_mul-number c =
    let whole : number_from c.loop-rest.number c.loop-rest.rest.now ≡ number_from 0 c.args.digits.now = c.loop-rest.invariant in
    omega (arith, first_digit c.loop-rest.number c.loop-rest.rest.now c.in-len1-up.len_at_least, whole, c.requires)

pub overflow_add-number : goal.overflow_add-number
overflow_add-number c =
    let whole : number_from c.loop-rest.number c.loop-rest.rest.now ≡ number_from 0 c.args.digits.now = c.loop-rest.invariant in
    omega (arith, first_digit c.loop-rest.number c.loop-rest.rest.now c.in-len1-up.len_at_least, whole, c.requires, c.from.ensures, c.saturating_sub.ensures)
