-- A high power of ten makes any number but 0 too large.
use Rattle.std.proofs.Common.{◌*◌, ◌^◌, ◌<◌, arith}
use Rattle.vcd_stim.proofs.TimeLaws.{far_up, product_fits}
use Rattle.vcd_stim.proofs.times.times_power.Goals as goal

pub returns-then-places-gt18 : goal.returns-then-places-gt18
returns-then-places-gt18 c = far_up c.args.number c.args.places c.if-number-eq0.false c.if-places-gt18.true

pub overflow_mul-number : goal.overflow_mul-number
overflow_mul-number c =
    let few : c.args.number * 10 ^ c.args.places < 2 ^ 128 = product_fits c.args.number c.args.places c.requires (omega (arith, c.if-places-gt18.false)) in
    rw c.pow.ensures (omega (arith, few))
