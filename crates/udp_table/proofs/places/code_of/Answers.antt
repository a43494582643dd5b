use Rattle.std.proofs.Common.{arith, ◌∙◌, ap}
use Rattle.udp_table.specs.Places.{digit}
use Rattle.udp_table.proofs.PlaceLaws.{code-next_fits}
use Rattle.udp_table.proofs.places.code_of.Goals as goal

pub overflow_mul-code : goal.overflow_mul-code
overflow_mul-code c =
    let fits = code-next_fits c.args.old.now c.args.new.now c.args.taken c.args.inputs c.loop-j.j c.loop-j.code c.digit.result c.loop-j.power (omega arith) c.requires c.loop-j.invariant.0 (c.digit.ensures ∙ ap digit c.value_when_taken.ensures) c.loop-j.invariant.1 in
    omega (arith, fits.0)

pub overflow_add-code : goal.overflow_add-code
overflow_add-code c =
    let fits = code-next_fits c.args.old.now c.args.new.now c.args.taken c.args.inputs c.loop-j.j c.loop-j.code c.digit.result c.loop-j.power (omega arith) c.requires c.loop-j.invariant.0 (c.digit.ensures ∙ ap digit c.value_when_taken.ensures) c.loop-j.invariant.1 in
    omega (arith, fits.0)

pub overflow_mul-power : goal.overflow_mul-power
overflow_mul-power c =
    let fits = code-next_fits c.args.old.now c.args.new.now c.args.taken c.args.inputs c.loop-j.j c.loop-j.code c.digit.result c.loop-j.power (omega arith) c.requires c.loop-j.invariant.0 (c.digit.ensures ∙ ap digit c.value_when_taken.ensures) c.loop-j.invariant.1 in
    omega (arith, fits.1)
