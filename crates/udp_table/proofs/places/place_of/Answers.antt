use Rattle.std.proofs.Common.{arith, ◌∙◌, ap}
use Rattle.udp_table.specs.Places.{digit}
use Rattle.udp_table.proofs.PlaceLaws.{place-made}
use Rattle.udp_table.proofs.places.place_of.Goals as goal

pub overflow_mul-result-3 : goal.overflow_mul-result-3
overflow_mul-result-3 c =
    let made = place-made c.args.old.now c.args.new.now c.args.state c.args.inputs c.args.i c.digit-before.result c.digit.result c.code_count.result c.code_of-code.result
    c.requires.input c.requires.inputs (c.digit-before.ensures ∙ ap digit c.value_of_input.ensures) c.digit.ensures c.code_count.ensures c.code_of-code.ensures in
    omega (arith, made.1, made.2)

pub overflow_add-result-3 : goal.overflow_add-result-3
overflow_add-result-3 c =
    let made = place-made c.args.old.now c.args.new.now c.args.state c.args.inputs c.args.i c.digit-before.result c.digit.result c.code_count.result c.code_of-code.result
    c.requires.input c.requires.inputs (c.digit-before.ensures ∙ ap digit c.value_of_input.ensures) c.digit.ensures c.code_count.ensures c.code_of-code.ensures in
    omega (arith, made.1, made.2)

pub returns-clause-within : goal.returns-clause-within
returns-clause-within c =
    let made = place-made c.args.old.now c.args.new.now c.args.state c.args.inputs c.args.i c.digit-before.result c.digit.result c.code_count.result c.code_of-code.result
    c.requires.input c.requires.inputs (c.digit-before.ensures ∙ ap digit c.value_of_input.ensures) c.digit.ensures c.code_count.ensures c.code_of-code.ensures in
    made.1
