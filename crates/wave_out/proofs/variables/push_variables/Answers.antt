use Rattle.std.proofs.Common.{◌≡◌, ◌∙◌, ◌+◌, ◌++◌, ap, rules}
use Rattle.sg_circuit.specs.declared.scopes.Variable.{Variable}
use Rattle.wave_out.specs.Walk.{bit_pins}
use Rattle.wave_out.proofs.BitLaws.{bits_step}
use Rattle.wave_out.proofs.variables.push_variables.Goals as goal

pub loop-variable-preserved : goal.loop-variable-preserved
loop-variable-preserved c = λ bits h.
    let next : c.in_ok-next.next ≡ c.loop-variable.next + 1 = search rules in
    bits_step (λ (v : Variable). v.bits.items) c.args.variables.now c.loop-variable.variable-index c.variable-item.result bits c.loop-variable.next _ c.loop-variable.pins.items c.push_bits.new.pins.items
    c.loop-variable-test.true c.variable-item.is (c.in_ok-push_bits.ensures ∙ ap (λ ns. c.loop-variable.pins.items ++ bit_pins c.loop-variable.next ns) c.deref.ensures.value) next (c.loop-variable.invariant bits h)
