use Rattle.std.proofs.Common.{sym, subst, map}
use Rattle.sg_circuit.specs.Circuit.{Variable}
use Rattle.sg_circuit.specs.Seen.{circuit_seen}
use Rattle.wave_out.specs.Scopes.{variables_at, variables_of}
use Rattle.wave_out.specs.Walk.{HasBits}
use Rattle.wave_out.proofs.BitLaws.{all_bits, bits_are, group_step}
use Rattle.wave_out.proofs.HeaderLaws.{visits_known}
use Rattle.wave_out.proofs.variables.bits_of.Goals as goal

pub push_entered-requires : goal.push_entered-requires
push_entered-requires c =
    visits_known c.parts-parts.result.now c.args.circuit.now c.args.order.now c.parts-parts.ensures.seen c.parts-parts.ensures.closed c.requires c.loop-visit.visit-index _ c.loop-visit-test.true

pub loop-visit-preserved : goal.loop-visit-preserved
loop-visit-preserved c =
    subst (λ bs. HasBits bs c.in_ok-count.count c.push_entered.new.pins.items)
    (sym (group_step (λ (x : Variable). x.bits) (variables_at (circuit_seen c.parts-parts.result.now)) c.args.order.now c.loop-visit.visit-index _ c.loop-visit-test.true)) (c.in_ok-count.ensures _ c.loop-visit.invariant)

pub returns-clause-bits : goal.returns-clause-bits
returns-clause-bits c =
    bits_are (map (λ x. x.bits) (variables_of c.args.circuit.now)) c.in_ok-bits.bits c.loop-visit.count c.loop-visit.pins.items c.deref.result.now
    (subst (λ bs. HasBits bs c.loop-visit.count c.loop-visit.pins.items) (all_bits (circuit_seen c.parts-parts.result.now) c.args.circuit.now c.args.order.now c.loop-visit.visit-index c.loop-visit-test.false c.requires c.parts-parts.ensures.seen) c.loop-visit.invariant)
    c.deref.ensures.value c.in_ok-bits.ensures.each c.in_ok-bits.ensures.keys
