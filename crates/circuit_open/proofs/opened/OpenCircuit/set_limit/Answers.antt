use Rattle.std.proofs.Common.{ℤ, ◌<◌, ◌∙◌, slice_index_or, sym, ap, subst, w64}
use Rattle.std.proofs.lemmas.Int.{to_z-of_z}
use Rattle.sg_circuit.specs.declared.checks.CheckTiming.{CheckTiming}
use Rattle.sg_circuit.specs.Closed.{limit_count}
use Rattle.circuit_open.specs.Open.{Open, changed_at, with_limit, IsLight}
use Rattle.circuit_open.proofs.ClosedLaws.{part-of_two}
use Rattle.circuit_open.proofs.OpenLaws.{limit-set}
use Rattle.circuit_open.proofs.opened.OpenCircuit.set_limit.Goals as goal

pub change_limit-requires-clause-part : goal.change_limit-requires-clause-part
change_limit-requires-clause-part c = part-of_two c.args.self.now.circuit.check_timings c.args.check c.args.part c.requires.check c.requires.part

pub invariant_of-self : goal.invariant_of-self
invariant_of-self c =
    let value = to_z-of_z w64 c.args.value (record { sfits = c.ranges.value.sfits }) in
    let own = subst (λ (o : Open). (t : CheckTiming) → c.args.part < limit_count (slice_index_or o.circuit.check_timings c.args.check t).kind) (sym c.self.view_is) c.requires.part in
    let light = subst (λ (o : Open). IsLight o.circuit c.args.check c.args.value) (sym c.self.view_is) c.requires.light in
    let h = limit-set c.self.inside.parts c.change_limit.new.timings c.args.check c.args.part c.args.value own c.requires.value light c.self.invariant.0 c.self.invariant.1
    (c.change_limit.ensures ∙ ap (λ (v : ℤ). changed_at (with_limit c.args.part v) c.args.check c.self.inside.parts.check_timings.items) value) in
    (h.0, h.1, c.self.invariant.2, c.self.invariant.3)
