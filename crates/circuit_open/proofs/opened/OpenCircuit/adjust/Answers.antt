use Rattle.std.proofs.Common.{All, sym, refl, ◌∙◌, ap, subst}
use Rattle.late_limits.specs.declared.adjusting.LateDelay.{LateDelay}
use Rattle.late_limits.specs.Adjusted.{IsAdjustedFrom}
use Rattle.sg_circuit.specs.Closed.{IsClosed}
use Rattle.circuit_open.specs.Open.{Open}
use Rattle.circuit_open.proofs.AdjustLaws.{adjusted-then, delays-end, delays-more, lates-first, lates-more, with_delays, zeroes-then, IsLateAt}
use Rattle.circuit_open.proofs.opened.OpenCircuit.adjust.Goals as goal

pub loop-late-init : goal.loop-late-init
loop-late-init c = record {
  rest = refl;
  lates = subst (λ ds. All (λ (d : LateDelay). IsLateAt c.args.self.now.circuit d.element) ds) (sym c.deref-late-items.ensures.value) (lates-first c.args.self.now.circuit c.args.found c.requires);
  room = refl;
}

pub set_late-requires-clause-element : goal.set_late-requires-clause-element
set_late-requires-clause-element c = (c.loop-late.invariant.lates c.loop-late.late-index _ c.loop-late-test.true).there

pub set_late-requires-clause-kind : goal.set_late-requires-clause-kind
set_late-requires-clause-kind c = (c.loop-late.invariant.lates c.loop-late.late-index _ c.loop-late-test.true).late

pub loop-late-preserved : goal.loop-late-preserved
loop-late-preserved c =
    let circuit = ap (λ (o : Open). o.circuit) c.set_late.ensures in
    let room = ap (λ (o : Open). o.room) c.set_late.ensures in
    record {
      rest = delays-more c.loop-late.self.circuit c.set_late.new.self.circuit c.args.self.now.circuit c.deref-late-items.result.now c.loop-late.late-index _ c.loop-late-test.true circuit c.loop-late.invariant.rest;
      lates = subst (λ x. All (λ (d : LateDelay). IsLateAt x d.element) c.deref-late-items.result.now) (sym circuit)
          (lates-more c.loop-late.self.circuit c.deref-late-items.result.now _ _ c.loop-late.invariant.lates);
      room = room ∙ c.loop-late.invariant.room;
    }

pub set_zeroed-requires : goal.set_zeroed-requires
set_zeroed-requires c =
    let set =
    delays-end c.loop-late.self.circuit c.args.self.now.circuit c.deref-late-items.result.now c.loop-late.late-index c.loop-late-test.false c.loop-late.invariant.rest
    ∙ ap (λ ds. with_delays ds c.args.self.now.circuit) c.deref-late-items.ensures.value in
    let closed = subst (λ (o : Open). IsClosed o.circuit) c.self.view_is c.self.invariant.0 in
    zeroes-then c.loop-late.self.circuit c.args.self.now.circuit c.args.found c.requires closed set

pub returns-clause-circuit : goal.returns-clause-circuit
returns-clause-circuit c =
    let set =
    delays-end c.loop-late.self.circuit c.args.self.now.circuit c.deref-late-items.result.now c.loop-late.late-index c.loop-late-test.false c.loop-late.invariant.rest
    ∙ ap (λ ds. with_delays ds c.args.self.now.circuit) c.deref-late-items.ensures.value in
    let closed = subst (λ (o : Open). IsClosed o.circuit) c.self.view_is c.self.invariant.0 in
    subst (λ (o : Open). IsAdjustedFrom c.args.self.now.circuit o.circuit) (sym c.set_zeroed.ensures) (adjusted-then c.loop-late.self.circuit c.args.self.now.circuit c.args.found c.requires closed set)

pub returns-clause-room : goal.returns-clause-room
returns-clause-room c = ap (λ (o : Open). o.room) c.set_zeroed.ensures ∙ c.loop-late.invariant.room
