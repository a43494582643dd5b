use Rattle.std.proofs.Common.{◌∙◌, subst}
use Rattle.sim_machine.specs.Cells.{AreCells}
use Rattle.sim_machine.proofs.ElementLaws.{evaluable_with, of_circuit_seen}
use Rattle.sim_machine.proofs.elements.CircuitElements.of_states.Goals as goal

pub invariant_of-result : goal.invariant_of-result
invariant_of-result c = (
  evaluable_with c.args.circuit.now c.parts-parts.result.now c.in_ok-tables.tables.items c.deref-2.result.now c.deref.result.now c.args.states.items
      (record { before = c.in_ok-before.before; after = c.in_ok-after.after }) c.widest-width.result c.parts-parts.ensures.seen c.parts-parts.ensures.closed c.parts-parts.ensures.indexed c.deref.ensures.value c.in_ok-tables.ensures c.requires
      c.deref-2.ensures.value c.widest-width.ensures c.in_ok-before.ensures.capacity c.in_ok-after.ensures.capacity,
  c.in_ok-marks.ensures ∙ (c.len.ensures ∙ c.parts-parts.result.now.nets.ok.0),
  subst (λ es. AreCells c.parts-parts.result.now es c.in_ok-cells.cells.items) c.deref-3.ensures.value c.in_ok-cells.ensures,
)

pub returns : goal.returns
returns c = of_circuit_seen c.args.circuit.now c.parts-parts.result.now c.args.earlier.now c.args.states.items c.parts-parts.ensures.seen
