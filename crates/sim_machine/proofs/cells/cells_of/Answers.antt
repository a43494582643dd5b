use Rattle.std.proofs.Common.{subst, sym}
use Rattle.sg_circuit.specs.declared.elements.Element as code_element
use Rattle.sim_machine.specs.Cells.{AreCells, IsCell}
use Rattle.sim_machine.proofs.CellLaws.{none_made, one_more, all_made}
use Rattle.sim_machine.proofs.cells.cells_of.Goals as goal

pub loop-element-init : goal.loop-element-init
loop-element-init c = subst (λ cs. AreCells c.args.parts.now _ cs) (sym c.in_ok-cells.ensures.items) (none_made c.args.parts.now c.args.elements.now)

pub loop-element-preserved : goal.loop-element-preserved
loop-element-preserved c =
    one_more c.args.parts.now c.args.elements.now c.loop-element.element-index c.element-item.result c.loop-element.cells.items c.push.new.self.items c.cell_of.result c.loop-element-test.true c.loop-element.invariant
    (subst (λ (x : code_element.Element). IsCell c.args.parts.now x c.cell_of.result) c.element-item.is c.cell_of.ensures) c.in_ok-push.ensures.items

pub returns : goal.returns
returns c = all_made c.args.parts.now c.args.elements.now c.loop-element.element-index c.loop-element.cells.items c.loop-element-test.false c.loop-element.invariant
