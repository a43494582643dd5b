use Rattle.std.proofs.Common.{take}
use Rattle.sim_machine.specs.Cells.{AreCells}
use Rattle.sim_machine.proofs.cells.cells_of.Given as goal

abbrev pub invariant-loop-element : goal.invariant-loop-element
invariant-loop-element l = AreCells l.parts (take l.element-index l.elements) l.cells.items
