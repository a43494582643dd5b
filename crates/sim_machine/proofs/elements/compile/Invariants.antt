use Rattle.std.proofs.Common.{take}
use Rattle.sim_machine.specs.Elements.{AreTables}
use Rattle.sim_machine.proofs.elements.compile.Given as goal

abbrev pub invariant-loop-udp : goal.invariant-loop-udp
invariant-loop-udp l = AreTables (take l.udp-index l.udps) l.tables.items
