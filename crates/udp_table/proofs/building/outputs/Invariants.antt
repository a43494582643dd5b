use Rattle.udp_rows.specs.Meaning.{combinational_value}
use Rattle.udp_table.specs.Compiled.{inputs_of}
use Rattle.udp_table.specs.Filled.{IsFilled}
use Rattle.udp_table.proofs.building.outputs.Given as goal

abbrev pub invariant-loop-k : goal.invariant-loop-k
invariant-loop-k l = IsFilled l.cells.items l.k (λ k. combinational_value l.rows (inputs_of k))
