use Rattle.std.proofs.Common.{◌^◌}
use Rattle.udp_rows.specs.Meaning.{after_step}
use Rattle.udp_table.specs.Compiled.{step_at}
use Rattle.udp_table.specs.Filled.{IsFilled}
use Rattle.udp_table.proofs.building.states.Given as goal

abbrev pub invariant-loop-k : goal.invariant-loop-k
invariant-loop-k l = IsFilled l.cells.items l.k (λ k. after_step l.rows (step_at (3 ^ l.fn.inputs) k))
