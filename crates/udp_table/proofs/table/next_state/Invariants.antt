use Rattle.std.proofs.Common.{◌≡◌}
use Rattle.udp_table.specs.Looking.{state_by}
use Rattle.udp_table.proofs.table.next_state.Given as goal

abbrev pub invariant-loop-i : goal.invariant-loop-i
invariant-loop-i l = l.now ≡ state_by l.cells l.inputs l.old l.new l.fn.state l.i
