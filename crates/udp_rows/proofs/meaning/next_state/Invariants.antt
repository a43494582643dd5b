use Rattle.std.proofs.Common.{◌≡◌}
use Rattle.udp_rows.specs.Meaning.{state_after}
use Rattle.udp_rows.proofs.meaning.next_state.Given as goal

abbrev pub invariant-loop-i : goal.invariant-loop-i
invariant-loop-i l = l.now ≡ state_after l.rows l.old l.new l.fn.state l.i
