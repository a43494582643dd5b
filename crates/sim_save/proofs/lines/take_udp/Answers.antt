-- A line of this kind is in front, or none.
use Rattle.sim_save.proofs.TakeLaws.{no_udp, no_udp_end, no_udp_state, udp_taken}
use Rattle.sim_save.proofs.lines.take_udp.Goals as goal

pub returns-in_err-at_state : goal.returns-in_err-at_state
returns-in_err-at_state c = rw c.from_residual.ensures (no_udp c.args.text.now c.in_err-at_state.ensures)

pub returns-in_err-state : goal.returns-in_err-state
returns-in_err-state c = rw c.from_residual-in_err-state.ensures (no_udp_state c.args.text.now c.in_ok-at_state.at_state.now c.in_ok-at_state.ensures c.in_err-state.ensures)

pub returns-in_err-behind : goal.returns-in_err-behind
returns-in_err-behind c = rw c.from_residual-in_err-behind.ensures (no_udp_end c.args.text.now c.in_ok-at_state.at_state.now c.in_ok-state.state c.in_ok-state.at_end.now c.in_ok-at_state.ensures c.in_ok-state.ensures c.in_err-behind.ensures)

pub returns : goal.returns
returns c = udp_taken c.in_ok-state.state c.args.text.now c.in_ok-at_state.at_state.now c.in_ok-state.at_end.now c.in_ok-behind.behind.now c.in_ok-at_state.ensures c.in_ok-state.ensures c.in_ok-behind.ensures
