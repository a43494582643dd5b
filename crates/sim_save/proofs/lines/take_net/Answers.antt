-- A line of this kind is in front, or none.
use Rattle.sim_rounds.specs.MomentsSeen.{change_seen}
use Rattle.sim_save.proofs.TakeLaws.{net_taken, no_net, no_net_change, no_net_value}
use Rattle.sim_save.proofs.lines.take_net.Goals as goal

pub returns-in_err-at_value : goal.returns-in_err-at_value
returns-in_err-at_value c = rw c.from_residual.ensures (no_net c.args.text.now c.in_err-at_value.ensures)

pub returns-in_err-value : goal.returns-in_err-value
returns-in_err-value c = rw c.from_residual-in_err-value.ensures (no_net_value c.args.text.now c.in_ok-at_value.at_value.now c.in_ok-at_value.ensures c.in_err-value.ensures)

pub returns-in_err-change : goal.returns-in_err-change
returns-in_err-change c = rw c.from_residual-in_err-change.ensures (no_net_change c.args.text.now c.in_ok-at_value.at_value.now c.in_ok-value.value c.in_ok-value.at_change.now c.in_ok-at_value.ensures c.in_ok-value.ensures c.in_err-change.ensures)

pub returns : goal.returns
returns c = net_taken c.args.text.now c.in_ok-at_value.at_value.now c.in_ok-value.value c.in_ok-value.at_change.now (change_seen c.in_ok-change.change) c.in_ok-change.behind.now c.in_ok-at_value.ensures c.in_ok-value.ensures c.in_ok-change.ensures
