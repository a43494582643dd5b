-- A line of this kind is in front, or none.
use Rattle.sim_save.proofs.TakeLaws.{counters_taken, no_counters, no_counters_end, no_counters_evaluations, no_counters_last}
use Rattle.sim_save.proofs.lines.take_counters.Goals as goal

pub returns-in_err-at_last : goal.returns-in_err-at_last
returns-in_err-at_last c = rw c.from_residual.ensures (no_counters c.args.text.now c.in_err-at_last.ensures)

pub returns-in_err-last : goal.returns-in_err-last
returns-in_err-last c = rw c.from_residual-in_err-last.ensures (no_counters_last c.args.text.now c.in_ok-at_last.at_last.now c.in_ok-at_last.ensures c.in_err-last.ensures)

pub returns-in_err-evaluations : goal.returns-in_err-evaluations
returns-in_err-evaluations c = rw c.from_residual-in_err-evaluations.ensures (no_counters_evaluations c.args.text.now c.in_ok-at_last.at_last.now c.in_ok-last.last c.in_ok-last.at_evaluations.now c.in_ok-at_last.ensures c.in_ok-last.ensures c.in_err-evaluations.ensures)

pub returns-in_err-behind : goal.returns-in_err-behind
returns-in_err-behind c = rw c.from_residual-in_err-behind.ensures (no_counters_end c.args.text.now c.in_ok-at_last.at_last.now c.in_ok-last.last c.in_ok-last.at_evaluations.now c.in_ok-evaluations.evaluations c.in_ok-evaluations.at_end.now c.in_ok-at_last.ensures c.in_ok-last.ensures c.in_ok-evaluations.ensures c.in_err-behind.ensures)

pub returns : goal.returns
returns c = counters_taken c.in_ok-last.last c.in_ok-evaluations.evaluations c.args.text.now c.in_ok-at_last.at_last.now c.in_ok-last.at_evaluations.now c.in_ok-evaluations.at_end.now c.in_ok-behind.behind.now c.in_ok-at_last.ensures c.in_ok-last.ensures c.in_ok-evaluations.ensures c.in_ok-behind.ensures
