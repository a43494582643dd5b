-- A line of this kind is in front, or none.
use Rattle.sim_rounds.specs.MomentsSeen.{pending_seen}
use Rattle.sim_save.proofs.TakeLaws.{no_pending, no_pending_driver, no_pending_end, no_pending_time, no_pending_value, pending_taken}
use Rattle.sim_save.proofs.lines.take_pending.Goals as goal

pub returns-in_err-at_driver : goal.returns-in_err-at_driver
returns-in_err-at_driver c = rw c.from_residual.ensures (no_pending c.args.text.now c.in_err-at_driver.ensures)

pub returns-in_err-driver : goal.returns-in_err-driver
returns-in_err-driver c = rw c.from_residual-in_err-driver.ensures (no_pending_driver c.args.text.now c.in_ok-at_driver.at_driver.now c.in_ok-at_driver.ensures c.in_err-driver.ensures)

pub returns-in_err-time : goal.returns-in_err-time
returns-in_err-time c = rw c.from_residual-in_err-time.ensures (no_pending_time c.args.text.now c.in_ok-at_driver.at_driver.now c.in_ok-driver.driver c.in_ok-driver.at_time.now c.in_ok-at_driver.ensures c.in_ok-driver.ensures c.in_err-time.ensures)

pub returns-in_err-value : goal.returns-in_err-value
returns-in_err-value c = rw c.from_residual-in_err-value.ensures (no_pending_value c.args.text.now c.in_ok-at_driver.at_driver.now c.in_ok-driver.driver c.in_ok-driver.at_time.now c.in_ok-time.time c.in_ok-time.at_value.now c.in_ok-at_driver.ensures c.in_ok-driver.ensures c.in_ok-time.ensures c.in_err-value.ensures)

pub returns-in_err-behind : goal.returns-in_err-behind
returns-in_err-behind c = rw c.from_residual-in_err-behind.ensures (no_pending_end c.args.text.now c.in_ok-at_driver.at_driver.now c.in_ok-driver.driver c.in_ok-driver.at_time.now c.in_ok-time.time c.in_ok-time.at_value.now c.in_ok-value.value c.in_ok-value.at_end.now c.in_ok-at_driver.ensures c.in_ok-driver.ensures c.in_ok-time.ensures c.in_ok-value.ensures c.in_err-behind.ensures)

pub returns : goal.returns
returns c = pending_taken (pending_seen (record { driver = c.in_ok-driver.driver; time = c.in_ok-time.time; value = c.in_ok-value.value })) c.args.text.now c.in_ok-at_driver.at_driver.now c.in_ok-driver.at_time.now c.in_ok-time.at_value.now c.in_ok-value.at_end.now c.in_ok-behind.behind.now c.in_ok-at_driver.ensures c.in_ok-driver.ensures c.in_ok-time.ensures c.in_ok-value.ensures c.in_ok-behind.ensures
