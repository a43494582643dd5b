-- A line of this kind is in front, or none.
use Rattle.sim_save.proofs.TakeLaws.{check_taken, no_check, no_check_datum, no_check_end, no_check_refer}
use Rattle.sim_save.proofs.lines.take_check.Goals as goal

pub returns-in_err-at_refer : goal.returns-in_err-at_refer
returns-in_err-at_refer c = rw c.from_residual.ensures (no_check c.args.text.now c.in_err-at_refer.ensures)

pub returns-in_err-refer : goal.returns-in_err-refer
returns-in_err-refer c = rw c.from_residual-in_err-refer.ensures (no_check_refer c.args.text.now c.in_ok-at_refer.at_refer.now c.in_ok-at_refer.ensures c.in_err-refer.ensures)

pub returns-in_err-datum : goal.returns-in_err-datum
returns-in_err-datum c = rw c.from_residual-in_err-datum.ensures (no_check_datum c.args.text.now c.in_ok-at_refer.at_refer.now c.in_ok-refer.refer c.in_ok-refer.at_datum.now c.in_ok-at_refer.ensures c.in_ok-refer.ensures c.in_err-datum.ensures)

pub returns-in_err-behind : goal.returns-in_err-behind
returns-in_err-behind c = rw c.from_residual-in_err-behind.ensures (no_check_end c.args.text.now c.in_ok-at_refer.at_refer.now c.in_ok-refer.refer c.in_ok-refer.at_datum.now c.in_ok-datum.datum c.in_ok-datum.at_end.now c.in_ok-at_refer.ensures c.in_ok-refer.ensures c.in_ok-datum.ensures c.in_err-behind.ensures)

pub returns : goal.returns
returns c = check_taken (record { refer = c.in_ok-refer.refer; datum = c.in_ok-datum.datum }) c.args.text.now c.in_ok-at_refer.at_refer.now c.in_ok-refer.at_datum.now c.in_ok-datum.at_end.now c.in_ok-behind.behind.now c.in_ok-at_refer.ensures c.in_ok-refer.ensures c.in_ok-datum.ensures c.in_ok-behind.ensures
