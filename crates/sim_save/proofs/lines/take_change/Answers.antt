-- A change's words are in front, or none.
use Rattle.sim_save.proofs.TakeLaws.{change_taken, no_change_before, no_change_end, no_change_time}
use Rattle.sim_save.proofs.lines.take_change.Goals as goal

pub returns-in_err-time : goal.returns-in_err-time
returns-in_err-time c = rw c.from_residual.ensures (no_change_time c.args.after c.args.text.now c.in_default.ensures c.in_err-time.ensures)

pub returns-in_err-before : goal.returns-in_err-before
returns-in_err-before c =
    rw c.from_residual-in_err-before.ensures (no_change_before c.args.after c.args.text.now c.in_ok-time.time c.in_ok-time.at_before.now c.in_default.ensures c.in_ok-time.ensures c.in_err-before.ensures)

pub returns-in_err-behind : goal.returns-in_err-behind
returns-in_err-behind c =
    rw c.from_residual-in_err-behind.ensures
    (no_change_end c.args.after c.args.text.now c.in_ok-time.time c.in_ok-time.at_before.now c.in_ok-before.before c.in_ok-before.at_end.now c.in_default.ensures c.in_ok-time.ensures c.in_ok-before.ensures c.in_err-behind.ensures)

pub returns : goal.returns
returns c =
    change_taken (record { time = c.in_ok-time.time; before = c.in_ok-before.before; after = c.args.after }) c.args.text.now c.in_ok-time.at_before.now c.in_ok-before.at_end.now c.in_ok-behind.behind.now
    c.in_ok-time.ensures c.in_ok-before.ensures c.in_ok-behind.ensures
