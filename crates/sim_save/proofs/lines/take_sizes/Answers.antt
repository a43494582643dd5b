-- A line of this kind is in front, or none.
use Rattle.sim_save.proofs.TakeLaws.{no_checks, no_elements, no_nets, no_sizes_end, no_udps, sizes_taken}
use Rattle.sim_save.proofs.lines.take_sizes.Goals as goal

pub returns-in_err-nets : goal.returns-in_err-nets
returns-in_err-nets c = rw c.from_residual.ensures (no_nets c.args.text.now c.in_err-nets.ensures)

pub returns-in_err-elements : goal.returns-in_err-elements
returns-in_err-elements c = rw c.from_residual-in_err-elements.ensures (no_elements c.args.text.now c.in_ok-nets.nets c.in_ok-nets.at_elements.now c.in_ok-nets.ensures c.in_err-elements.ensures)

pub returns-in_err-udps : goal.returns-in_err-udps
returns-in_err-udps c = rw c.from_residual-in_err-udps.ensures (no_udps c.args.text.now c.in_ok-nets.nets c.in_ok-nets.at_elements.now c.in_ok-elements.elements c.in_ok-elements.at_udps.now c.in_ok-nets.ensures c.in_ok-elements.ensures c.in_err-udps.ensures)

pub returns-in_err-checks : goal.returns-in_err-checks
returns-in_err-checks c = rw c.from_residual-in_err-checks.ensures (no_checks c.args.text.now c.in_ok-nets.nets c.in_ok-nets.at_elements.now c.in_ok-elements.elements c.in_ok-elements.at_udps.now c.in_ok-udps.udps c.in_ok-udps.at_checks.now c.in_ok-nets.ensures c.in_ok-elements.ensures c.in_ok-udps.ensures c.in_err-checks.ensures)

pub returns-in_err-behind : goal.returns-in_err-behind
returns-in_err-behind c = rw c.from_residual-in_err-behind.ensures (no_sizes_end c.args.text.now c.in_ok-nets.nets c.in_ok-nets.at_elements.now c.in_ok-elements.elements c.in_ok-elements.at_udps.now c.in_ok-udps.udps c.in_ok-udps.at_checks.now c.in_ok-checks.checks c.in_ok-checks.at_end.now c.in_ok-nets.ensures c.in_ok-elements.ensures c.in_ok-udps.ensures c.in_ok-checks.ensures c.in_err-behind.ensures)

pub returns : goal.returns
returns c = sizes_taken c.args.text.now c.in_ok-nets.nets c.in_ok-nets.at_elements.now c.in_ok-elements.elements c.in_ok-elements.at_udps.now c.in_ok-udps.udps c.in_ok-udps.at_checks.now c.in_ok-checks.checks c.in_ok-checks.at_end.now c.in_ok-behind.behind.now c.in_ok-nets.ensures c.in_ok-elements.ensures c.in_ok-udps.ensures c.in_ok-checks.ensures c.in_ok-behind.ensures
