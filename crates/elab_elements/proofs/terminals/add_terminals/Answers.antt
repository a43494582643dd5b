-- One terminal more has its bits.
use Rattle.std.proofs.Common.{map}
use Rattle.std.proofs.lemmas.List.{map-append}
use Rattle.vl_tree.specs.Seen.{view_expression}
use Rattle.elab_elements.proofs.TerminalBits.{begins, one-added, all-added}
use Rattle.elab_elements.proofs.terminals.add_terminals.Goals as goal

pub loop-terminal-init : goal.loop-terminal-init
loop-terminal-init c = record { added = begins c.args.table.now c.args.outputs c.args.room.now; row = λ old. old }

pub loop-terminal-preserved : goal.loop-terminal-preserved
loop-terminal-preserved c = record {
  added = one-added (map view_expression) (map-append view_expression) c.args.table.now c.args.outputs c.loop-terminal.rest c.in_ok-rest.rest c.args.terminals.now c.loop-terminal.terminal-index
      c.terminal-item.result
      c.args.room.now c.loop-terminal.room c.add_terminal.new.room c.loop-terminal-test.true c.terminal-item.is c.loop-terminal.invariant.added c.in_ok-rest.ensures.bits c.in_ok-rest.ensures.count;
  row = λ old. c.add_terminal.ensures.row (c.loop-terminal.invariant.row old);
}

pub returns-in_err-rest-clause-row : goal.returns-in_err-rest-clause-row
returns-in_err-rest-clause-row c = λ old. c.add_terminal.ensures.row (c.loop-terminal.invariant.row old)

pub returns-clause-bits : goal.returns-clause-bits
returns-clause-bits c =
    all-added (map view_expression) (map-append view_expression) c.args.table.now c.args.outputs c.loop-terminal.rest c.args.terminals.now c.loop-terminal.terminal-index c.args.room.now c.loop-terminal.room
    c.loop-terminal-test.false c.loop-terminal.invariant.added
