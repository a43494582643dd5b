-- One connection more has its bits.
use Rattle.std.proofs.Common.{filter_map, map}
use Rattle.vl_tree.specs.Seen.{view_named_connection}
use Rattle.elab_elements.proofs.TerminalBits.{begins, chosen-append, one-added, all-added}
use Rattle.elab_elements.proofs.terminals.add_named.Goals as goal

pub loop-connection-init : goal.loop-connection-init
loop-connection-init c = record { added = begins c.args.table.now c.args.outputs c.args.room.now; row = λ old. old }

pub loop-connection-preserved : goal.loop-connection-preserved
loop-connection-preserved c = record {
  added = one-added (λ xs. filter_map (λ c. c.value) (map view_named_connection xs))
      (chosen-append (λ c. c.value) view_named_connection) c.args.table.now c.args.outputs c.loop-connection.rest c.in_ok-rest.rest c.args.connections.now c.loop-connection.connection-index
      c.connection-item.result
      c.args.room.now c.loop-connection.room c.add_present.new.room c.loop-connection-test.true c.connection-item.is c.loop-connection.invariant.added c.in_ok-rest.ensures.bits c.in_ok-rest.ensures.count;
  row = λ old. c.add_present.ensures.row (c.loop-connection.invariant.row old);
}

pub returns-in_err-rest-clause-row : goal.returns-in_err-rest-clause-row
returns-in_err-rest-clause-row c = λ old. c.add_present.ensures.row (c.loop-connection.invariant.row old)

pub returns-clause-bits : goal.returns-clause-bits
returns-clause-bits c =
    all-added (λ xs. filter_map (λ c. c.value) (map view_named_connection xs)) (chosen-append
    (λ c. c.value) view_named_connection) c.args.table.now c.args.outputs c.loop-connection.rest c.args.connections.now c.loop-connection.connection-index c.args.room.now c.loop-connection.room
    c.loop-connection-test.false c.loop-connection.invariant.added
