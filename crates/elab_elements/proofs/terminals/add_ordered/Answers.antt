-- One connection more has its bits.
use Rattle.std.proofs.Common.{filter_map, map, option_map}
use Rattle.vl_tree.specs.Seen.{view_expression}
use Rattle.elab_elements.proofs.TerminalBits.{begins, chosen-append, one-added, all-added}
use Rattle.elab_elements.proofs.terminals.add_ordered.Goals as goal

pub loop-value-init : goal.loop-value-init
loop-value-init c = record { added = begins c.args.table.now c.args.outputs c.args.room.now; row = λ old. old }

pub loop-value-preserved : goal.loop-value-preserved
loop-value-preserved c = record {
  added = one-added (λ xs. filter_map (λ e. e) (map (option_map view_expression) xs))
      (chosen-append (λ e. e) (option_map view_expression)) c.args.table.now c.args.outputs c.loop-value.rest c.in_ok-rest.rest c.args.values.now c.loop-value.value-index c.value-item.result
      c.args.room.now c.loop-value.room c.add_present.new.room c.loop-value-test.true c.value-item.is c.loop-value.invariant.added c.in_ok-rest.ensures.bits c.in_ok-rest.ensures.count;
  row = λ old. c.add_present.ensures.row (c.loop-value.invariant.row old);
}

pub returns-in_err-rest-clause-row : goal.returns-in_err-rest-clause-row
returns-in_err-rest-clause-row c = λ old. c.add_present.ensures.row (c.loop-value.invariant.row old)

pub returns-clause-bits : goal.returns-clause-bits
returns-clause-bits c =
    all-added (λ xs. filter_map (λ e. e) (map (option_map view_expression) xs)) (chosen-append (λ e. e)
    (option_map view_expression)) c.args.table.now c.args.outputs c.loop-value.rest c.args.values.now c.loop-value.value-index c.args.room.now c.loop-value.room
    c.loop-value-test.false c.loop-value.invariant.added
