-- One more has come.
use Rattle.std.proofs.Common.{option_map, refl}
use Rattle.std.specs.Option.{option_to_list}
use Rattle.vl_tree.specs.Seen.{view_expression}
use Rattle.elab_nets.proofs.MemberBits.{none-yet, one-come, all-come, named_of, named-cons}
use Rattle.elab_nets.proofs.member_bits.add_named.Goals as goal

pub loop-connection-init : goal.loop-connection-init
loop-connection-init c = record { coming = none-yet c.args.table.now (named_of c.args.connections.now) c.args.room.now; row = λ old. old }

pub loop-connection-preserved : goal.loop-connection-preserved
loop-connection-preserved c = record {
  coming = one-come c.args.table.now named_of (λ x. option_to_list (option_map view_expression x.value)) named-cons c.args.connections.now c.loop-connection.connection-index c.connection-item.result
      c.args.room.now c.loop-connection.room c.add_value.new.room c.loop-connection-test.true c.connection-item.is
      c.in_ok-add_value.ensures.bits c.loop-connection.invariant.coming;
  row = λ old. c.add_value.ensures.row (c.loop-connection.invariant.row old);
}

pub returns-clause-bits : goal.returns-clause-bits
returns-clause-bits c =
    all-come c.args.table.now named_of c.args.connections.now c.loop-connection.connection-index c.args.room.now c.loop-connection.room refl c.loop-connection-test.false c.loop-connection.invariant.coming
