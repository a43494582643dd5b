-- One more has come.
use Rattle.std.proofs.Common.{option_map, refl}
use Rattle.std.specs.Option.{option_to_list}
use Rattle.vl_tree.specs.Seen.{view_expression}
use Rattle.elab_nets.proofs.MemberBits.{none-yet, one-come, all-come, ordered_of, ordered-cons}
use Rattle.elab_nets.proofs.member_bits.add_ordered.Goals as goal

pub loop-value-init : goal.loop-value-init
loop-value-init c = record { coming = none-yet c.args.table.now (ordered_of c.args.values.now) c.args.room.now; row = λ old. old }

pub loop-value-preserved : goal.loop-value-preserved
loop-value-preserved c = record {
  coming = one-come c.args.table.now ordered_of (λ x. option_to_list (option_map view_expression x)) ordered-cons c.args.values.now c.loop-value.value-index c.value-item.result c.args.room.now
      c.loop-value.room c.add_value.new.room c.loop-value-test.true c.value-item.is
      c.in_ok-add_value.ensures.bits c.loop-value.invariant.coming;
  row = λ old. c.add_value.ensures.row (c.loop-value.invariant.row old);
}

pub returns-clause-bits : goal.returns-clause-bits
returns-clause-bits c =
    all-come c.args.table.now ordered_of c.args.values.now c.loop-value.value-index c.args.room.now c.loop-value.room refl c.loop-value-test.false c.loop-value.invariant.coming
