use Rattle.std.proofs.Common.{◌≡◌, length, ap, arith}
use Rattle.fan_round.proofs.NetLaws.{unchanged_new}
use Rattle.fan_round.proofs.nets.Nets.new.Goals as goal

pub returns-clause-nets : goal.returns-clause-nets
returns-clause-nets c =
    let before : length c.in_ok-from_slice-2.field-0.items ≡ length c.args.values.now = ap length c.in_ok-from_slice-2.ensures.items in
    let values : length c.in_ok-from_slice.field-0.items ≡ length c.args.values.now = ap length c.in_ok-from_slice.ensures.items in
    record {
      changed = unchanged_new _ _ c.args.values.now _ c.in_ok-from_slice.ensures.items c.in_ok-from_slice-2.ensures.items c.in_ok-with_capacity.ensures.items;
      stamps = omega (arith, c.in_ok-vec.ensures.len, c.in_ok-vec.field-0.ok);
      room = omega (arith, c.in_ok-with_capacity.ensures.exact);
    }
