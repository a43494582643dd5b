use Rattle.std.proofs.Common.{◌<◌, length, slice_index_or, arith, refl}
use Rattle.fan_round.proofs.NetLaws.{changed-within}
use Rattle.fan_round.proofs.StampLaws.{stamped_more, stamped_all}
use Rattle.fan_round.proofs.nets.stamp_nets.Goals as goal

pub bounds-before-at : goal.bounds-before-at
bounds-before-at c = changed-within _ _ _ c.loop-net.net-index 0 c.requires.changed c.loop-net-test.true

pub bounds-values-at : goal.bounds-values-at
bounds-values-at c =
    let m : slice_index_or c.args.changed.now c.loop-net.net-index 0 < length c.args.before.now = changed-within _ _ _ c.loop-net.net-index 0 c.requires.changed c.loop-net-test.true in
    let many = c.requires.changed.as_many in
    omega arith

pub bounds-stamps-at : goal.bounds-stamps-at
bounds-stamps-at c =
    let m : slice_index_or c.args.changed.now c.loop-net.net-index 0 < length c.args.before.now = changed-within _ _ _ c.loop-net.net-index 0 c.requires.changed c.loop-net-test.true in
    let same = c.loop-net.auto.stamps in
    let many = c.requires.as_many in
    omega arith

pub loop-net-preserved : goal.loop-net-preserved
loop-net-preserved c = stamped_more c.args.now c.args.before.now c.args.values.now c.args.changed.now c.loop-net.net-index 0 _ _ c.args.stamps.now c.loop-net.stamps c.requires.changed c.loop-net-test.true refl refl refl c.loop-net.invariant

pub returns : goal.returns
returns c = stamped_all c.args.now c.args.before.now c.args.values.now c.args.changed.now c.loop-net.net-index c.args.stamps.now c.loop-net.stamps c.requires.changed c.loop-net-test.false c.loop-net.invariant
