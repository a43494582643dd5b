use Rattle.std.proofs.Common.{◌<◌, length, slice_index_or, sym, subst, arith}
use Rattle.fan_round.specs.Nets.{AreChanged}
use Rattle.fan_round.proofs.NetLaws.{changed-within, settle_more, settled, unchanged_now}
use Rattle.fan_round.proofs.nets.settle.Goals as goal

pub bounds-values-net : goal.bounds-values-net
bounds-values-net c =
    let are = subst (λ xs. AreChanged c.args.before.now c.args.values.now xs) (sym c.deref-net-items.ensures.value) c.requires in
    let m : slice_index_or c.deref-net-items.result.now c.loop-net.net-index 0 < length c.args.before.now = changed-within _ _ _ c.loop-net.net-index 0 are c.loop-net-test.true in
    let many = c.requires.as_many in
    omega arith

pub bounds-before-net : goal.bounds-before-net
bounds-before-net c =
    let are = subst (λ xs. AreChanged c.args.before.now c.args.values.now xs) (sym c.deref-net-items.ensures.value) c.requires in
    let m : slice_index_or c.deref-net-items.result.now c.loop-net.net-index 0 < length c.args.before.now = changed-within _ _ _ c.loop-net.net-index 0 are c.loop-net-test.true in
    let same = c.loop-net.auto.before in
    omega arith

pub loop-net-preserved : goal.loop-net-preserved
loop-net-preserved c =
    let are = subst (λ xs. AreChanged c.args.before.now c.args.values.now xs) (sym c.deref-net-items.ensures.value) c.requires in
    settle_more c.args.before.now c.args.values.now c.deref-net-items.result.now c.loop-net.before c.loop-net.net-index 0 _ are c.loop-net-test.true c.loop-net.invariant

pub returns-clause-before : goal.returns-clause-before
returns-clause-before c =
    let are = subst (λ xs. AreChanged c.args.before.now c.args.values.now xs) (sym c.deref-net-items.ensures.value) c.requires in
    settled c.args.before.now c.args.values.now c.deref-net-items.result.now c.loop-net.before c.loop-net.net-index are c.loop-net-test.false c.loop-net.invariant

pub returns-clause-changed : goal.returns-clause-changed
returns-clause-changed c =
    let are = subst (λ xs. AreChanged c.args.before.now c.args.values.now xs) (sym c.deref-net-items.ensures.value) c.requires in
    unchanged_now c.loop-net.before c.args.values.now c.clear.new.self.items
    (settled c.args.before.now c.args.values.now c.deref-net-items.result.now c.loop-net.before c.loop-net.net-index are c.loop-net-test.false c.loop-net.invariant) c.clear.ensures.items
