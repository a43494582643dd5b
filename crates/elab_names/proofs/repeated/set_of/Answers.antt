-- One name more is in the set.
use Rattle.std.proofs.Common.{◌<◌, length, arith}
use Rattle.elab_declared.proofs.Again.{set-next}
use Rattle.elab_names.proofs.repeated.set_of.Goals as goal

pub loop-name-preserved : goal.loop-name-preserved
loop-name-preserved c =
    let lt : c.loop-name.name-index < length c.args.names.now = omega arith in
    set-next _ c.loop-name.seen.keys c.insert.new.self.keys c.args.names.now c.loop-name.name-index lt c.in_ok-insert.ensures.keys c.loop-name.invariant
