-- A name that is one of the others, or one more that isn't.
use Rattle.std.proofs.Common.{◌<◌, length, arith, add-one}
use Rattle.elab_primitives.proofs.Among.{found, passed}
use Rattle.elab_primitives.proofs.declarations.first_among.Goals as goal

pub returns-then-is_named : goal.returns-then-is_named
returns-then-is_named c =
    let lt : c.loop-name.name-index < length c.args.names.now = omega arith in
    found _ c.args.others.now c.args.names.now c.loop-name.name-index c.is_named.result lt c.is_named.ensures c.if-is_named.true c.loop-name.invariant

pub loop-name-preserved : goal.loop-name-preserved
loop-name-preserved c =
    let lt : c.loop-name.name-index < length c.args.names.now = omega arith in
    rw add-one (passed _ c.args.others.now c.args.names.now c.loop-name.name-index c.is_named.result lt c.is_named.ensures c.if-is_named.false c.loop-name.invariant)
