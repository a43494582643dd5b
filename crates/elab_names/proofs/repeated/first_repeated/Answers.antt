-- A name that was seen, or one more.
use Rattle.std.proofs.Common.{◌<◌, length, arith, add-one}
use Rattle.elab_declared.proofs.Again.{found-again, one-seen}
use Rattle.elab_names.proofs.repeated.first_repeated.Goals as goal

pub returns-then-not-branch : goal.returns-then-not-branch
returns-then-not-branch c =
    let lt : c.loop-name.name-index < length c.args.names.now = omega arith in
    found-again _ c.loop-name.seen.keys c.args.names.now c.loop-name.name-index c.in_ok-insert.field-0 lt c.in_ok-insert.ensures.added c.if-not-branch.true c.loop-name.invariant

pub loop-name-preserved : goal.loop-name-preserved
loop-name-preserved c =
    let lt : c.loop-name.name-index < length c.args.names.now = omega arith in
    rw add-one (one-seen _ c.loop-name.seen.keys c.insert.new.self.keys c.args.names.now c.loop-name.name-index c.in_ok-insert.field-0 lt c.in_ok-insert.ensures.added c.if-not-branch.false c.in_ok-insert.ensures.keys c.loop-name.invariant)
