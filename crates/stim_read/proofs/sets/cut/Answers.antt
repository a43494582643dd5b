-- The `=` that is found is the last one.
use Rattle.stim_read.proofs.SetLaws.{found-last}
use Rattle.stim_read.proofs.sets.cut.Goals as goal

pub returns-then-last-eq61 : goal.returns-then-last-eq61
returns-then-last-eq61 c =
    found-last c.args.word.now c.loop-front.left.now c.in-Some.front.now c.in-Some.last c.in-Some.ensures c.loop-front.invariant.whole c.if-last-eq61.true c.loop-front.invariant.none
