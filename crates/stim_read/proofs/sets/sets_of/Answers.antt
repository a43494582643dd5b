-- One word more.
use Rattle.std.proofs.Common.{arith}
use Rattle.stim_read.proofs.Slices.{first-at, empty-one}
use Rattle.stim_read.proofs.SetLaws.{set-read, no-set-read, sets-read}
use Rattle.stim_read.proofs.sets.sets_of.Goals as goal

pub returns-in_default-set_of : goal.returns-in_default-set_of
returns-in_default-set_of c = no-set-read _ c.loop-rest.rest.now _ _ _ (first-at c.loop-rest.rest.now _ c.in-len1-up.len_at_least) c.in_default-set_of.ensures c.loop-rest.invariant

pub loop-rest-preserved : goal.loop-rest-preserved
loop-rest-preserved c = set-read _ c.loop-rest.rest.now _ _ _ _ _ (first-at c.loop-rest.rest.now _ c.in-len1-up.len_at_least) c.in-Some.ensures c.in_ok-push.ensures.items c.loop-rest.invariant

pub returns : goal.returns
returns c = sets-read _ c.loop-rest.rest.now _ (empty-one c.loop-rest.rest.now (omega (arith, c.in_default.len_below))) c.loop-rest.invariant
