-- The tokens have grown.
use Rattle.std.proofs.Common.{length}
use Rattle.sdf_stream.specs.Windows.{Grown}
use Rattle.sdf_stream.proofs.lexing.close.Given as goal

abbrev pub invariant-more : goal.invariant-more
invariant-more l = Grown l.fn.window l.window

abbrev pub decreases-more : goal.decreases-more
decreases-more l = length l.window.rest.now
