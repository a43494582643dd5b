-- The tokens have grown, and where there are more some of the text was read.
use Rattle.std.proofs.Common.{◌<◌, length}
use Rattle.sdf_stream.specs.Windows.{Grown}
use Rattle.sdf_stream.proofs.lexing.more.Given as goal

abbrev pub invariant-more : goal.invariant-more
invariant-more l = record {
  grown : Grown l.fn.window l.window;
  some : length l.fn.window.tokens.items < length l.window.tokens.items → length l.window.rest.now < length l.fn.window.rest.now;
}

abbrev pub decreases-more : goal.decreases-more
decreases-more l = length l.window.rest.now
