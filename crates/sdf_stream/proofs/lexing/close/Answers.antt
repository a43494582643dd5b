-- A piece more.
use Rattle.sdf_stream.proofs.Passing.{grown_on}
use Rattle.sdf_stream.proofs.lexing.close.Goals as goal

pub more-preserved : goal.more-preserved
more-preserved c = grown_on c.args.window.now c.more.window c.step.new.window c.more.invariant c.in_ok-step.ensures.grown
