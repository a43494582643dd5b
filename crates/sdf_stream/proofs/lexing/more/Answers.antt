-- A piece more.
use Rattle.std.proofs.Common.{arith}
use Rattle.sdf_stream.proofs.Passing.{grown_on}
use Rattle.sdf_stream.proofs.lexing.more.Goals as goal

pub more-preserved : goal.more-preserved
more-preserved c = record {
  grown = grown_on c.args.window.now c.more.window c.step.new.window c.more.invariant.grown c.in_ok-step.ensures.grown;
  some = λ _. omega (arith, c.more.invariant.grown.passed.nearer, c.in_ok-step.ensures.nearer);
}
