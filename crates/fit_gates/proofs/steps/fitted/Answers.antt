-- One bit more.
use Rattle.std.proofs.Common.{arith}
use Rattle.fit_gates.proofs.LoopLaws.{fitted_turn}
use Rattle.fit_gates.proofs.steps.fitted.Goals as goal

pub loop-left-preserved : goal.loop-left-preserved
loop-left-preserved c =
    fitted_turn c.loop-left.made.items c.push.new.self.items c.split-bit.result.0 c.loop-left.rest.now c.split-bit.result.1.now _ c.loop-left.left (omega arith) c.loop-left.invariant c.split-bit.ensures.first
    c.split-bit.ensures.behind c.in_ok-push.ensures.items
