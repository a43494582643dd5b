-- One wire more.
use Rattle.std.proofs.Common.{arith}
use Rattle.fit_gates.proofs.LoopLaws.{wires_turn}
use Rattle.fit_gates.proofs.steps.wires.Goals as goal

pub loop-left-preserved : goal.loop-left-preserved
loop-left-preserved c =
    wires_turn c.loop-left.made.items c.push.new.self.items c.loop-left.place c.in_ok-behind.behind c.loop-left.left _ (omega arith) c.loop-left.invariant c.in_ok-behind.ensures c.in_ok-push.ensures.items
