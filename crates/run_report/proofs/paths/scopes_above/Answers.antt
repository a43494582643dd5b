use Rattle.run_report.specs.Above.{scopes_above}
use Rattle.run_report.proofs.PathLaws.{climb_less, climb_more}
use Rattle.run_report.proofs.paths.scopes_above.Goals as goal

pub loop-next-smaller : goal.loop-next-smaller
loop-next-smaller c =
    rw c.in-Some.is
    (climb_less c.args.circuit.now c.in-Some.outer c.parent_of-next-in-Some.result c.parent_of-next.ensures.closed c.parent_of-next-in-Some.ensures.parent)

pub loop-next-preserved : goal.loop-next-preserved
loop-next-preserved c =
    climb_more c.args.circuit.now c.in-Some.outer c.parent_of-next-in-Some.result c.loop-next.above.items c.push.new.self.items (scopes_above c.args.circuit.now c.args.scope)
    c.parent_of-next.ensures.closed c.parent_of-next-in-Some.ensures.parent c.in_ok-push.ensures.items (rw c.in-Some.is at c.loop-next.invariant)
