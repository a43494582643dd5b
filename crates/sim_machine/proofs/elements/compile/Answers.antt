use Rattle.std.proofs.Common.{subst, sym, take, ◌+◌}
use Rattle.sim_machine.specs.Elements.{AreTables}
use Rattle.sim_machine.proofs.ElementLaws.{tables_more}
use Rattle.sim_machine.proofs.elements.compile.Goals as goal

pub loop-udp-preserved : goal.loop-udp-preserved
loop-udp-preserved c =
    subst (λ ts. AreTables (take (c.loop-udp.udp-index + 1) c.args.udps.now) ts) (sym c.in_ok-push.ensures.items)
    (tables_more c.args.udps.now c.loop-udp.udp-index c.udp-item.result c.loop-udp.tables.items c.in_ok-build.field-0 c.loop-udp-test.true c.udp-item.is c.loop-udp.invariant c.in_ok-build.ensures.whole c.in_ok-build.ensures.table)
