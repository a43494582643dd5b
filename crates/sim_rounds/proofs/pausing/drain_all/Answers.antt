use Rattle.std.proofs.Common.{◌∙◌, map, arith, ◌-◌}
use Rattle.sim_rounds.specs.MomentsSeen.{pending_seen}
use Rattle.sim_rounds.proofs.PausingLaws.{all_drained_more}
use Rattle.sim_rounds.proofs.pausing.drain_all.Goals as goal

pub loop-driver-preserved : goal.loop-driver-preserved
loop-driver-preserved g c =
    let lists = g.A.Agenda.lists in
    let more = all_drained_more (c.loop-driver.driver - 1) c.loop-driver.driver (lists c.args.agenda.now) (lists c.loop-driver.agenda) (lists c.drain.new.agenda) (map (λ p. pending_seen p) c.loop-driver.pending.items) (map (λ p. pending_seen p) c.drain.new.pending.items)
    (omega (arith, c.loop-driver-test.true)) (omega (arith, c.loop-driver.auto.driver, c.requires.drivers)) c.loop-driver.invariant.taken c.loop-driver.invariant.below c.in_ok-drain.ensures.pending c.in_ok-drain.ensures.below in
    record { many = c.in_ok-drain.ensures.many ∙ c.loop-driver.invariant.many; below = more.1; taken = more.0 }
