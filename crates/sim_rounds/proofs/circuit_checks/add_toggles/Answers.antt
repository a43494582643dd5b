use Rattle.std.proofs.Common.{map}
use Rattle.sg_stimulus.specs.Seen.{set_seen}
use Rattle.sim_rounds.proofs.ToggleLaws.{toggled_more}
use Rattle.sim_rounds.proofs.circuit_checks.add_toggles.Goals as goal

pub loop-net-preserved : goal.loop-net-preserved
loop-net-preserved c =
    toggled_more c.args.values.now c.args.nets.now c.loop-net.net-index 0 (map (λ s. set_seen s) c.loop-net.toggles.items) (map (λ s. set_seen s) c.add_toggle.new.toggles.items) c.loop-net-test.true c.loop-net.invariant c.in_ok-add_toggle.ensures
