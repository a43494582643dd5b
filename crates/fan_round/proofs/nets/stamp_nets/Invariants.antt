use Rattle.std.proofs.Common.{◌≡◌, map, take, None}
use Rattle.sg_model.specs.Round.{stamp_after}
use Rattle.fan_round.specs.Lists.{at_places}
use Rattle.fan_round.specs.Nets.{stamp_seen}
use Rattle.fan_round.proofs.nets.stamp_nets.Given as goal

abbrev pub invariant-loop-net : goal.invariant-loop-net
invariant-loop-net l = map stamp_seen l.stamps ≡ at_places (stamp_after l.now l.before l.values) None (take l.net-index l.changed) (map stamp_seen l.fn.stamps)
