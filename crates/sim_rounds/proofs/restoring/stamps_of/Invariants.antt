use Rattle.std.proofs.Common.{◌≡◌, map, take}
use Rattle.fan_round.specs.Nets.{stamp_seen}
use Rattle.sim_rounds.specs.MomentsSeen.{change_seen}
use Rattle.sim_rounds.proofs.restoring.stamps_of.Given as goal

abbrev pub invariant-loop-change : goal.invariant-loop-change
invariant-loop-change l = map stamp_seen l.stamps.items ≡ map change_seen (take l.change-index l.changes)
