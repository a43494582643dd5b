-- The values so far are those of the delays so far.
use Rattle.std.proofs.Common.{◌≡◌, map, take}
use Rattle.sdf_tree.specs.Meant as meant
use Rattle.sdf_tree.specs.Seen.{view_delay}
use Rattle.sdf_meaning.specs.MeantSeen.{view_delay_value}
use Rattle.sdf_meaning.proofs.numbers.delay_values.Given as goal

abbrev pub invariant-loop-delay : goal.invariant-loop-delay
invariant-loop-delay l = map view_delay_value l.values.items ≡ map meant.delay_value_of (map view_delay (take l.delay-index l.delays))
