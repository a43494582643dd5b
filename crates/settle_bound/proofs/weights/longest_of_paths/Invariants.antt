use Rattle.std.proofs.Common.{◌≡◌, map, take}
use Rattle.std.specs.List.{flat_map}
use Rattle.sg_circuit.specs.PathsSeen.{paths_seen}
use Rattle.settle_bound.specs.Hops.{longest}
use Rattle.settle_bound.proofs.weights.longest_of_paths.Given as goal

abbrev pub invariant-loop-path : goal.invariant-loop-path
invariant-loop-path l = l.most ≡ longest (flat_map (λ p. map (λ t. t.delay) p.timings) (take l.path-index (paths_seen l.parts.conditions.items l.parts.leg_timings.items l.paths)))
