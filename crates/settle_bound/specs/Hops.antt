-- The hops by which a change goes from net to net: the elements of a circuit, and its timing checks with their notifiers.
use Rattle.std.specs.Prelude.{◌≡◌, ℕ, ◌<◌, max, List, [], ◌∷◌, length, map, flat_map, Contains, Option, Some, IsSome}
use Rattle.sg_circuit.specs.Circuit.{Circuit, Kind, Gate, Udp, Pass, Leg, Path, Late, element_at}
use Rattle.time_checks.specs.Adjusted.{adjusted_checks}
use Rattle.time_checks.specs.Checking.{check_at}
use Rattle.time_checks.specs.Within.{terminals}
use Rattle.sim_rounds.specs.Notifiers.{notifier_at}
use Rattle.settle_bound.specs.declared.hops.Hop.{Hop}
use Rattle.settle_bound.specs.declared.hops.Hop.TheVariants.{Element, Check}

-- a hop of a circuit: an element, or a timing check that has a notifier
abbrev pub IsHop : Circuit → Hop → Type 0
IsHop c (Element e) = e < length c.elements
IsHop c (Check k) = (k < length c.checks) × IsSome (notifier_at c.checks k)

-- the nets that it reads: an element's inputs; those at which a check sees its events, which may be delayed signals (IEEE
-- 1364-2005, 15.8)
abbrev pub nets_read : Circuit → Hop → List ℕ
nets_read c (Element e) = (element_at c e).inputs
nets_read c (Check k) = terminals (check_at (adjusted_checks c) k)

-- the net that it drives: an element's output, a check's notifier (15.5)
abbrev pub net_driven : Circuit → Hop → Option ℕ
net_driven c (Element e) = Some (element_at c e).output
net_driven c (Check k) = notifier_at c.checks k

-- a hop reads the net that the one before it drives
pub record Reads (c : Circuit) (before hop : Hop) : Type 0 where
  pub net : ℕ
  pub driven : net_driven c before ≡ Some net
  pub read : Contains (nets_read c hop) net

-- the greatest of some delays; where there is none, 0
abbrev pub longest : List ℕ → ℕ
longest [] = 0
longest (d ∷ ds) = max d (longest ds)

-- the greatest delay of an element of a kind (7.14, 8.6, 14.3, 15.8)
abbrev pub longest_delay : Kind → ℕ
longest_delay (Gate kind delays) = longest delays
longest_delay (Udp primitive first delays) = longest delays
longest_delay (Pass constant) = 0
longest_delay (Leg timings) = longest (map (λ t. t.delay) timings)
longest_delay (Path paths style) = longest (flat_map (λ p. map (λ t. t.delay) p.timings) paths)
longest_delay (Late delay) = delay

-- how many ticks a hop takes at the most
abbrev pub weight : Circuit → Hop → ℕ
weight c (Element e) = longest_delay (element_at c e).kind
weight c (Check k) = 0
