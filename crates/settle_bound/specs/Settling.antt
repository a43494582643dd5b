-- What is found of a circuit: a bound for each net, or a cycle.
use Rattle.std.specs.Prelude.{◌≡◌, ℕ, ◌<◌, List, length, slice_index_or}
use Rattle.sg_circuit.specs.Circuit.{Circuit}
use Rattle.settle_bound.specs.declared.hops.Hop.{Hop}
use Rattle.settle_bound.specs.declared.settling.Settled.{Settled}
use Rattle.settle_bound.specs.declared.settling.Settled.TheVariants.{Bounds, Cycle}
use Rattle.settle_bound.specs.Chains.{IsBound, IsCycle}

-- the bound of each net, and no hops are a cycle
pub record AreBounds (c : Circuit) (bounds : List ℕ) : Type 0 where
  pub as_many : length bounds ≡ length c.nets
  pub each : (net : ℕ) → net < length c.nets → IsBound c net (slice_index_or bounds net 0)
  pub no_cycle : (hops : List Hop) → ¬ (IsCycle c hops)

abbrev pub Settles : Circuit → Settled → Type 0
Settles c (Bounds bounds) = AreBounds c bounds.items
Settles c (Cycle hops) = IsCycle c hops.items
