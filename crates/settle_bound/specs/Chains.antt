-- Chains of hops, the bound of a net, and cycles.
use Rattle.std.specs.Prelude.{◌≡◌, ◌≢◌, ℕ, ◌≤◌, List, [], ◌∷◌, All, AllPairs, sum_by, Some}
use Rattle.sg_circuit.specs.Circuit.{Circuit}
use Rattle.settle_bound.specs.declared.hops.Hop.{Hop}
use Rattle.settle_bound.specs.Hops.{IsHop, Reads, net_driven, weight}

-- each of some hops reads the net that the hop before it drives, the first that which `before` drives
abbrev pub Follow : Circuit → Hop → List Hop → Type 0
Follow c before [] = Unit {0}
Follow c before (h ∷ hs) = Reads c before h × Follow c h hs

-- the last of some hops
abbrev pub last_of : Hop → List Hop → Hop
last_of h [] = h
last_of h (i ∷ hs) = last_of i hs

-- a chain to a net: hops, each of which reads the net that the one before it drives, and the last drives the net; no hop at
-- all is a chain to every net
abbrev pub IsChain : Circuit → ℕ → List Hop → Type 0
IsChain c net [] = Unit {0}
IsChain c net (h ∷ hs) = All (IsHop c) (h ∷ hs) × Follow c h hs × (net_driven c (last_of h hs) ≡ Some net)

-- how many ticks a chain takes at the most
abbrev pub total_weight : Circuit → List Hop → ℕ
total_weight c hops = sum_by (weight c) hops

-- the bound of a net: the greatest weight of its chains
pub record IsBound (c : Circuit) (net bound : ℕ) : Type 0 where
  pub most : (hops : List Hop) → IsChain c net hops → total_weight c hops ≤ bound
  pub some : (hops : List Hop) × IsChain c net hops × (total_weight c hops ≡ bound)

-- a cycle: different hops, at least one, each of which reads the net that the one before it drives, and the first that which
-- the last drives
abbrev pub IsCycle : Circuit → List Hop → Type 0
IsCycle c [] = ⊥
IsCycle c (h ∷ hs) = All (IsHop c) (h ∷ hs) × Follow c (last_of h hs) (h ∷ hs) × AllPairs (λ one other. one ≢ other) (h ∷ hs)

-- Words of the code.

-- each hop differs from those behind it
abbrev pub AreOnce : List Hop → Type 0
AreOnce [] = Unit {0}
AreOnce (h ∷ hs) = All (λ i. h ≢ i) hs × AreOnce hs
