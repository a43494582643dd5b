-- Words of the functions that look for a cycle among nets that wait for one another.
use Rattle.std.specs.Prelude.{◌≡◌, ◌≢◌, ℕ, ◌<◌, true, AllPairs, List, [], ◌∷◌, length, map}
use Rattle.sg_circuit.specs.declared.building.Pin.{Pin}
use Rattle.sg_circuit.specs.FanOut.{has}
use Rattle.settle_bound.specs.declared.ways.Link.{Link}
use Rattle.settle_bound.specs.declared.ways.Ways.{Ways}
use Rattle.settle_bound.specs.declared.rings.Walk.{Walk}
use Rattle.settle_bound.specs.Links.{link_at, pin_at, net_behind}
use Rattle.settle_bound.specs.Orders.{at}

-- a pin leads to a net from one that waits
pub record IsPinTo (w : Ways) (waits : List ℕ) (net place : ℕ) : Type 0 where
  pub within : place < length w.pins.items
  pub leads : net_behind w.links.items (pin_at w.pins.items place) ≡ net
  pub waits_too : 0 < at waits (pin_at w.pins.items place).net

-- for each net to which one of so many pins leads from a net that waits, the place of such a pin
pub record AreBehind (w : Ways) (waits : List ℕ) (count : ℕ) (back : List ℕ) : Type 0 where
  pub of_each : length back ≡ w.nets
  pub each : (i : ℕ) → i < count → 0 < at waits (pin_at w.pins.items i).net → IsPinTo w waits (net_behind w.links.items (pin_at w.pins.items i)) (at back (net_behind w.links.items (pin_at w.pins.items i)))

-- for each net that waits
pub record WaitOn (w : Ways) (waits back : List ℕ) : Type 0 where
  pub each : (net : ℕ) → net < w.nets → 0 < at waits net → IsPinTo w waits net (at back net)

-- the nets that hops drive
abbrev pub nets_driven : List Link → List ℕ → List ℕ
nets_driven links hops = map (λ h. (link_at links h).driven) hops

-- the hop of a number reads a net
pub record HasPin (pins : List Pin) (net hop : ℕ) : Type 0 where
  pub place : ℕ
  pub within : place < length pins
  pub net_is : (pin_at pins place).net ≡ net
  pub hop_is : (pin_at pins place).element ≡ hop

-- hops lead back from a net to another: the first drives the one, each reads what the next drives, and the last reads the other
pub data Leads (w : Ways) : ℕ → List ℕ → ℕ → Type 0 where
  stays : (net : ℕ) → Leads w net [] net
  goes_back : (hop net end : ℕ) (hops : List ℕ) → HasPin w.pins.items net hop → Leads w net hops end → Leads w (link_at w.links.items hop).driven (hop ∷ hops) end

-- hops lead back from a net to one that some of them drives, and drive different nets
pub record IsWalk (w : Ways) (start : ℕ) (walk : Walk) : Type 0 where
  pub leads : Leads w start walk.hops.items walk.end
  pub once : AllPairs (λ m n. m ≢ n) (nets_driven w.links.items walk.hops.items)
  pub again : has walk.end (nets_driven w.links.items walk.hops.items) ≡ true

-- hops that drive different nets lead from a net back to itself
pub record IsRing (w : Ways) (hops : List ℕ) : Type 0 where
  pub net : ℕ
  pub some : hops ≢ []
  pub leads : Leads w net hops net
  pub once : AllPairs (λ m n. m ≢ n) (nets_driven w.links.items hops)
