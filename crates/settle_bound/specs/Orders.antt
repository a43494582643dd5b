-- Words of the functions that put nets in an order in which none comes before one from which a pin leads to it, as far as there is such an order.
use Rattle.std.specs.Prelude.{◌≡◌, ◌≢◌, ◌⊎◌, ◌↔◌, ℕ, suc, ◌+◌, ◌-◌, ◌*◌, max, ◌<◌, ◌≤◌, ◌^◌, ◌==◌, if◌then◌else◌, true, All, AllPairs, List, [], ◌∷◌, ◌++◌, length, count_by, slice_index_or, slice_set}
use Rattle.sg_circuit.specs.declared.building.Pin.{Pin}
use Rattle.sg_circuit.specs.FanOut.{has}
use Rattle.settle_bound.specs.declared.ways.Link.{Link}
use Rattle.settle_bound.specs.declared.ways.Ways.{Ways}
use Rattle.settle_bound.specs.declared.orders.Order.{Order}
use Rattle.settle_bound.specs.Links.{link_at, pin_at, net_behind, weight_behind, IsReached, waits_of}

-- what stands at a net's place
abbrev pub at : List ℕ → ℕ → ℕ
at xs n = slice_index_or xs n 0

-- the place at which a number first stands in a list, or the list's length
abbrev pub place_in : List ℕ → ℕ → ℕ
place_in [] k = 0
place_in (x ∷ xs) k = if x == k then 0 else suc (place_in xs k)

-- these are the nets that wait for nothing, each once
pub record AreReady (nets : ℕ) (waits ready : List ℕ) : Type 0 where
  pub within : All (λ n. n < nets) ready
  pub once : AllPairs (λ m n. m ≢ n) ready
  pub each : (net : ℕ) → net < nets → (at waits net ≡ 0) ↔ (has net ready ≡ true)

-- the nets that are done come one after another: to none of them a pin leads but from one before it
pub record IsInOrder (links : List Link) (pins : List Pin) (done : List ℕ) : Type 0 where
  pub each : (i : ℕ) → i < length pins → has (net_behind links (pin_at pins i)) done ≡ true → place_in done (pin_at pins i).net < place_in done (net_behind links (pin_at pins i))

-- the bounds are as great as what is found by all hops from nets that are done, and no greater than what ways reach
pub record AreBest (nets : ℕ) (links : List Link) (pins : List Pin) (bounds done : List ℕ) : Type 0 where
  pub alone : (h : ℕ) → h < length links → (link_at links h).weight ≤ at bounds (link_at links h).driven
  pub passed : (i : ℕ) → i < length pins → has (pin_at pins i).net done ≡ true → at bounds (pin_at pins i).net + weight_behind links (pin_at pins i) ≤ at bounds (net_behind links (pin_at pins i))
  pub reached : (net : ℕ) → net < nets → IsReached links pins net (at bounds net)
  pub small : (net : ℕ) → net < nets → at bounds net < (length done + 1) * 2 ^ 60

pub record IsOrder (nets : ℕ) (links : List Link) (pins : List Pin) (order : Order) (done : List ℕ) : Type 0 where
  pub done_ready : (net : ℕ) → has net done ≡ true → has net order.ready.items ≡ true
  pub bound_of_each : length order.bounds.items ≡ nets
  pub wait_of_each : length order.waits.items ≡ nets
  pub waits : (net : ℕ) → net < nets → at order.waits.items net ≡ waits_of links pins done net
  pub ready : AreReady nets order.waits.items order.ready.items
  pub in_order : IsInOrder links pins done
  pub best : AreBest nets links pins order.bounds.items done

-- of some ways
abbrev pub IsOrderOf : Ways → Order → List ℕ → Type 0
IsOrderOf w order done = IsOrder w.nets w.links.items w.pins.items order done

-- one hop to a net gives a bound, and the net waits for one pin fewer
pub record TakesHop (link : Link) (before : ℕ) (old new : Order) : Type 0 where
  pub bounds : new.bounds.items ≡ slice_set old.bounds.items link.driven (max (at old.bounds.items link.driven) (before + link.weight))
  pub waits : new.waits.items ≡ slice_set old.waits.items link.driven (at old.waits.items link.driven - 1)
  pub ready : new.ready.items ≡ old.ready.items ++ (if at new.waits.items link.driven == 0 then link.driven ∷ [] else [])

-- how many of some hops drive a net
abbrev pub count_driving : List Link → ℕ → List ℕ → ℕ
count_driving links net hops = count_by (λ h. (link_at links h).driven == net) hops

-- one of some hops drives a net, with such a sum of its weight and what comes before it
pub record IsFrom (links : List Link) (hops : List ℕ) (before net sum : ℕ) : Type 0 where
  pub place : ℕ
  pub within : place < length hops
  pub driven : (link_at links (slice_index_or hops place 0)).driven ≡ net
  pub is : sum ≡ before + (link_at links (slice_index_or hops place 0)).weight

-- the nets that some hops drive have bounds no less than what these hops give after a bound, and wait for as many pins fewer. Those that wait for nothing more are put behind the others
pub record Released (links : List Link) (hops : List ℕ) (before : ℕ) (old new : Order) : Type 0 where
  pub bound_of_each : length new.bounds.items ≡ length old.bounds.items
  pub wait_of_each : length new.waits.items ≡ length old.waits.items
  pub no_less : (net : ℕ) → at old.bounds.items net ≤ at new.bounds.items net
  pub given : (i : ℕ) → i < length hops → before + (link_at links (slice_index_or hops i 0)).weight ≤ at new.bounds.items (link_at links (slice_index_or hops i 0)).driven
  pub from : (net : ℕ) → (at new.bounds.items net ≡ at old.bounds.items net) ⊎ IsFrom links hops before net (at new.bounds.items net)
  pub waits : (net : ℕ) → at new.waits.items net + count_driving links net hops ≡ at old.waits.items net
  pub behind : List ℕ
  pub added : new.ready.items ≡ old.ready.items ++ behind
  pub ready : AreReady (length old.waits.items) old.waits.items old.ready.items → AreReady (length old.waits.items) new.waits.items new.ready.items

-- how many of some pins lead to each net
pub record AreCounted (links : List Link) (pins : List Pin) (waits : List ℕ) : Type 0 where
  pub each : (net : ℕ) → net < length waits → at waits net ≡ waits_of links pins [] net

-- bounds by each of some hops alone
pub record AreAlone (links all : List Link) (pins : List Pin) (bounds : List ℕ) : Type 0 where
  pub given : (h : ℕ) → h < length links → (link_at links h).weight ≤ at bounds (link_at links h).driven
  pub reached : (net : ℕ) → IsReached all pins net (at bounds net)
  pub small : (net : ℕ) → at bounds net < 2 ^ 60
