-- Words of the functions that go from net to net: what hops drive, by their numbers, and pins, each of which says of a hop and a net that the one reads the other.
use Rattle.std.specs.Prelude.{◌≡◌, ℕ, ◌+◌, ◌<◌, ◌^◌, ◌==◌, ◌&&◌, not, Bool, All, List, length, count_by, slice_index_or}
use Rattle.sg_circuit.specs.declared.building.Pin.{Pin}
use Rattle.sg_circuit.specs.FanOut.{has}
use Rattle.sg_circuit.specs.Pins.{HasPins}
use Rattle.settle_bound.specs.declared.ways.Link.{Link}
use Rattle.settle_bound.specs.declared.ways.Ways.{Ways}

-- what stands at a place; past the end a blank
abbrev pub link_at : List Link → ℕ → Link
link_at links h = slice_index_or links h (record { driven = 0; weight = 0 })

abbrev pub pin_at : List Pin → ℕ → Pin
pin_at pins i = slice_index_or pins i (record { net = 0; element = 0 })

-- the net that the hop of a pin drives, and the hop's weight
abbrev pub net_behind : List Link → Pin → ℕ
net_behind links p = (link_at links p.element).driven

abbrev pub weight_behind : List Link → Pin → ℕ
weight_behind links p = (link_at links p.element).weight

-- each number is one of so many nets, or of a hop, and there are few of all
pub record AreLinked (nets : ℕ) (links : List Link) (pins : List Pin) : Type 0 where
  pub driven : All (λ l. l.driven < nets) links
  pub weights : All (λ l. l.weight < 2 ^ 60) links
  pub read : All (λ p. p.net < nets) pins
  pub hops : All (λ p. p.element < length links) pins
  pub few_nets : nets < 2 ^ 31
  pub few_pins : length pins < 2 ^ 32

-- the parts of ways fit together
pub record AreWays (w : Ways) : Type 0 where
  pub linked : AreLinked w.nets w.links.items w.pins.items
  pub readers : HasPins w.pins.items w.readers
  pub readers_of_each : length w.readers ≡ w.nets

-- on some way to a net hops have such a sum of weights
pub data IsReached (links : List Link) (pins : List Pin) : ℕ → ℕ → Type 0 where
  by_none : (net : ℕ) → IsReached links pins net 0
  by_one : (h : ℕ) → h < length links → IsReached links pins (link_at links h).driven (link_at links h).weight
  by_more : (i sum : ℕ) → i < length pins → IsReached links pins (pin_at pins i).net sum → IsReached links pins (net_behind links (pin_at pins i)) (sum + weight_behind links (pin_at pins i))

-- whether a pin leads to a net from one that isn't done
abbrev pub holds_up : List Link → List ℕ → ℕ → Pin → Bool
holds_up links done net p = (net_behind links p == net) && not (has p.net done)

-- for how many pins a net waits, where these nets are done
abbrev pub waits_of : List Link → List Pin → List ℕ → ℕ → ℕ
waits_of links pins done net = count_by (holds_up links done net) pins
