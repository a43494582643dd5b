-- Words of the functions that read the ways of a circuit from its parts. The hops have numbers: the elements first, then the timing checks.
use Rattle.std.specs.Prelude.{◌≡◌, ℕ, ◌+◌, ◌-◌, ◌<◌, nat_lt, if◌then◌else◌, Contains, List, [], ◌++◌, length, map, Option, Some, None}
use Rattle.sg_circuit.specs.declared.building.Pin.{Pin}
use Rattle.sg_circuit.specs.declared.checks.Check as check_type
use Rattle.sg_circuit.specs.Circuit as circuit
use Rattle.sg_circuit.specs.Circuit.{Circuit}
use Rattle.sim_rounds.specs.Notifiers.{notifier_at}
use Rattle.settle_bound.specs.declared.hops.Hop.{Hop}
use Rattle.settle_bound.specs.declared.hops.Hop.TheVariants.{Element, Check}
use Rattle.settle_bound.specs.declared.ways.Link.{Link}
use Rattle.settle_bound.specs.declared.ways.Ways.{Ways}
use Rattle.settle_bound.specs.Hops.{nets_read, longest_delay}
use Rattle.settle_bound.specs.Links.{pin_at}

-- the hop of a number, where there are so many elements
abbrev pub hop_of : ℕ → ℕ → Hop
hop_of elements number = if nat_lt number elements then Element number else Check (number - elements)

-- the nets that it reads; where a check has no notifier, none
abbrev pub where_named : Option ℕ → List ℕ → List ℕ
where_named None nets = []
where_named (Some notifier) nets = nets

abbrev pub reads_of_hop : Circuit → Hop → List ℕ
reads_of_hop c (Element e) = nets_read c (Element e)
reads_of_hop c (Check k) = where_named (notifier_at c.checks k) (nets_read c (Check k))

abbrev pub reads_of : Circuit → ℕ → List ℕ
reads_of c number = reads_of_hop c (hop_of (length c.elements) number)

-- the links of elements and checks
abbrev pub element_link : circuit.Element → Link
element_link e = record { driven = e.output; weight = longest_delay e.kind }

abbrev pub net_or_none : Option ℕ → ℕ
net_or_none None = 0
net_or_none (Some net) = net

abbrev pub check_link : check_type.Check → Link
check_link k = record { driven = net_or_none k.notifier; weight = 0 }

-- the hops below a number have their pins, and no others
pub record HavePins (c : Circuit) (count : ℕ) (pins : List Pin) : Type 0 where
  pub sound : (i : ℕ) → i < length pins → ((pin_at pins i).element < count) × Contains (reads_of c (pin_at pins i).element) (pin_at pins i).net
  pub complete : (number net : ℕ) → number < count → Contains (reads_of c number) net → (i : ℕ) × (i < length pins) × (pin_at pins i ≡ record { net = net; element = number })

-- the ways are those of a circuit
pub record AreLinksOf (c : Circuit) (w : Ways) : Type 0 where
  pub nets : w.nets ≡ length c.nets
  pub links : w.links.items ≡ map element_link c.elements ++ map check_link c.checks
  pub pins : HavePins c (length c.elements + length c.checks) w.pins.items
