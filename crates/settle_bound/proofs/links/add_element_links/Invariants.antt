use Rattle.std.proofs.Common.{◌≡◌, map, take}
use Rattle.sg_circuit.specs.Seen.{circuit_seen}
use Rattle.settle_bound.specs.Linked.{element_link}
use Rattle.settle_bound.proofs.links.add_element_links.Given as goal

abbrev pub invariant-loop-element : goal.invariant-loop-element
invariant-loop-element l = l.links.items ≡ map element_link (take l.element-index (circuit_seen l.parts).elements)
