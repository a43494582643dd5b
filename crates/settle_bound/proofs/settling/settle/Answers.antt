use Rattle.std.proofs.Common.{◌≡◌, length, sym, ap, ◌∙◌, arith}
use Rattle.std.proofs.lemmas.List.{length-map}
use Rattle.sg_circuit.specs.Seen.{element_seen}
use Rattle.settle_bound.proofs.CircuitTimes.{circuit-stays}
use Rattle.settle_bound.proofs.SettleLaws.{bounds-at, ring-cycle-at}
use Rattle.settle_bound.proofs.settling.settle.Goals as goal

pub returns-in-None-clause-found : goal.returns-in-None-clause-found
returns-in-None-clause-found c =
    bounds-at c.args.circuit.now c.in_ok-ways.ways c.in_ok-order.order c.deref.result.now c.parts.ensures.closed c.in_ok-ways.ensures.of c.in_ok-order.ensures c.deref.ensures.value c.in-None.ensures

pub returns-in-None-clause-runs : goal.returns-in-None-clause-runs
returns-in-None-clause-runs c = circuit-stays c.args.circuit.now c.parts.ensures.closed c.in_ok-order.order.bounds.items (returns-in-None-clause-found c)

pub returns-clause-found : goal.returns-clause-found
returns-clause-found c =
    let parts = c.parts.result.now in
    let many : c.len-elements.result ≡ length parts.elements.items = omega (arith, c.len-elements.ensures) in
    ring-cycle-at c.args.circuit.now c.in_ok-ways.ways c.in_ok-ring-in-Some.ring.items c.deref-in-Some.result.now c.in_ok-hops_of-in-Some.field-0.items c.len-elements.result c.in_ok-ways.ensures.of c.in_ok-ring-in-Some.ensures c.deref-in-Some.ensures.value
    (many ∙ (sym (length-map parts.elements.items (element_seen parts)) ∙ ap (λ x. length x.elements) c.parts.ensures.seen)) c.in_ok-hops_of-in-Some.ensures
