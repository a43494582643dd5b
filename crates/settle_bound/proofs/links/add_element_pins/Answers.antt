use Rattle.std.proofs.Common.{◌≡◌, ◌<◌, ◌≤◌, ◌++◌, length, slice_index_or, sym, ap, ◌∙◌, subst, arith}
use Rattle.std.proofs.lemmas.List.{length-map}
use Rattle.sg_circuit.specs.Pins.{pins_on}
use Rattle.sg_circuit.specs.Seen.{circuit_seen, element_seen}
use Rattle.settle_bound.proofs.LinkedLaws.{element-pins, pins-all}
use Rattle.settle_bound.proofs.links.add_element_pins.Goals as goal

pub loop-number-preserved : goal.loop-number-preserved
loop-number-preserved c =
    let i = c.loop-number.number in
    let item = c.element-item.result in
    element-pins c.args.parts.now i item c.loop-number.pins.items c.add_reads.new.pins.items (subst (λ es. i < length es) c.deref-element-items.ensures.value c.loop-number-test.true)
    (c.element-item.is ∙ ap (λ es. slice_index_or es i item) c.deref-element-items.ensures.value) c.loop-number.invariant
    (c.in_ok-add_reads.ensures ∙ ap (λ ns. c.loop-number.pins.items ++ pins_on i ns) c.deref.ensures)

pub returns : goal.returns
returns c =
    let items = c.args.parts.now.elements.items in
    let low : length items ≤ c.loop-number.number = subst (λ es. length es ≤ c.loop-number.number) c.deref-element-items.ensures.value c.loop-number-test.false in
    let high : c.loop-number.number ≤ length items = subst (λ es. c.loop-number.number ≤ length es) c.deref-element-items.ensures.value c.loop-number.auto.number-end in
    let many : c.loop-number.number ≡ length items = omega arith in
    pins-all (circuit_seen c.args.parts.now) c.loop-number.number (length (circuit_seen c.args.parts.now).elements) c.loop-number.pins.items c.loop-number.invariant (many ∙ sym (length-map items (element_seen c.args.parts.now)))
