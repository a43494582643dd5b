-- One element after another.
use Rattle.std.proofs.Common.{ℕ, refl, slice_get, slice_index_or}
use Rattle.written_faults.specs.Ambiguities.{element_pairs, numbers_in, of_item}
use Rattle.written_faults.proofs.PairLaws.{element_pairs_is}
use Rattle.written_faults.proofs.ReadingLaws.{stops, goes-on}
use Rattle.written_faults.proofs.ambiguities.add_elements.Goals as goal

pub returns-then-branch : goal.returns-then-branch
returns-then-branch c =
    let parts = c.args.parts.now in
    let k = slice_index_or c.args.numbers.now c.loop-number.number-index 0 in
    let e = c.index-element.result.now in
    stops (λ (n : ℕ). of_item (element_pairs parts c.args.classes.now) (slice_get parts.elements.items n)) c.args.numbers.now c.loop-number.number-index 0 k (element_pairs parts c.args.classes.now e)
    (numbers_in c.args.seen.now) (numbers_in c.loop-number.seen) (numbers_in c.add_element.new.seen) c.in_ok-add_element.field-0 c.loop-number-test.true refl
    (element_pairs_is parts c.args.classes.now k e (c.requires.within c.loop-number.number-index 0 c.loop-number-test.true) c.index-element.ensures) c.loop-number.invariant c.in_ok-add_element.ensures c.if-branch.true

pub loop-number-preserved : goal.loop-number-preserved
loop-number-preserved c =
    let parts = c.args.parts.now in
    let k = slice_index_or c.args.numbers.now c.loop-number.number-index 0 in
    let e = c.index-element.result.now in
    goes-on (λ (n : ℕ). of_item (element_pairs parts c.args.classes.now) (slice_get parts.elements.items n)) c.args.numbers.now c.loop-number.number-index 0 k (element_pairs parts c.args.classes.now e)
    (numbers_in c.args.seen.now) (numbers_in c.loop-number.seen) (numbers_in c.add_element.new.seen) c.in_ok-add_element.field-0 c.loop-number-test.true refl
    (element_pairs_is parts c.args.classes.now k e (c.requires.within c.loop-number.number-index 0 c.loop-number-test.true) c.index-element.ensures) c.loop-number.invariant c.in_ok-add_element.ensures c.if-branch.false
