-- One Late more is put, and a refusal on the way is one of all.
use Rattle.std.proofs.Common.{arith, flat_map, zip}
use Rattle.std.proofs.lemmas.Result.{err_from_is_err_and}
use Rattle.elab_elements.specs.Puts.{RefusesPuts}
use Rattle.elab_elements.specs.Words.{copy_numbers, late_puts}
use Rattle.elab_elements.proofs.LateMeaning.{late-more, late-refused, lates-end, next-within}
use Rattle.elab_elements.proofs.Putting.{exit-by}
use Rattle.elab_elements.proofs.lates.add_lates.Goals as goal

pub output_of-output-requires-clause-room : goal.output_of-output-requires-clause-room
output_of-output-requires-clause-room c = omega (arith, c.requires.first, c.loop-placed.invariant.next, c.loop-placed.invariant.few)

pub loop-placed-preserved : goal.loop-placed-preserved
loop-placed-preserved c = record {
  few = c.add_element.ensures.few;
  next = next-within c.args.first c.loop-placed.next c.output_of-output.new.next _ c.loop-placed.made c.add_element.new.made _ c.loop-placed.invariant.next c.output_of-output.ensures.next c.in_ok-add_element.ensures.puts;
  left = late-more c.args.scope c.args.row.now c.args.driven.now c.args.copies.now c.loop-placed.placed-index c.loop-placed.next c.output_of-output.result c.output_of-output.new.next _ c.args.made.now
      c.loop-placed.made c.add_element.new.made _ c.loop-placed-test.true c.output_of-output.ensures.output c.output_of-output.ensures.next c.loop-placed.invariant.left c.in_ok-add_element.ensures.puts;
}

pub returns-in_err-add_element-clause-refused : goal.returns-in_err-add_element-clause-refused
returns-in_err-add_element-clause-refused c =
    exit-by (RefusesPuts c.args.made.now (flat_map (late_puts c.args.scope c.args.row.now) (zip c.args.copies.now (copy_numbers c.args.first c.args.driven.now c.args.copies.now)))) c.from_residual.result
    c.in_err-add_element.field-0.0
    (err_from_is_err_and c.from_residual.result c.from_residual.ensures.1)
    (late-refused c.args.scope c.args.row.now c.args.driven.now c.args.copies.now c.loop-placed.placed-index c.loop-placed.next c.output_of-output.result c.output_of-output.new.next _ c.args.made.now
    c.loop-placed.made _ c.in_err-add_element.field-0.0 c.loop-placed-test.true c.output_of-output.ensures.output c.output_of-output.ensures.next c.loop-placed.invariant.left c.in_err-add_element.ensures.refused)

pub returns-clause-puts : goal.returns-clause-puts
returns-clause-puts c =
    lates-end c.args.scope c.args.row.now c.args.driven.now c.args.copies.now c.loop-placed.placed-index c.loop-placed.next c.args.made.now c.loop-placed.made _ c.loop-placed-test.false
    c.loop-placed.invariant.left
