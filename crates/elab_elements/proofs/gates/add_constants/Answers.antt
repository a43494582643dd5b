-- One more is put, and a refusal on the way is one of all.
use Rattle.std.proofs.Common.{rules, flat_map, zip}
use Rattle.std.proofs.lemmas.Result.{err_from_is_err_and}
use Rattle.std.proofs.lemmas.Slice.Zip.{zip_turn, zip_end}
use Rattle.elab_elements.specs.Puts.{RefusesPuts}
use Rattle.elab_elements.specs.Words.{constant_puts}
use Rattle.elab_elements.proofs.Left.{pair-step, pair-last}
use Rattle.elab_elements.proofs.Putting.{exit-by, completes-more, completes-end, refuses-left}
use Rattle.elab_elements.proofs.gates.add_constants.Goals as goal

pub loop-bit-preserved : goal.loop-bit-preserved
loop-bit-preserved c = record {
  steps = (tt, tt);
  ends = tt;
  few = c.add_constant.ensures.few;
  left = completes-more c.args.made.now c.loop-bit.made c.add_constant.new.made _ _ _ _ c.loop-bit.invariant.left
      (pair-step (constant_puts c.args.scope) c.args.bits.now c.args.inputs.now c.loop-bit.yielded (c.in-Some.bit, c.in-Some.input)
      (zip_turn c.args.bits.now c.args.inputs.now c.loop-bit.yielded c.into_iter-bit-iterator.result c.loop-bit.bit-iterator c.next.new.self c.next.result (search (rules, c.zip-bit-items.ensures.first, c.iter.ensures.rest, c.into_iter-bit-iterator.ensures.into_iter_gives))
      (search (rules, c.zip-bit-items.ensures.second, c.iter.ensures.rest, c.into_iter-bit-iterator.ensures.into_iter_gives))
      c.loop-bit.yielded_by (c.in-Some.bit, c.in-Some.input) c.in-Some.is c.next.ensures.steps))
      c.in_ok-add_constant.ensures.puts;
}

pub returns-in_err-add_constant-clause-refused : goal.returns-in_err-add_constant-clause-refused
returns-in_err-add_constant-clause-refused c =
    exit-by (RefusesPuts c.args.made.now (flat_map (constant_puts c.args.scope) (zip c.args.bits.now c.args.inputs.now))) c.from_residual.result c.in_err-add_constant.field-0.0
    (err_from_is_err_and c.from_residual.result c.from_residual.ensures.1)
    (refuses-left c.args.made.now c.loop-bit.made _ _ _ _ c.in_err-add_constant.field-0.0 c.loop-bit.invariant.left
    (pair-step (constant_puts c.args.scope) c.args.bits.now c.args.inputs.now c.loop-bit.yielded (c.in-Some.bit, c.in-Some.input)
    (zip_turn c.args.bits.now c.args.inputs.now c.loop-bit.yielded c.into_iter-bit-iterator.result c.loop-bit.bit-iterator c.next.new.self c.next.result (search (rules, c.zip-bit-items.ensures.first, c.iter.ensures.rest, c.into_iter-bit-iterator.ensures.into_iter_gives))
    (search (rules, c.zip-bit-items.ensures.second, c.iter.ensures.rest, c.into_iter-bit-iterator.ensures.into_iter_gives))
    c.loop-bit.yielded_by (c.in-Some.bit, c.in-Some.input) c.in-Some.is c.next.ensures.steps))
    c.in_err-add_constant.ensures.refused)

pub returns-clause-puts : goal.returns-clause-puts
returns-clause-puts c =
    completes-end c.args.made.now c.loop-bit.made _ _ c.loop-bit.invariant.left
    (pair-last (constant_puts c.args.scope) c.args.bits.now c.args.inputs.now c.loop-bit.yielded
    (zip_end c.args.bits.now c.args.inputs.now c.loop-bit.yielded c.into_iter-bit-iterator.result c.loop-bit.bit-iterator c.next.new.self c.next.result (search (rules, c.zip-bit-items.ensures.first, c.iter.ensures.rest, c.into_iter-bit-iterator.ensures.into_iter_gives))
    (search (rules, c.zip-bit-items.ensures.second, c.iter.ensures.rest, c.into_iter-bit-iterator.ensures.into_iter_gives))
    c.loop-bit.yielded_by c.in-None.is c.next.ensures.steps))
