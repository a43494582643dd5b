-- One more is put, and a refusal on the way is one of all.
use Rattle.std.proofs.Common.{rules, flat_map, zip}
use Rattle.std.proofs.lemmas.Result.{err_from_is_err_and}
use Rattle.std.proofs.lemmas.Slice.Zip.{zip_turn, zip_end}
use Rattle.elab_elements.specs.Puts.{RefusesPuts}
use Rattle.elab_elements.specs.Words.{path_puts}
use Rattle.elab_elements.proofs.Left.{pair-step, pair-last}
use Rattle.elab_elements.proofs.Putting.{exit-by, completes-more, completes-end, refuses-left}
use Rattle.elab_elements.proofs.paths.add_paths.Goals as goal

pub loop-bit-preserved : goal.loop-bit-preserved
loop-bit-preserved c = record {
  steps = (tt, tt);
  ends = tt;
  few = c.add_element.ensures.few;
  left = completes-more c.args.made.now c.loop-bit.made c.add_element.new.made _ _ _ _ c.loop-bit.invariant.left
      (pair-step (path_puts c.args.scope c.args.place c.args.row.now) c.args.bits.now c.args.ends.now c.loop-bit.yielded (c.in-Some.bit, c.in-Some.end)
      (zip_turn c.args.bits.now c.args.ends.now c.loop-bit.yielded c.into_iter-bit-iterator.result c.loop-bit.bit-iterator c.next.new.self c.next.result
      (search (rules, c.zip-bit-items.ensures.first, c.iter.ensures.rest, c.into_iter-bit-iterator.ensures.into_iter_gives))
      (search (rules, c.zip-bit-items.ensures.second, c.iter.ensures.rest, c.into_iter-bit-iterator.ensures.into_iter_gives))
      c.loop-bit.yielded_by (c.in-Some.bit, c.in-Some.end) c.in-Some.is c.next.ensures.steps))
      c.in_ok-add_element.ensures.puts;
}

pub returns-in_err-add_element-clause-refused : goal.returns-in_err-add_element-clause-refused
returns-in_err-add_element-clause-refused c =
    exit-by (RefusesPuts c.args.made.now (flat_map (path_puts c.args.scope c.args.place c.args.row.now) (zip c.args.bits.now c.args.ends.now))) c.from_residual.result c.in_err-add_element.field-0.0
    (err_from_is_err_and c.from_residual.result c.from_residual.ensures.1)
    (refuses-left c.args.made.now c.loop-bit.made _ _ (path_puts c.args.scope c.args.place c.args.row.now (c.in-Some.bit.now, c.in-Some.end.now)) _ c.in_err-add_element.field-0.0 c.loop-bit.invariant.left
    (pair-step (path_puts c.args.scope c.args.place c.args.row.now) c.args.bits.now c.args.ends.now c.loop-bit.yielded (c.in-Some.bit, c.in-Some.end)
    (zip_turn c.args.bits.now c.args.ends.now c.loop-bit.yielded c.into_iter-bit-iterator.result c.loop-bit.bit-iterator c.next.new.self c.next.result
    (search (rules, c.zip-bit-items.ensures.first, c.iter.ensures.rest, c.into_iter-bit-iterator.ensures.into_iter_gives))
    (search (rules, c.zip-bit-items.ensures.second, c.iter.ensures.rest, c.into_iter-bit-iterator.ensures.into_iter_gives))
    c.loop-bit.yielded_by (c.in-Some.bit, c.in-Some.end) c.in-Some.is c.next.ensures.steps))
    c.in_err-add_element.ensures.refused)

pub returns-clause-puts : goal.returns-clause-puts
returns-clause-puts c =
    completes-end c.args.made.now c.loop-bit.made _ _ c.loop-bit.invariant.left
    (pair-last (path_puts c.args.scope c.args.place c.args.row.now) c.args.bits.now c.args.ends.now c.loop-bit.yielded
    (zip_end c.args.bits.now c.args.ends.now c.loop-bit.yielded c.into_iter-bit-iterator.result c.loop-bit.bit-iterator c.next.new.self c.next.result
    (search (rules, c.zip-bit-items.ensures.first, c.iter.ensures.rest, c.into_iter-bit-iterator.ensures.into_iter_gives))
    (search (rules, c.zip-bit-items.ensures.second, c.iter.ensures.rest, c.into_iter-bit-iterator.ensures.into_iter_gives))
    c.loop-bit.yielded_by c.in-None.is c.next.ensures.steps))
