-- One more is put, and a refusal on the way is one of all.
use Rattle.std.proofs.Common.{rules, flat_map, zip}
use Rattle.std.proofs.lemmas.Result.{err_from_is_err_and}
use Rattle.std.proofs.lemmas.Slice.Zip.{zip_turn, zip_end}
use Rattle.elab_elements.specs.Puts.{RefusesPuts}
use Rattle.elab_elements.specs.Words.{pass_puts}
use Rattle.elab_elements.proofs.Left.{pair-step, pair-last}
use Rattle.elab_elements.proofs.Putting.{exit-by, completes-more, completes-end, refuses-left}
use Rattle.elab_elements.proofs.passes.add_each.Goals as goal

pub loop-to-preserved : goal.loop-to-preserved
loop-to-preserved c = record {
  steps = (tt, tt);
  ends = tt;
  few = c.add_pass.ensures.few;
  left = completes-more c.args.made.now c.loop-to.made c.add_pass.new.made _ _ _ _ c.loop-to.invariant.left
      (pair-step (pass_puts c.args.scope c.args.place c.args.row.now c.args.driven.now) c.args.left.now c.args.right.now c.loop-to.yielded (c.in-Some.to, c.in-Some.from)
      (zip_turn c.args.left.now c.args.right.now c.loop-to.yielded c.into_iter-to-iterator.result c.loop-to.to-iterator c.next.new.self c.next.result (search (rules, c.zip-to-items.ensures.first, c.iter.ensures.rest, c.into_iter-to-iterator.ensures.into_iter_gives))
      (search (rules, c.zip-to-items.ensures.second, c.iter.ensures.rest, c.into_iter-to-iterator.ensures.into_iter_gives))
      c.loop-to.yielded_by (c.in-Some.to, c.in-Some.from) c.in-Some.is c.next.ensures.steps))
      c.in_ok-add_pass.ensures.puts;
}

pub returns-in_err-add_pass-clause-refused : goal.returns-in_err-add_pass-clause-refused
returns-in_err-add_pass-clause-refused c =
    exit-by (RefusesPuts c.args.made.now (flat_map (pass_puts c.args.scope c.args.place c.args.row.now c.args.driven.now)
    (zip c.args.left.now c.args.right.now))) c.from_residual.result c.in_err-add_pass.field-0.0
    (err_from_is_err_and c.from_residual.result c.from_residual.ensures.1)
    (refuses-left c.args.made.now c.loop-to.made _ _ _ _ c.in_err-add_pass.field-0.0 c.loop-to.invariant.left
    (pair-step (pass_puts c.args.scope c.args.place c.args.row.now c.args.driven.now) c.args.left.now c.args.right.now c.loop-to.yielded (c.in-Some.to, c.in-Some.from)
    (zip_turn c.args.left.now c.args.right.now c.loop-to.yielded c.into_iter-to-iterator.result c.loop-to.to-iterator c.next.new.self c.next.result (search (rules, c.zip-to-items.ensures.first, c.iter.ensures.rest, c.into_iter-to-iterator.ensures.into_iter_gives))
    (search (rules, c.zip-to-items.ensures.second, c.iter.ensures.rest, c.into_iter-to-iterator.ensures.into_iter_gives))
    c.loop-to.yielded_by (c.in-Some.to, c.in-Some.from) c.in-Some.is c.next.ensures.steps))
    c.in_err-add_pass.ensures.refused)

pub returns-clause-puts : goal.returns-clause-puts
returns-clause-puts c =
    completes-end c.args.made.now c.loop-to.made _ _ c.loop-to.invariant.left
    (pair-last (pass_puts c.args.scope c.args.place c.args.row.now c.args.driven.now) c.args.left.now c.args.right.now c.loop-to.yielded
    (zip_end c.args.left.now c.args.right.now c.loop-to.yielded c.into_iter-to-iterator.result c.loop-to.to-iterator c.next.new.self c.next.result (search (rules, c.zip-to-items.ensures.first, c.iter.ensures.rest, c.into_iter-to-iterator.ensures.into_iter_gives))
    (search (rules, c.zip-to-items.ensures.second, c.iter.ensures.rest, c.into_iter-to-iterator.ensures.into_iter_gives))
    c.loop-to.yielded_by c.in-None.is c.next.ensures.steps))
