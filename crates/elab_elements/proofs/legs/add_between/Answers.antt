-- One more is put, and a refusal on the way is one of all.
use Rattle.std.proofs.Common.{flat_map, ◌-◌}
use Rattle.std.specs.List.{range_with_len}
use Rattle.std.proofs.lemmas.Result.{err_from_is_err_and}
use Rattle.elab_elements.specs.Puts.{RefusesPuts}
use Rattle.elab_elements.specs.Words.{bit_leg}
use Rattle.elab_elements.proofs.Left.{numbers-more, numbers-refused}
use Rattle.elab_elements.proofs.Putting.{exit-by}
use Rattle.elab_elements.proofs.legs.add_between.Goals as goal

pub loop-bit-preserved : goal.loop-bit-preserved
loop-bit-preserved c = record {
  few = c.add_leg.ensures.few;
  left = numbers-more (bit_leg c.args.scope c.args.place c.args.inner.now c.args.outer.now) (flat_map (bit_leg c.args.scope c.args.place c.args.inner.now c.args.outer.now) (range_with_len c.args.start (c.args.end - c.args.start))) c.loop-bit.bit (c.args.end)
      c.args.made.now c.loop-bit.made c.add_leg.new.made c.loop-bit-test.true c.loop-bit.invariant.left c.in_ok-add_leg.ensures.puts;
}

pub returns-in_err-add_leg-clause-refused : goal.returns-in_err-add_leg-clause-refused
returns-in_err-add_leg-clause-refused c =
    exit-by (RefusesPuts c.args.made.now (flat_map (bit_leg c.args.scope c.args.place c.args.inner.now c.args.outer.now) (range_with_len c.args.start (c.args.end - c.args.start)))) c.from_residual.result c.in_err-add_leg.field-0.0
    (err_from_is_err_and c.from_residual.result c.from_residual.ensures.1)
    (numbers-refused (bit_leg c.args.scope c.args.place c.args.inner.now c.args.outer.now) (flat_map (bit_leg c.args.scope c.args.place c.args.inner.now c.args.outer.now) (range_with_len c.args.start (c.args.end - c.args.start))) c.loop-bit.bit (c.args.end)
    c.args.made.now c.loop-bit.made c.in_err-add_leg.field-0.0 c.loop-bit-test.true c.loop-bit.invariant.left c.in_err-add_leg.ensures.refused)
