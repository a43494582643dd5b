-- One line more.
use Rattle.std.proofs.Common.{arith, refl, length, ap}
use Rattle.std.proofs.lemmas.List.{length-drop}
use Rattle.stim_read.specs.Lines.{lines}
use Rattle.stim_read.proofs.Slices.{from-place}
use Rattle.stim_read.proofs.ShortLaws.{inside-next, inside-none}
use Rattle.stim_read.proofs.LinesMade.{made-next, made-last, none-made, row-within}
use Rattle.stim_read.proofs.lines.lines_of.Goals as goal

pub loop-size-init : goal.loop-size-init
unfolding lines
loop-size-init c = record { within = omega arith; completes = none-made c.args.text.now _ c.new-made.ensures.items; inside = inside-none _ _ c.new-made.ensures.items }

pub loop-size-preserved : goal.loop-size-preserved
loop-size-preserved c = record {
  within = let r = row-within c.loop-size.start c.in-Some.size c.args.text.now c.in-Some.ensures.within in omega (arith, r.0);
  completes = made-next _ c.args.text.now _ _ _ c.loop-size.start c.in-Some.size c.in_ok-push.ensures.items c.in-Some.ensures.place c.in-Some.ensures.within refl c.without_return.ensures.row c.loop-size.invariant.completes;
  inside =
      inside-next _ _ _ _ c.in_ok-push.ensures.items c.loop-size.invariant.inside
      (let r = row-within c.loop-size.start c.in-Some.size c.args.text.now c.in-Some.ensures.within in omega (arith, r.0, r.1, c.without_return.ensures.within));
}

pub returns-clause-lines : goal.returns-clause-lines
returns-clause-lines c = made-last _ c.args.text.now _ _ _ c.loop-size.start c.in_ok-push-2.ensures.items c.in_default.ensures.place refl refl c.loop-size.invariant.completes

pub returns-clause-inside : goal.returns-clause-inside
returns-clause-inside c =
    inside-next _ _ _ _ c.in_ok-push-2.ensures.items c.loop-size.invariant.inside
    (let l = length-drop c.loop-size.start c.args.text.now in let w = ap length (from-place c.loop-size.start c.args.text.now) in omega (arith, l, w, c.loop-size.invariant.within))
