-- Items are read one after another.
use Rattle.std.proofs.Common.{subst, ◌∙◌}
use Rattle.std.proofs.lemmas.Result.{err_from_is_err_and}
use Rattle.sg_text.specs.declared.refusals.Refused.TheVariants as refused
use Rattle.vcd_form.specs.Reading.{read_of}
use Rattle.vcd_form.specs.Seen.{item_seen}
use Rattle.vcd_stim.specs.Whole.{NextRead}
use Rattle.vcd_stim.proofs.ItemLaws.{item-smaller, reached-last}
use Rattle.vcd_stim.proofs.ReadingLaws.{adds-goes, adds-stops, form-stops, memory-stops, next-ends, next-is}
use Rattle.vcd_stim.proofs.Refusals.{exit-match}
use Rattle.vcd_stim.proofs.reading.read_items.Goals as goal

pub returns-in_err-item : goal.returns-in_err-item
returns-in_err-item c h e t =
    exit-match _ _ c.from_residual.result c.in_err-item.field-0.0 (err_from_is_err_and c.from_residual.result c.from_residual.ensures.1)
    (form-stops h c.args.words.now.text.now (read_of c.args.words.now) (read_of c.loop-steps.words) (read_of c.next.new.words) c.loop-steps.steps c.next.result c.in_err-item.field-0.0 (c.loop-steps.invariant.reached h e t) c.in_err-item.was
    (subst (λ x. NextRead x (read_of c.loop-steps.words) (read_of c.next.new.words) c.next.result) c.loop-steps.invariant.same c.next.ensures.read))

pub loop-steps-smaller : goal.loop-steps-smaller
loop-steps-smaller c =
    item-smaller c.loop-steps.words.text.now c.next.new.words.text.now (read_of c.loop-steps.words) (read_of c.next.new.words) (item_seen c.in-Some.item) c.next.ensures.text
    (next-is c.loop-steps.words.text.now (read_of c.loop-steps.words) (read_of c.next.new.words) c.next.result c.in_ok-item.field-0 c.in-Some.item c.in_ok-item.was c.in-Some.is c.next.ensures.read)

pub loop-steps-preserved : goal.loop-steps-preserved
loop-steps-preserved c = record {
  same = c.next.ensures.text ∙ c.loop-steps.invariant.same;
  reached = λ h e t.
      adds-goes h c.args.words.now.text.now (read_of c.args.words.now) (read_of c.loop-steps.words) (read_of c.next.new.words) (item_seen c.in-Some.item) c.loop-steps.steps c.add_item.new.steps c.add_item.result c.in_ok-add_item.field-0
      (c.loop-steps.invariant.reached h e t)
      (next-is c.args.words.now.text.now (read_of c.loop-steps.words) (read_of c.next.new.words) c.next.result c.in_ok-item.field-0 c.in-Some.item c.in_ok-item.was c.in-Some.is
      (subst (λ x. NextRead x (read_of c.loop-steps.words) (read_of c.next.new.words) c.next.result) c.loop-steps.invariant.same c.next.ensures.read))
      c.in_ok-add_item.was (λ gs now. c.add_item.ensures h gs now e t);
}

pub returns-in_err-add_item : goal.returns-in_err-add_item
returns-in_err-add_item c h e t =
    exit-match _ _ c.from_residual-in_err-add_item.result c.in_err-add_item.field-0.0 (err_from_is_err_and c.from_residual-in_err-add_item.result c.from_residual-in_err-add_item.ensures.1)
    (adds-stops h c.args.words.now.text.now (read_of c.args.words.now) (read_of c.loop-steps.words) (read_of c.next.new.words) (item_seen c.in-Some.item) c.loop-steps.steps c.add_item.new.steps c.add_item.result c.in_err-add_item.field-0.0
    (c.loop-steps.invariant.reached h e t)
    (next-is c.args.words.now.text.now (read_of c.loop-steps.words) (read_of c.next.new.words) c.next.result c.in_ok-item.field-0 c.in-Some.item c.in_ok-item.was c.in-Some.is
    (subst (λ x. NextRead x (read_of c.loop-steps.words) (read_of c.next.new.words) c.next.result) c.loop-steps.invariant.same c.next.ensures.read))
    c.in_err-add_item.was (λ gs now. c.add_item.ensures h gs now e t))

pub returns-in_err-close : goal.returns-in_err-close
returns-in_err-close c h e t =
    exit-match _ _ c.from_residual-in_err-close.result refused.NoMemory (err_from_is_err_and c.from_residual-in_err-close.result c.from_residual-in_err-close.ensures.1)
    (memory-stops h c.args.words.now.text.now (read_of c.args.words.now))

pub returns : goal.returns
returns c h e t =
    reached-last h c.args.words.now.text.now (read_of c.args.words.now) (read_of c.loop-steps.words) c.loop-steps.steps (c.loop-steps.invariant.reached h e t)
    (next-ends c.args.words.now.text.now (read_of c.loop-steps.words) (read_of c.next.new.words) c.next.result c.in_ok-item.field-0 c.in_ok-item.was c.in_default.is
    (subst (λ x. NextRead x (read_of c.loop-steps.words) (read_of c.next.new.words) c.next.result) c.loop-steps.invariant.same c.next.ensures.read))
    _ c.in_ok-close.ensures.closed
