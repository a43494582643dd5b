-- A remark, word by word.
use Rattle.std.proofs.Common.{sym}
use Rattle.vcd_form.proofs.StepLaws.{remark_ends, remark_more, word_taken}
use Rattle.vcd_form.proofs.sections.remark_rest.Goals as goal

pub returns-then-is_end : goal.returns-then-is_end
returns-then-is_end c = (remark_ends c.args.text.now _ c.more.place c.in-Some.next _ c.more.invariant.rest c.in-Some.ensures.0 c.in-Some.ensures.1 (sym c.if-is_end.ensures), c.in-Some.ensures.2)

pub more-smaller : goal.more-smaller
more-smaller c = word_taken c.args.text.now c.more.place c.in-Some.next _ c.in-Some.ensures.0 c.in-Some.ensures.1

pub more-preserved : goal.more-preserved
more-preserved c = record {
  rest = remark_more c.args.text.now _ c.more.place c.in-Some.next _ c.more.invariant.rest c.in-Some.ensures.0 c.in-Some.ensures.1 (sym c.if-is_end.ensures);
  between = c.in-Some.ensures.2;
}
