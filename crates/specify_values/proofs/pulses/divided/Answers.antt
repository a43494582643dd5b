-- At the front all are left; where a place divides nothing, those behind it are.
use Rattle.std.proofs.Common.{sym, ◌∙◌}
use Rattle.specify_values.proofs.Cutting.{all-ends, ends-left}
use Rattle.specify_values.proofs.pulses.divided.Goals as goal

pub loop-at-init : goal.loop-at-init
loop-at-init c = λ vs marked. all-ends vs c.args.text.now

pub loop-at-preserved : goal.loop-at-preserved
loop-at-preserved c = λ vs marked.
    ends-left vs c.args.text.now c.loop-at.at c.loop-at-test.true (sym (c.divides.ensures vs marked) ∙ c.if-divides.false) (c.loop-at.invariant vs marked)
