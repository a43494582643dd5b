use Rattle.std.proofs.Common.{refl}
use Rattle.fit_top.proofs.Meetings.{met_here, met_later, met_never}
use Rattle.fit_top.proofs.answers.is_met.Goals as goal

pub loop-input-init : goal.loop-input-init
loop-input-init g c = λ is_one e. refl

pub returns-then-is_one : goal.returns-then-is_one
returns-then-is_one g c = λ is_one e.
    met_here (λ n. n.now) (is_one c.args.made.now) c.args.inputs.now c.loop-input.input-index _ _ c.loop-input-test.true c.is_one.result (c.is_one.ensures is_one e) c.if-is_one.true (c.loop-input.invariant is_one e)

pub loop-input-preserved : goal.loop-input-preserved
loop-input-preserved g c = λ is_one e.
    met_later (λ n. n.now) (is_one c.args.made.now) c.args.inputs.now c.loop-input.input-index _ _ c.loop-input-test.true c.is_one.result (c.is_one.ensures is_one e) c.if-is_one.false (c.loop-input.invariant is_one e)

pub returns : goal.returns
returns g c = λ is_one e. met_never (λ n. n.now) (is_one c.args.made.now) c.args.inputs.now c.loop-input.input-index _ c.loop-input-test.false (c.loop-input.invariant is_one e)
