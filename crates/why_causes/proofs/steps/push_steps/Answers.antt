use Rattle.std.proofs.Common.{◌+◌, ◌≡◌, ◌∙◌, suc, take, drop, ◌++◌, ap, arith}
use Rattle.why_causes.specs.Causes.{is_step}
use Rattle.why_causes.proofs.StepLaws.{steps-more}
use Rattle.why_causes.proofs.steps.push_steps.Goals as goal

pub loop-input-preserved : goal.loop-input-preserved
loop-input-preserved c =
    let next : suc c.loop-input.input ≡ c.loop-input.input + 1 = omega arith in
    let more = steps-more (is_step c.args.rows.now c.args.old.now c.args.new.now c.args.state) c.loop-input.steps.items c.loop-input.input c.is_step.result c.push.new.self.items c.loop-input.invariant.many c.loop-input.invariant.each
    c.is_step.ensures.step c.in_ok-push.ensures.items in
    record {
      taken = c.is_step.ensures.taken ∙ ap (λ n. take n c.args.new.now ++ drop n c.args.old.now) next;
      many = more.0;
      each = more.1;
    }
