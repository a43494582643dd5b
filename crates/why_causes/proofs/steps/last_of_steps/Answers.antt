use Rattle.why_causes.proofs.StepLaws.{last-more, stepped-more, last-by}
use Rattle.why_causes.proofs.steps.last_of_steps.Goals as goal

pub loop-input-preserved : goal.loop-input-preserved
loop-input-preserved c = record {
  last = last-more c.args.trace.now c.args.limit c.args.time c.args.steps.now c.args.inputs.now c.loop-input.input c.loop-input.last c.last_at-found.result c.found_or-last.result c.loop-input-test.true
      c.loop-input.invariant.last c.last_at-found.ensures c.found_or-last.ensures;
  stepped = stepped-more c.args.trace.now c.args.limit c.args.time c.args.steps.now c.args.inputs.now c.loop-input.input c.loop-input.stepped c.last_at-found.result c.kept_if.result c.found_or-stepped.result c.loop-input-test.true
      c.loop-input.invariant.stepped c.last_at-found.ensures c.kept_if.ensures c.found_or-stepped.ensures;
}

pub returns : goal.returns
returns c =
    last-by c.args.trace.now c.args.limit c.args.time c.args.steps.now c.args.inputs.now c.loop-input.input c.loop-input.last c.loop-input.stepped c.found_or.result c.loop-input-test.false
    c.loop-input.invariant.last c.loop-input.invariant.stepped c.found_or.ensures
