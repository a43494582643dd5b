use Rattle.std.proofs.Common.{refl}
use Rattle.why_causes.proofs.StepLaws.{is-step-by, mixed-more}
use Rattle.why_causes.proofs.steps.is_step.Goals as goal

pub returns-clause-step : goal.returns-clause-step
returns-clause-step c =
    is-step-by c.args.rows.now c.args.old.now c.args.new.now c.args.taken.now _ c.args.state c.next-before.result c.next.result c.args.input c.differ.result c.differ.ensures c.next-before.ensures c.next.ensures c.requires.taken
    (mixed-more c.args.input c.args.rows.now.inputs c.args.taken.now c.args.old.now c.args.new.now _ _ c.requires.new c.requires.old c.requires.input c.requires.taken refl)

pub returns-clause-taken : goal.returns-clause-taken
returns-clause-taken c =
    mixed-more c.args.input c.args.rows.now.inputs c.args.taken.now c.args.old.now c.args.new.now _ _ c.requires.new c.requires.old c.requires.input c.requires.taken refl
