use Rattle.fit_top.specs.Work.{input_seen}
use Rattle.fit_top.proofs.ReadAgain.{no_names}
use Rattle.fit_top.proofs.SdfLaws.{some_counted}
use Rattle.fit_top.proofs.annotating.fit_files.Goals as goal

pub returns-clause-counted : goal.returns-clause-counted
returns-clause-counted c = some_counted c.fit_beside.result _ _ (λ e. c.if-inputs-eq0.false (no_names input_seen c.args.inputs.now e))
