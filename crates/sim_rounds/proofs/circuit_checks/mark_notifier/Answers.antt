use Rattle.sim_machine.specs.Notifiers.{notifier_at}
use Rattle.sim_rounds.proofs.NotifierLaws.{notifier_within, marks_notifier, marks_none}
use Rattle.std.specs.Prelude.{length}
use Rattle.sim_rounds.proofs.circuit_checks.mark_notifier.Goals as goal

pub mark_all-requires-clause-readers : goal.mark_all-requires-clause-readers
mark_all-requires-clause-readers c = notifier_within c.args.checks.now c.args.check (length c.args.marks.now) c.in-Some.net c.requires.notifiers c.in-Some.ensures

pub returns-in-Some-clause-marks : goal.returns-in-Some-clause-marks
returns-in-Some-clause-marks c = λ m l. marks_notifier c.args.marks.now c.mark_all.new.marks c.in-Some.net (notifier_at c.args.checks.now c.args.check) m l c.in-Some.ensures c.mark_all.ensures.marks

pub returns-in_default-clause-marks : goal.returns-in_default-clause-marks
returns-in_default-clause-marks c = λ m l. marks_none c.args.marks.now (notifier_at c.args.checks.now c.args.check) m c.in_default.ensures
