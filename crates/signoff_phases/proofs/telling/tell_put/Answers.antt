use Rattle.signoff_phases.proofs.TellingLaws.{made_all, tells_all}
use Rattle.signoff_phases.proofs.telling.tell_put.Goals as goal

pub returns-in-Ok-clause-put : goal.returns-in-Ok-clause-put
returns-in-Ok-clause-put g c = λ text before put. made_all text c.args.planned before (g.K.Sink.told c.args.report.now) c.in-Ok.field-0 (rw c.in-Ok.is at put)

pub returns-in-Ok-clause-made : goal.returns-in-Ok-clause-made
returns-in-Ok-clause-made g c = λ text before put. tells_all text c.args.planned before (g.K.Sink.told c.args.report.now) c.in-Ok.field-0 (rw c.in-Ok.is at put)

pub returns-in-Err-clause-put : goal.returns-in-Err-clause-put
returns-in-Err-clause-put g c = λ text before put. c.tell_error.ensures.put text before (rw c.in-Err.is at put)

pub returns-in-Err-clause-made : goal.returns-in-Err-clause-made
returns-in-Err-clause-made g c = λ text before put. c.tell_error.ensures.made text before (rw c.in-Err.is at put)
