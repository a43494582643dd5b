use Rattle.std.proofs.Common.{inl}
use Rattle.signoff_phases.proofs.telling.put_text.Goals as goal

pub returns-clause-put : goal.returns-clause-put
returns-clause-put g c = c.tell_put.ensures.put c.args.text.now (g.K.Sink.told c.args.report.now) c.put-put.ensures

pub returns-clause-made : goal.returns-clause-made
returns-clause-made g c = c.tell_put.ensures.made c.args.text.now (g.K.Sink.told c.args.report.now) (inl c.put-put.ensures)
