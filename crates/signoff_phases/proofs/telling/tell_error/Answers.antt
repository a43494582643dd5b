use Rattle.std.proofs.Common.{sym, ◌∙◌}
use Rattle.signoff_phases.proofs.TellingLaws.{made_fault, made_cut, made_want, tells_fault, tells_cut, tells_want}
use Rattle.signoff_phases.proofs.telling.tell_error.Goals as goal

pub returns-in-Failed-clause-put : goal.returns-in-Failed-clause-put
returns-in-Failed-clause-put g c =
    rw c.tell_fault.ensures.status
    (λ text before put. made_fault text c.args.planned before (g.K.Sink.told c.args.report.now) (g.K.Sink.told c.tell_fault.new.report)
    (sym c.is_run_end.ensures ∙ c.if-is_run_end.true) (rw c.in-Failed.is at put) c.tell_fault.ensures.put)

pub returns-in-Failed-clause-made : goal.returns-in-Failed-clause-made
returns-in-Failed-clause-made g c =
    rw c.tell_fault.ensures.status
    (λ text before put. tells_fault text c.args.planned before (g.K.Sink.told c.args.report.now) (g.K.Sink.told c.tell_fault.new.report)
    (sym c.is_run_end.ensures ∙ c.if-is_run_end.true) (rw c.in-Failed.is at put) c.tell_fault.ensures.put)

pub returns-in-Failed-2-clause-put : goal.returns-in-Failed-2-clause-put
returns-in-Failed-2-clause-put g c =
    λ text before put. made_cut text c.args.planned before (g.K.Sink.told c.args.report.now) (sym c.is_run_end.ensures ∙ c.if-is_run_end.false) (rw c.in-Failed.is at put)

pub returns-in-Failed-2-clause-made : goal.returns-in-Failed-2-clause-made
returns-in-Failed-2-clause-made g c =
    λ text before put. tells_cut text c.args.planned before (g.K.Sink.told c.args.report.now) (sym c.is_run_end.ensures ∙ c.if-is_run_end.false) (rw c.in-Failed.is at put)

pub returns-in-NoMemory-clause-put : goal.returns-in-NoMemory-clause-put
returns-in-NoMemory-clause-put g c =
    rw c.tell_no_memory.ensures.status
    (λ text before put. made_want text c.args.planned before (g.K.Sink.told c.args.report.now) (g.K.Sink.told c.tell_no_memory.new.report)
    (rw c.in-NoMemory.is at put) c.tell_no_memory.ensures.put)

pub returns-in-NoMemory-clause-made : goal.returns-in-NoMemory-clause-made
returns-in-NoMemory-clause-made g c =
    rw c.tell_no_memory.ensures.status
    (λ text before put. tells_want text c.args.planned before (g.K.Sink.told c.args.report.now) (g.K.Sink.told c.tell_no_memory.new.report)
    (rw c.in-NoMemory.is at put) c.tell_no_memory.ensures.put)
