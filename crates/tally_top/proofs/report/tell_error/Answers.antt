use Rattle.std.proofs.Common.{sym, ◌∙◌}
use Rattle.tally_top.proofs.Telling.{tells_fault, tells_cut, tells_want}
use Rattle.tally_top.proofs.report.tell_error.Goals as goal

pub returns-in-Failed : goal.returns-in-Failed
returns-in-Failed g c =
    rw c.tell_fault.ensures.status
    (λ text before put. tells_fault text c.args.planned before (g.K.Sink.told c.args.report.now) (g.K.Sink.told c.tell_fault.new.report)
    (sym c.is_report.ensures ∙ c.if-is_report.true) (rw c.in-Failed.is at put) c.tell_fault.ensures.put)

pub returns-in-Failed-2 : goal.returns-in-Failed-2
returns-in-Failed-2 g c =
    λ text before put. tells_cut text c.args.planned before (g.K.Sink.told c.args.report.now) (sym c.is_report.ensures ∙ c.if-is_report.false) (rw c.in-Failed.is at put)

pub returns-in-NoMemory : goal.returns-in-NoMemory
returns-in-NoMemory g c =
    rw c.tell_no_memory.ensures.status
    (λ text before put. tells_want text c.args.planned before (g.K.Sink.told c.args.report.now) (g.K.Sink.told c.tell_no_memory.new.report)
    (rw c.in-NoMemory.is at put) c.tell_no_memory.ensures.put)
