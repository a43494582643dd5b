use Rattle.tally_top.proofs.Telling.{tells_all}
use Rattle.tally_top.proofs.report.put_text.Goals as goal

pub returns-in-Ok : goal.returns-in-Ok
returns-in-Ok g c =
    tells_all c.args.text.now c.args.planned (g.K.Sink.told c.args.report.now) (g.K.Sink.told c.put.new.self) c.in-Ok.field-0 (rw c.in-Ok.is at c.put.ensures)

pub returns-in-Err : goal.returns-in-Err
returns-in-Err g c = c.tell_error.ensures c.args.text.now (g.K.Sink.told c.args.report.now) (rw c.in-Err.is at c.put.ensures)
