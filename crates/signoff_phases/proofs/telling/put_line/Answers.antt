use Rattle.std.proofs.Common.{◌++◌, ◌∷◌, [], Ok, Err}
use Rattle.std.proofs.lemmas.Result.{err_from_is_err_and}
use Rattle.signoff_phases.proofs.Putting.{put_by, by_stop, by_then}
use Rattle.signoff_phases.proofs.telling.put_line.Goals as goal

pub returns-in_err-put : goal.returns-in_err-put
returns-in_err-put g c =
    let p = err_from_is_err_and c.from_residual.result c.from_residual.ensures.1 in
    let start = g.K.Sink.told c.args.report.now in
    let end = g.K.Sink.told c.put.new.self in
    let before = c.args.before.now in
    let name = c.args.name.now in
    rw (p.1, p.2)
    (by_stop (before ++ name) (10 ∷ []) start end c.in_err-put.field-0.0
    (by_stop before name start end c.in_err-put.field-0.0
    (put_by before start end (Err c.in_err-put.field-0.0) c.in_err-put.ensures)))

pub returns-in_err-put-2 : goal.returns-in_err-put-2
returns-in_err-put-2 g c =
    let p = err_from_is_err_and c.from_residual-in_err-put-2.result c.from_residual-in_err-put-2.ensures.1 in
    let start = g.K.Sink.told c.args.report.now in
    let one = g.K.Sink.told c.put.new.self in
    let end = g.K.Sink.told c.put-2.new.self in
    let before = c.args.before.now in
    let name = c.args.name.now in
    rw (p.1, p.2)
    (by_stop (before ++ name) (10 ∷ []) start end c.in_err-put-2.field-0.0
    (by_then before name start one end (Err c.in_err-put-2.field-0.0)
    (put_by before start one (Ok c.in_ok-put.field-0) c.in_ok-put.ensures)
    (put_by name one end (Err c.in_err-put-2.field-0.0) c.in_err-put-2.ensures)))

pub returns : goal.returns
returns g c =
    let start = g.K.Sink.told c.args.report.now in
    let one = g.K.Sink.told c.put.new.self in
    let two = g.K.Sink.told c.put-2.new.self in
    let end = g.K.Sink.told c.put-3.new.self in
    let before = c.args.before.now in
    let name = c.args.name.now in
    by_then (before ++ name) (10 ∷ []) start two end c.put-3.result
    (by_then before name start one two (Ok c.in_ok-put-2.field-0)
    (put_by before start one (Ok c.in_ok-put.field-0) c.in_ok-put.ensures)
    (put_by name one two (Ok c.in_ok-put-2.field-0) c.in_ok-put-2.ensures))
    (put_by (10 ∷ []) two end c.put-3.result c.put-3.ensures)
