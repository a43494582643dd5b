use Rattle.std.specs.Prelude.{Err, OnOk, OnErr, [], ◌∷◌}
use Rattle.std.proofs.Common.{◌≡◌, ◌+◌, ◌-◌, sym, ◌∙◌, ap, subst}
use Rattle.std.proofs.lemmas.Result.{err_from_is_err_and}
use Rattle.sim_times.specs.Watching.{Got, Broke, IsNextCall, call_of, end_call}
use Rattle.sim_times.specs.Runs.{RunMade}
use Rattle.sim_times.specs.declared.runs.SimEnd.{SimEnd}
use Rattle.sim_times.proofs.TruthLaws.{next_end}
use Rattle.sim_times.proofs.EndLaws.{all_told, call_ends, stopped_before}
use Rattle.sim_times.proofs.runs.make_times.Goals as goal

pub returns-in_err-make_times_until-clause-ended : goal.returns-in_err-make_times_until-clause-ended
returns-in_err-make_times_until-clause-ended g c =
    let t = g.T.Times in
    let w = g.W.Watch in
    let old = c.args.times.now in
    let new = c.make_times_until.new.times in
    let p = err_from_is_err_and c.from_residual.result c.from_residual.ensures.1 in
    let e : SimEnd = c.in_err-make_times_until.field-0.0 in
    let is : c.from_residual.result ≡ Err e = p.1 ∙ ap Err p.2 in
    subst (λ r. RunMade (t.machine old) (t.sets old) c.args.bound c.args.from c.args.end (t.stands old c.args.from) (t.kept old) w.stands w.broken c.args.watcher.now c.make_times_until.new.watcher c.args.shelf.now c.make_times_until.new.shelf (t.kept new) (t.counted new) (c.make_times_until.new.steps - c.args.steps.now) r) (sym is)
    (stopped_before (t.machine old) (t.sets old) c.args.bound c.args.from c.args.end (t.stands old c.args.from) (t.stands new (c.args.end + 1)) (t.kept old) w.stands w.broken c.args.watcher.now c.make_times_until.new.watcher c.args.shelf.now c.make_times_until.new.shelf
    (t.kept new) (t.counted new) (c.make_times_until.new.steps - c.args.steps.now) e c.in_err-make_times_until.ensures.made)

pub tell-requires-clause-next : goal.tell-requires-clause-next
tell-requires-clause-next g c =
    let stands = g.W.Watch.stands c.make_times_until.new.watcher c.make_times_until.new.shelf in
    subst (λ vs. IsNextCall stands (call_of c.args.end [] vs)) (sym c.values.ensures) (next_end stands (g.T.Times.values c.make_times_until.new.times) c.args.end c.in_ok-make_times_until.ensures.calls)

pub returns-clause-ended : goal.returns-clause-ended
returns-clause-ended g c =
    let t = g.T.Times in
    let w = g.W.Watch in
    let old = c.args.times.now in
    let mid = c.make_times_until.new in
    let call = end_call c.args.end (t.values mid.times) ∷ [] in
    all_told (t.machine old) (t.sets old) c.args.bound c.args.from c.args.end (t.stands old c.args.from) (t.stands mid.times (c.args.end + 1)) (t.kept old) w.stands w.broken c.args.watcher.now mid.watcher c.tell.new.watcher
    c.args.shelf.now mid.shelf c.tell.new.shelf (t.values mid.times) (t.kept mid.times) (t.counted mid.times) (mid.steps - c.args.steps.now) c.in_ok-make_times_until.field-0 c.tell.result c.in_ok-make_times_until.ensures.made (g.met.T.Times.shows mid.times (c.args.end + 1))
    c.tell.ensures.call (call_ends w.stands w.broken mid.watcher c.tell.new.watcher mid.shelf c.tell.new.shelf call c.tell.result
    (subst (λ vs. OnOk c.tell.result (Got w.stands mid.watcher c.tell.new.watcher mid.shelf c.tell.new.shelf (end_call c.args.end vs ∷ []))) c.values.ensures c.tell.ensures.ok)
    (subst (λ vs. OnErr c.tell.result (Broke w.stands w.broken mid.watcher c.tell.new.watcher mid.shelf c.tell.new.shelf (end_call c.args.end vs ∷ []))) c.values.ensures c.tell.ensures.err))

pub returns-clause-keeps : goal.returns-clause-keeps
returns-clause-keeps g c =
    let mid = c.make_times_until.new in
    g.met.W.Watch.keeps_on c.args.watcher.now c.args.shelf.now mid.shelf c.tell.new.shelf c.make_times_until.ensures.keeps (c.make_times_until.ensures.kept_back mid.shelf c.tell.new.shelf c.tell.ensures.keeps)
