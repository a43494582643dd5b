use Rattle.std.specs.Prelude.{Ok, Err}
use Rattle.std.proofs.Common.{◌≡◌, ℕ, ◌+◌, ◌-◌, refl, sym, ◌∙◌, ap, subst, arith, rules, length}
use Rattle.std.proofs.lemmas.Result.{err_from_is_err_and}
use Rattle.sg_model.specs.Machine.{Machine}
use Rattle.sg_model.specs.Quiet.{IsLawful, IsQuiet, with_copies}
use Rattle.sim_times.specs.Watching.{AreNextCalls, Got, Broke, HasTold}
use Rattle.sim_times.specs.Runs.{StopMade, TimeMade, calls_at}
use Rattle.sim_times.specs.declared.runs.SimEnd.{SimEnd}
use Rattle.sim_times.proofs.CallLaws.{got_start, got_more}
use Rattle.sim_times.proofs.TruthLaws.{next_calls, told_more}
use Rattle.sim_times.proofs.RunLaws.{AllCame, AllCameTo, came_start, came_time, came_next, made_same}
use Rattle.sim_times.proofs.EndLaws.{all_made, stopped_in_call, stopped_in_time}
use Rattle.sim_times.proofs.runs.make_times_until.Goals as goal

pub loop-now-init : goal.loop-now-init
loop-now-init g c =
    let t = g.T.Times in
    let w = g.W.Watch in
    let times = c.args.times.now in
    record {
      machine = refl;
      sets = refl;
      came = came_start (t.machine times) (t.sets times) c.args.bound c.args.from c.args.until (t.stands times c.args.from) (t.kept times) (λ made. Got w.stands c.args.watcher.now c.args.watcher.now c.args.shelf.now c.args.shelf.now made) c.args.steps.now
          (got_start w.stands c.args.watcher.now c.args.shelf.now);
      ready = c.requires.ready;
      within = c.requires.from;
      steps = omega arith;
      latest = refl;
      told = ap length c.requires.told;
      told_is = c.requires.told;
      calls = c.requires.before;
      nets = refl;
      name = refl;
      circuit = refl;
      count = refl;
      fault = refl;
      keeps = g.met.W.Watch.keeps_same c.args.watcher.now c.args.shelf.now;
      same = λ a b h. h;
    }

pub returns-in_err-make-clause-made : goal.returns-in_err-make-clause-made
returns-in_err-make-clause-made g c =
    let t = g.T.Times in
    let w = g.W.Watch in
    let p = err_from_is_err_and c.from_residual.result c.from_residual.ensures.1 in
    let e : SimEnd = c.in_err-make.field-0.0 in
    let is : c.from_residual.result ≡ Err e = p.1 ∙ ap Err p.2 in
    let m : Machine = t.machine c.args.times.now in
    let sets = t.sets c.args.times.now in
    let from : ℕ = c.args.from in
    let until : ℕ = c.args.until in
    let now : ℕ = c.loop-now.now in
    let new = c.make.new.self in
    let made : TimeMade m sets c.args.bound now (t.stands c.loop-now.times now) (t.stands new (now + 1)) (t.counted new) c.loop-now.steps c.make.new.steps (Err e) =
    made_same _ _ _ _ c.args.bound now (t.stands c.loop-now.times now) (t.stands new (now + 1)) (t.counted new) c.loop-now.steps c.make.new.steps (Err e) c.loop-now.invariant.machine c.loop-now.invariant.sets c.in_err-make.ensures.made in
    subst (λ r. StopMade m sets c.args.bound from until (t.stands c.args.times.now from) (t.stands new (until + 1)) (t.kept c.args.times.now) w.stands w.broken c.args.watcher.now c.loop-now.watcher c.args.shelf.now c.loop-now.shelf (t.kept new) (t.counted new) (c.make.new.steps - c.args.steps.now) r) (sym is)
    (stopped_in_time m sets c.args.bound from until now (t.stands c.args.times.now from) (t.kept c.args.times.now) (t.stands c.loop-now.times now) (t.stands new (now + 1)) (t.stands new (until + 1)) (t.kept c.loop-now.times) (t.kept new) w.stands w.broken
    c.args.watcher.now c.loop-now.watcher c.args.shelf.now c.loop-now.shelf (t.counted new) c.args.steps.now c.loop-now.steps c.make.new.steps e c.loop-now-test.true c.loop-now.invariant.came made (g.met.T.Times.holds c.loop-now.times now) c.in_err-make.ensures.ended)

pub tell_time-requires-clause-next : goal.tell_time-requires-clause-next
tell_time-requires-clause-next g c =
    let t = g.T.Times in
    let stands = g.W.Watch.stands c.loop-now.watcher c.loop-now.shelf in
    let new = c.make.new.self in
    subst (λ vs. AreNextCalls stands (calls_at c.loop-now.now c.changes.result.now vs)) (sym c.values.ensures)
    (subst (λ cs. AreNextCalls stands (calls_at c.loop-now.now cs (t.values new))) (sym c.changes.ensures)
    (next_calls stands (t.kept c.loop-now.times).told (t.values new) c.loop-now.now (t.changes new) (subst (HasTold stands) (sym c.loop-now.invariant.told_is) c.loop-now.invariant.calls) c.in_ok-make.ensures.changed))

pub returns-in_err-tell_time-clause-made : goal.returns-in_err-tell_time-clause-made
returns-in_err-tell_time-clause-made g c =
    let t = g.T.Times in
    let w = g.W.Watch in
    let p = err_from_is_err_and c.from_residual-in_err-tell_time.result c.from_residual-in_err-tell_time.ensures.1 in
    let e : SimEnd = c.in_err-tell_time.field-0.0 in
    let is : c.from_residual-in_err-tell_time.result ≡ Err e = p.1 ∙ ap Err p.2 in
    let m : Machine = t.machine c.args.times.now in
    let sets = t.sets c.args.times.now in
    let from : ℕ = c.args.from in
    let until : ℕ = c.args.until in
    let now : ℕ = c.loop-now.now in
    let new = c.make.new.self in
    let made : TimeMade m sets c.args.bound now (t.stands c.loop-now.times now) (t.stands new (now + 1)) (t.counted new) c.loop-now.steps c.make.new.steps (Ok c.in_ok-make.field-0) =
    made_same _ _ _ _ c.args.bound now (t.stands c.loop-now.times now) (t.stands new (now + 1)) (t.counted new) c.loop-now.steps c.make.new.steps (Ok c.in_ok-make.field-0) c.loop-now.invariant.machine c.loop-now.invariant.sets c.in_ok-make.ensures.made in
    let came : AllCame m sets c.args.bound from until now (t.stands c.args.times.now from) (t.kept c.args.times.now) (t.stands new (now + 1)) (t.kept new) (λ made. Got w.stands c.args.watcher.now c.loop-now.watcher c.args.shelf.now c.loop-now.shelf made) (calls_at now (t.changes new) (t.values new)) c.args.steps.now c.make.new.steps =
    came_time m sets c.args.bound from until now (t.stands c.args.times.now from) (t.kept c.args.times.now) (t.stands c.loop-now.times now) (t.stands new (now + 1)) (t.kept c.loop-now.times) (t.kept new) (λ made. Got w.stands c.args.watcher.now c.loop-now.watcher c.args.shelf.now c.loop-now.shelf made)
    (t.counted new) c.args.steps.now c.loop-now.steps c.make.new.steps c.in_ok-make.field-0 (t.changes new) (t.values new) c.loop-now.invariant.came made (g.met.T.Times.shows new (now + 1)) (c.in_ok-make.ensures.nets ∙ sym c.loop-now.invariant.told) c.in_ok-make.ensures.changed c.in_ok-make.ensures.kept in
    let broke : Broke w.stands w.broken c.loop-now.watcher c.tell_time.new.watcher c.loop-now.shelf c.tell_time.new.shelf (calls_at now (t.changes new) (t.values new)) =
    subst (λ vs. Broke w.stands w.broken c.loop-now.watcher c.tell_time.new.watcher c.loop-now.shelf c.tell_time.new.shelf (calls_at now (t.changes new) vs)) c.values.ensures
    (subst (λ cs. Broke w.stands w.broken c.loop-now.watcher c.tell_time.new.watcher c.loop-now.shelf c.tell_time.new.shelf (calls_at now cs c.values.result.now)) c.changes.ensures c.in_err-tell_time.ensures.err) in
    subst (λ r. StopMade m sets c.args.bound from until (t.stands c.args.times.now from) (t.stands new (until + 1)) (t.kept c.args.times.now) w.stands w.broken c.args.watcher.now c.tell_time.new.watcher c.args.shelf.now c.tell_time.new.shelf (t.kept new) (t.counted new) (c.make.new.steps - c.args.steps.now) r) (sym is)
    (stopped_in_call m sets c.args.bound from until now (t.stands c.args.times.now from) (t.kept c.args.times.now) (t.stands new (now + 1)) (t.stands new (until + 1)) (t.kept new) w.stands w.broken c.args.watcher.now c.loop-now.watcher c.tell_time.new.watcher c.args.shelf.now c.loop-now.shelf c.tell_time.new.shelf
    (calls_at now (t.changes new) (t.values new)) (t.counted new) c.args.steps.now c.make.new.steps e c.loop-now-test.true came c.in_err-tell_time.ensures.call broke (g.met.T.Times.holds new (now + 1)) (g.met.T.Times.counts new (now + 1)))

pub loop-now-preserved : goal.loop-now-preserved
loop-now-preserved g c =
    let t = g.T.Times in
    let w = g.W.Watch in
    let m : Machine = t.machine c.args.times.now in
    let sets = t.sets c.args.times.now in
    let from : ℕ = c.args.from in
    let until : ℕ = c.args.until in
    let now : ℕ = c.loop-now.now in
    let new = c.make.new.self in
    let made : TimeMade m sets c.args.bound now (t.stands c.loop-now.times now) (t.stands new (now + 1)) (t.counted new) c.loop-now.steps c.make.new.steps (Ok c.in_ok-make.field-0) =
    made_same _ _ _ _ c.args.bound now (t.stands c.loop-now.times now) (t.stands new (now + 1)) (t.counted new) c.loop-now.steps c.make.new.steps (Ok c.in_ok-make.field-0) c.loop-now.invariant.machine c.loop-now.invariant.sets c.in_ok-make.ensures.made in
    let came : AllCame m sets c.args.bound from until now (t.stands c.args.times.now from) (t.kept c.args.times.now) (t.stands new (now + 1)) (t.kept new) (λ made. Got w.stands c.args.watcher.now c.loop-now.watcher c.args.shelf.now c.loop-now.shelf made) (calls_at now (t.changes new) (t.values new)) c.args.steps.now c.make.new.steps =
    came_time m sets c.args.bound from until now (t.stands c.args.times.now from) (t.kept c.args.times.now) (t.stands c.loop-now.times now) (t.stands new (now + 1)) (t.kept c.loop-now.times) (t.kept new) (λ made. Got w.stands c.args.watcher.now c.loop-now.watcher c.args.shelf.now c.loop-now.shelf made)
    (t.counted new) c.args.steps.now c.loop-now.steps c.make.new.steps c.in_ok-make.field-0 (t.changes new) (t.values new) c.loop-now.invariant.came made (g.met.T.Times.shows new (now + 1)) (c.in_ok-make.ensures.nets ∙ sym c.loop-now.invariant.told) c.in_ok-make.ensures.changed c.in_ok-make.ensures.kept in
    let got : Got w.stands c.loop-now.watcher c.tell_time.new.watcher c.loop-now.shelf c.tell_time.new.shelf (calls_at now (t.changes new) (t.values new)) =
    subst (λ vs. Got w.stands c.loop-now.watcher c.tell_time.new.watcher c.loop-now.shelf c.tell_time.new.shelf (calls_at now (t.changes new) vs)) c.values.ensures
    (subst (λ cs. Got w.stands c.loop-now.watcher c.tell_time.new.watcher c.loop-now.shelf c.tell_time.new.shelf (calls_at now cs c.values.result.now)) c.changes.ensures c.in_ok-tell_time.ensures.ok) in
    let same : t.machine new ≡ m = c.in_ok-make.ensures.machine ∙ c.loop-now.invariant.machine in
    let same_sets : t.sets new ≡ sets = c.in_ok-make.ensures.sets ∙ c.loop-now.invariant.sets in
    let nets : length (t.values new) ≡ length (t.values c.args.times.now) = c.in_ok-make.ensures.nets ∙ c.loop-now.invariant.nets in
    record {
      machine = c.next-now.ensures.machine ∙ same;
      sets = c.next-now.ensures.sets ∙ same_sets;
      came = subst (λ k. AllCameTo m sets c.args.bound from until c.next-now.result (t.stands c.args.times.now from) (t.kept c.args.times.now) (t.stands c.next-now.new.self c.next-now.result) k (λ made. Got w.stands c.args.watcher.now c.tell_time.new.watcher c.args.shelf.now c.tell_time.new.shelf made) c.args.steps.now c.make.new.steps) (sym c.next-now.ensures.kept)
          (came_next m c.requires.law sets c.args.bound from until now c.next-now.result (t.stands c.args.times.now from) (t.kept c.args.times.now) (t.stands new (now + 1)) (t.stands c.next-now.new.self c.next-now.result) (t.kept new)
          (λ made. Got w.stands c.args.watcher.now c.loop-now.watcher c.args.shelf.now c.loop-now.shelf made) (λ made. Got w.stands c.args.watcher.now c.tell_time.new.watcher c.args.shelf.now c.tell_time.new.shelf made) (calls_at now (t.changes new) (t.values new)) c.args.steps.now c.make.new.steps
          c.next-now.ensures.later came (λ made h. got_more w.stands c.args.watcher.now c.loop-now.watcher c.tell_time.new.watcher c.args.shelf.now c.loop-now.shelf c.tell_time.new.shelf made (calls_at now (t.changes new) (t.values new)) h got)
          (λ x u h lo hi. subst (λ y. IsQuiet y x u) same_sets (c.next-now.ensures.quiet x u h lo hi))
          (λ k x at seen h. (let to : now + 1 + k ≡ c.next-now.result = omega (arith, at) in
          subst (λ n. t.stands c.next-now.new.self n (with_copies k m (now + 1) x)) to
          (c.next-now.ensures.stands (now + 1 + k) (with_copies k m (now + 1) x) (subst (λ y. t.stands new (now + 1 + k) (with_copies k y (now + 1) x)) same (g.met.T.Times.skips new k (now + 1) x (subst IsLawful (sym same) c.requires.law) seen h))))));
      ready = c.next-now.ensures.ready;
      within = c.next-now.ensures.within;
      steps = search rules;
      latest = ap (λ k. k.latest) c.next-now.ensures.kept ∙ (c.in_ok-make.ensures.kept.latest ∙ c.loop-now.invariant.latest);
      told = ap (λ k. length k.told) c.next-now.ensures.kept ∙ (ap length c.in_ok-make.ensures.kept.told ∙ ap length (sym c.next-now.ensures.values));
      told_is = ap (λ k. k.told) c.next-now.ensures.kept ∙ (c.in_ok-make.ensures.kept.told ∙ sym c.next-now.ensures.values);
      calls = subst (HasTold (w.stands c.tell_time.new.watcher c.tell_time.new.shelf)) (sym c.next-now.ensures.values)
          (told_more (w.stands c.loop-now.watcher c.loop-now.shelf) (w.stands c.tell_time.new.watcher c.tell_time.new.shelf) (t.kept c.loop-now.times).told (t.values new) now (t.changes new)
          (subst (HasTold (w.stands c.loop-now.watcher c.loop-now.shelf)) (sym c.loop-now.invariant.told_is) c.loop-now.invariant.calls) c.in_ok-make.ensures.changed (c.in_ok-make.ensures.nets ∙ sym c.loop-now.invariant.told) got.each);
      nets = ap length c.next-now.ensures.values ∙ nets;
      name = search rules;
      circuit = search rules;
      count = search rules;
      fault = search rules;
      keeps = g.met.W.Watch.keeps_on c.args.watcher.now c.args.shelf.now c.loop-now.shelf c.tell_time.new.shelf c.loop-now.invariant.keeps (c.loop-now.invariant.same c.loop-now.shelf c.tell_time.new.shelf c.in_ok-tell_time.ensures.keeps);
      same = λ a b h. c.loop-now.invariant.same a b (c.in_ok-tell_time.ensures.kept_back a b h);
    }

pub returns-clause-made : goal.returns-clause-made
returns-clause-made g c =
    let t = g.T.Times in
    let w = g.W.Watch in
    let times = c.loop-now.times in
    all_made (t.machine c.args.times.now) (t.sets c.args.times.now) c.args.bound c.args.from c.args.until c.loop-now.now (t.stands c.args.times.now c.args.from) (t.kept c.args.times.now) (t.stands times) (t.kept times) w.stands w.broken c.args.watcher.now c.loop-now.watcher c.args.shelf.now c.loop-now.shelf
    (t.counted times) c.args.steps.now c.loop-now.steps _ c.loop-now-test.false c.loop-now.invariant.within c.loop-now.invariant.came (g.met.T.Times.holds times c.loop-now.now) (g.met.T.Times.counts times c.loop-now.now)

pub returns-clause-ready : goal.returns-clause-ready
returns-clause-ready g c =
    let is : c.loop-now.now ≡ c.args.until + 1 = omega (arith, c.loop-now-test.false, c.loop-now.invariant.within) in
    subst (g.T.Times.ready c.loop-now.times) is c.loop-now.invariant.ready
