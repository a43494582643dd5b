use Rattle.std.proofs.Common.{◌≡◌, ◌≤◌, ◌+◌, ◌-◌, length}
use Rattle.sim_times.specs.Watching.{Got, HasTold}
use Rattle.sim_times.proofs.RunLaws.{AllCameTo}
use Rattle.sim_times.proofs.runs.make_times_until.Given as goal

abbrev pub invariant-loop-now : goal.invariant-loop-now
invariant-loop-now g l =
    let t = g.T.Times in
    let w = g.W.Watch in
    let s = g.S.Shelf in
    record {
      machine : t.machine l.times ≡ t.machine l.fn.times;
      sets : t.sets l.times ≡ t.sets l.fn.times;
      came : AllCameTo (t.machine l.fn.times) (t.sets l.fn.times) l.bound l.from l.until l.now (t.stands l.fn.times l.from) (t.kept l.fn.times) (t.stands l.times l.now) (t.kept l.times) (λ made. Got w.stands l.fn.watcher l.watcher l.fn.shelf l.shelf made) l.fn.steps l.steps;
      ready : t.ready l.times l.now;
      within : l.now ≤ l.until + 1;
      steps : l.fn.steps ≤ l.steps;
      latest : (t.kept l.times).latest ≡ (t.kept l.fn.times).latest;
      told : length (t.kept l.times).told ≡ length (t.values l.times);
      told_is : (t.kept l.times).told ≡ t.values l.times;
      calls : HasTold (w.stands l.watcher l.shelf) (t.values l.times);
      nets : length (t.values l.times) ≡ length (t.values l.fn.times);
      name : w.name l.watcher ≡ w.name l.fn.watcher;
      circuit : w.circuit l.watcher ≡ w.circuit l.fn.watcher;
      count : s.fault_count l.shelf ≡ s.fault_count l.fn.shelf;
      fault : s.last_fault l.shelf ≡ s.last_fault l.fn.shelf;
      keeps : w.keeps l.fn.watcher l.fn.shelf l.shelf;
      same : (a b : g.row.S.Denot) → w.keeps l.watcher a b → w.keeps l.fn.watcher a b;
    }

abbrev pub decreases-loop-now : goal.decreases-loop-now
decreases-loop-now g l = l.until + 1 - l.now
