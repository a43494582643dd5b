use Rattle.std.proofs.Common.{◌≡◌, ◌-◌, ◌<◌, ◌≤◌, [], false}
use Rattle.sim_times.proofs.TimeLaws.{StillGoes}
use Rattle.sim_times.proofs.times.make_time.Given as goal

abbrev pub invariant-loop : goal.invariant-loop
invariant-loop g l =
    let e = g.R.Rounds in
    record {
      machine : e.machine l.rounds ≡ e.machine l.fn.rounds;
      kept : e.kept l.rounds ≡ e.kept l.fn.rounds;
      goes : StillGoes (l.bound - l.counter) l.bound (e.machine l.fn.rounds) l.now l.must l.first (e.handed l.rounds) (e.handed l.fn.rounds) (e.stands l.fn.rounds l.now) (e.stands l.rounds l.now) l.fn.steps l.steps;
      steps : l.fn.steps ≤ l.steps;
      ready : e.ready l.rounds l.must l.now;
      later : 0 < l.counter → (l.must ≡ false) × (e.handed l.rounds ≡ []);
    }
