-- A run that goes on from the moment at which the whole run was stopped is the rest of it.
use Rattle.std.specs.Prelude.{◌≡◌, ℕ, suc, ◌+◌, ◌-◌, ◌<◌, List, [], ◌∷◌, ◌++◌, None, refl}
use Rattle.std.proofs.Common.{sym, ◌∙◌, ap, subst, arith, append-nil}
use Rattle.std.proofs.lemmas.List.Elements.{All-nil}
use Rattle.sg_circuit.specs.Circuit.{Circuit}
use Rattle.sg_stimulus.specs.Stimulus.{Stimulus, sets_at}
use Rattle.sg_model.specs.Machine.{Snapshot}
use Rattle.sg_model.specs.Time.{Run}
use Rattle.sg_model.specs.Run.{Finished, lasts, lasts_before, times_from}
use Rattle.time_checks.specs.Adjusted.{adjusted_checks}
use Rattle.time_checks.specs.Falling.{DontFall, DontFallSince}
use Rattle.time_checks.specs.Later.{EarlierCountByLatest}
use Rattle.time_checks.specs.Violations.{latest_events, violations_since}
use Rattle.sim_times.specs.Runs.{start_of}
use Rattle.sim_times.specs.Times.{count_shown}
use Rattle.sim_rounds.specs.Simulated.{first_state, machine_of, machine_since, run_of_circuit}
use Rattle.sim_rounds.specs.Moments.{Moment, moment_after, run_of_moment, run_up_to, snapshot_of, state_of}
use Rattle.sim_rounds.specs.MomentLaws.{MomentsFit}
use Rattle.sim_rounds.proofs.EventTimes.{all_before, all_lasts}
use Rattle.rest_laws.specs.Rests.{RestIsTheRest}
use Rattle.rest_laws.proofs.Lasts.{IsAfter, IsUpTo, lasts_split, up_to}
use Rattle.rest_laws.proofs.Splits.{HasCome, IsSplit, times_come, times_split}
use Rattle.rest_laws.proofs.Alike.{AreAlike, FindsAlike, times_alike}

falls_since : (time : ℕ) (ss : List Snapshot) → DontFall time ss → DontFallSince [] time ss
falls_since time [] falls = tt
falls_since time (s ∷ ss) falls = (falls.0, falls_since s.time ss falls.1)

module _ (circuit : Circuit) (bound : ℕ) (stimulus : Stimulus) (until : ℕ) where
  -- the run up to the stop, and its moment
  abbrev first : Finished
  first = run_up_to circuit bound stimulus until

  abbrev stop : Moment
  stop = moment_after circuit until first

  -- the times after it, from any run
  abbrev rest_from : Run → Finished
  rest_from r = times_from (stimulus.end - until) bound (machine_of circuit) (sets_at stimulus.steps) (suc until) r

  splits : until < stimulus.end → (run_of_circuit circuit bound stimulus).spent ≡ None → IsSplit (run_of_circuit circuit bound stimulus) first rest_from
  splits early unspent =
      let n : suc stimulus.end ≡ suc until + (stimulus.end - until) = omega arith in
      let t : 0 + suc until ≡ suc until = omega arith in
      let start : Run = start_of (first_state circuit) in
      let s = times_split bound (machine_of circuit) (sets_at stimulus.steps) (suc until) (stimulus.end - until) 0 start
      (subst (λ k. (times_from k bound (machine_of circuit) (sets_at stimulus.steps) 0 start).spent ≡ None) n unspent) in
      record {
        unspent = s.unspent;
        is = ap (λ k. times_from k bound (machine_of circuit) (sets_at stimulus.steps) 0 start) n
            ∙ (s.is ∙ ap (λ x. times_from (stimulus.end - until) bound (machine_of circuit) (sets_at stimulus.steps) x first.run) t);
      }

  comes : first.spent ≡ None → HasCome until first.run
  comes unspent =
      let t : 0 + until ≡ until = omega arith in
      subst (λ x. HasCome x first.run) t (times_come bound (machine_of circuit) (sets_at stimulus.steps) until 0 (start_of (first_state circuit)) tt unspent)

  finds_alike : EarlierCountByLatest → (come : HasCome until first.run) → FindsAlike (machine_of circuit).violated (machine_since circuit stop.latest).violated (snapshot_of stop) come.older
  finds_alike counts come now newer falls after =
      counts.violations [] (adjusted_checks circuit) now newer (snapshot_of stop) come.older (falls_since now.time (newer ++ snapshot_of stop ∷ come.older) falls) after
      ∙ ap (λ ss. violations_since (latest_events [] (adjusted_checks circuit) ss) (adjusted_checks circuit) (now ∷ newer ++ snapshot_of stop ∷ [])) (sym come.is)

  begun_alike : (come : HasCome until first.run) → state_of circuit stop ≡ first.run.state → AreAlike (snapshot_of stop) come.older first.run.violations (suc until) first.run (run_of_moment circuit stop)
  begun_alike come state = record {
    newer = [];
    state = sym state;
    whole = come.is;
    rest = refl;
    violations = sym (append-nil first.run.violations);
    after = All-nil (IsAfter until);
    falls = (omega arith, come.falls);
  }

pub rest_is_the_rest : EarlierCountByLatest → MomentsFit → RestIsTheRest
rest_is_the_rest counts fit circuit bound stimulus until closed applied early unspent =
    let s = splits circuit bound stimulus until early unspent in
    let come = comes circuit bound stimulus until s.unspent in
    let f : Finished = run_up_to circuit bound stimulus until in
    let m : Moment = moment_after circuit until f in
    let whole = fit.of_runs circuit stimulus bound until (count_shown f.evaluations) closed applied early s.unspent in
    let l : until < suc until = omega arith in
    let ends = times_alike (machine_of circuit) (machine_since circuit m.latest).violated (snapshot_of m) come.older f.run.violations (finds_alike circuit bound stimulus until counts come) bound (sets_at stimulus.steps)
    (stimulus.end - until) (suc until) f.run (run_of_moment circuit m) l (begun_alike circuit bound stimulus until come whole.state) (sym (ap (λ (g : Finished). g.spent) s.is) ∙ unspent) in
    record {
      stopped = s.unspent;
      unspent = ends.unspent;
      violations = ap (λ (g : Finished). g.run.violations) s.is ∙ ends.alike.violations;
      later = lasts ends.alike.newer;
      older = lasts_before until come.older;
      after = all_lasts (IsAfter until) ends.alike.newer ends.alike.after;
      before = all_before (IsUpTo until) until come.older (up_to until come.older come.falls);
      whole = ap (λ (g : Finished). lasts g.run.snapshots) s.is ∙ (ap lasts ends.alike.whole ∙ lasts_split ends.alike.newer (snapshot_of m) come.older ends.alike.after);
      begun = ap lasts come.is;
      rest = ap lasts ends.alike.rest ∙ lasts_split ends.alike.newer (snapshot_of m) [] ends.alike.after;
    }
