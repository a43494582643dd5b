-- The times of a run, one after another, with the quiet ones skipped.
use Rattle.std.specs.Prelude.{◌≡◌, ℕ, zero, suc, ◌+◌, ◌-◌, ◌<◌, ◌≤◌, ◌==◌, List, [], ◌++◌, map, length, Some, None, Result, Ok, refl}
use Rattle.std.proofs.Common.{sym, ◌∙◌, ap, subst, arith}
use Rattle.std.proofs.lemmas.List.{append-nil, append_assoc}
use Rattle.sg_logic.specs.declared.values.Value.{Value}
use Rattle.sg_model.specs.Machine.{Machine, State}
use Rattle.sg_model.specs.Time as model
use Rattle.sg_model.specs.Time.{Run, Ended, time_of, with_snapshot}
use Rattle.sg_model.specs.Run.{Finished, times_from, go_on, lasts, last_change}
use Rattle.sg_model.specs.Quiet.{IsLawful, IsSeen, IsQuiet, with_copies}
use Rattle.sg_model.proofs.RunSteps.{times-none, times-whole}
use Rattle.sg_model.proofs.SkipLaws.{quiet_times, copies-state, copies-evaluations}
use Rattle.sg_model.proofs.SnapshotLaws.{AddsSnapshots, rounds-snapshots}
use Rattle.time_checks.specs.declared.changes.Change.{Change}
use Rattle.sim_times.specs.Times.{Kept, evaluations_of}
use Rattle.sim_times.specs.Watching.{Call, AreCalls, none_yet, AreDifferences, net_change}
use Rattle.sim_times.specs.Runs.{HasBegun, IsKeptAfter, IsOriginOf, Origin, Setting, TimeMade, calls_at, changed_since, last_after, origin_of, run_from}
use Rattle.sim_times.specs.declared.runs.SimEnd.{SimEnd}
use Rattle.sim_times.proofs.TimeLaws.{rounds-evaluations}
use Rattle.sim_times.proofs.CallLaws.{calls_kept, calls_more, last_kept, last_more, since_after}

-- a run whose times all ended
abbrev pub whole : Run → Finished
whole r = record { run = r; spent = None; evaluations = r.evaluations }

-- a run goes on from where its first times ended
pub times-append : (a b bound : ℕ) (m : Machine) (sets : ℕ → List (ℕ × Value)) (now : ℕ) (r next : Run) → times_from a bound m sets now r ≡ whole next → times_from (a + b) bound m sets now r ≡ times_from b bound m sets (now + a) next
unfolding times_from
times-append zero b bound m sets now r next e =
    let same : r ≡ next = ap (λ f. f.run) e in
    let n : zero + b ≡ b = omega arith in
    let t : now ≡ now + zero = omega arith in
    ap (λ k. times_from k bound m sets now r) n ∙ (ap (λ x. times_from b bound m sets now x) same ∙ ap (λ x. times_from b bound m sets x next) t)
times-append (suc a) b bound m sets now r next e =
    let n : suc a + b ≡ suc (a + b) = omega arith in
    ap (λ k. times_from k bound m sets now r) n ∙ at (time_of bound m sets now r) e (λ q f. times-append a b bound m sets (suc now) q next f)
  where
    at : (t : Ended) → go_on t r now (λ q. times_from a bound m sets (suc now) q) ≡ whole next → ((q : Run) → times_from a bound m sets (suc now) q ≡ whole next → times_from (a + b) bound m sets (suc now) q ≡ times_from b bound m sets (suc now + a) next)
        → go_on t r now (λ q. times_from (a + b) bound m sets (suc now) q) ≡ times_from b bound m sets (now + suc a) next
    at (model.Whole q) f rest =
        let t : suc now + a ≡ now + suc a = omega arith in
        rest q f ∙ ap (λ x. times_from b bound m sets x next) t
    at (model.Spent net n) f rest = absurd (let k : Some (now, net) ≡ None = ap (λ x. x.spent) f in cc)

-- a run never evaluates fewer than before it
pub times-evaluations : (left bound : ℕ) (m : Machine) (sets : ℕ → List (ℕ × Value)) (now : ℕ) (r : Run) → r.evaluations ≤ (times_from left bound m sets now r).evaluations
unfolding times_from
times-evaluations zero bound m sets now r = omega arith
times-evaluations (suc left) bound m sets now r = at (time_of bound m sets now r) (rounds-evaluations bound m now (now == 0) (sets now) r) (λ q. times-evaluations left bound m sets (suc now) q)
  where
    le : (a b c : ℕ) → a ≤ b → b ≤ c → a ≤ c
    le a b c h k = omega arith

    at : (t : Ended) → r.evaluations ≤ evaluations_of t → ((q : Run) → q.evaluations ≤ (times_from left bound m sets (suc now) q).evaluations) → r.evaluations ≤ (go_on t r now (λ q. times_from left bound m sets (suc now) q)).evaluations
    at (model.Whole q) h rest = le r.evaluations q.evaluations _ h (rest q)
    at (model.Spent net n) h rest = h

-- nor fewer than up to the end of its first time
pub time-evaluations : (left bound : ℕ) (m : Machine) (sets : ℕ → List (ℕ × Value)) (now : ℕ) (r : Run) → evaluations_of (time_of bound m sets now r) ≤ (times_from (suc left) bound m sets now r).evaluations
unfolding times_from
time-evaluations left bound m sets now r = at (time_of bound m sets now r)
  where
    same : (n : ℕ) → n ≤ n
    same n = omega arith

    at : (t : Ended) → evaluations_of t ≤ (go_on t r now (λ q. times_from left bound m sets (suc now) q)).evaluations
    at (model.Whole q) = times-evaluations left bound m sets (suc now) q
    at (model.Spent net n) = same n

-- a run whose next times ended, up to some time, and what was told of it
pub record CameTo (s : Setting) (o : Origin) (now : ℕ) (stands : Run → Type 0) (kept : Kept) (got : List Call → Type 0) (steps steps' : ℕ) : Type 0 where
  pub run : Run
  pub times : ℕ
  pub at : o.from + times ≡ now
  pub upto : run_from s o times ≡ whole run
  pub stood : stands run
  pub begun : HasBegun now o.first run
  pub told : kept.told ≡ run.state.values
  pub last : kept.last ≡ changed_since o.last (last_change o.first (lasts run.snapshots))
  pub made : List Call
  pub are : AreCalls o.first (lasts run.snapshots) (o.told ++ made)
  pub calls : got made
  pub took : steps' ≡ steps + run.evaluations

-- the same, with one time more, which is not told yet
pub record Came (s : Setting) (o : Origin) (now : ℕ) (stands : Run → Type 0) (kept : Kept) (got : List Call → Type 0) (untold : List Call) (steps steps' : ℕ) : Type 0 where
  pub run : Run
  pub times : ℕ
  pub at : o.from + times ≡ now
  pub upto : run_from s o (suc times) ≡ whole run
  pub stood : stands run
  pub begun : HasBegun (suc now) o.first run
  pub told : kept.told ≡ run.state.values
  pub last : kept.last ≡ changed_since o.last (last_change o.first (lasts run.snapshots))
  pub made : List Call
  pub are : AreCalls o.first (lasts run.snapshots) (o.told ++ (made ++ untold))
  pub calls : got made
  pub took : steps' ≡ steps + run.evaluations

abbrev pub setting_of : Machine → (ℕ → List (ℕ × Value)) → ℕ → ℕ → State → Setting
setting_of m sets bound end first = record { machine = m; first = first; sets = sets; bound = bound; end = end }

-- from whatever origin, and whatever the end is
pub record AllCameTo (m : Machine) (sets : ℕ → List (ℕ × Value)) (bound from until now : ℕ) (stood : Run → Type 0) (before : Kept) (stands : Run → Type 0) (kept : Kept) (got : List Call → Type 0) (steps steps' : ℕ) : Type 0 where
  pub each : (first : State) (end : ℕ) (o : Origin) → until ≤ end → IsOriginOf from end before o → stood o.run → CameTo (setting_of m sets bound end first) o now stands kept got steps steps'

pub record AllCame (m : Machine) (sets : ℕ → List (ℕ × Value)) (bound from until now : ℕ) (stood : Run → Type 0) (before : Kept) (stands : Run → Type 0) (kept : Kept) (got : List Call → Type 0) (untold : List Call) (steps steps' : ℕ) : Type 0 where
  pub each : (first : State) (end : ℕ) (o : Origin) → until ≤ end → IsOriginOf from end before o → stood o.run → Came (setting_of m sets bound end first) o now stands kept got untold steps steps'

-- before time 0
pub first_origin : (s : Setting) (kept : Kept) → kept.told ≡ s.first.values → kept.last ≡ 0 → IsOriginOf 0 s.end kept (origin_of s)
first_origin s kept told last = record {
  is = record { left = omega arith; begun = (refl, refl); calls = none_yet; uncounted = refl; unchanged = λ e. refl };
  at = refl;
  told = told;
  last = last;
}

pub came_start : (m : Machine) (sets : ℕ → List (ℕ × Value)) (bound from until : ℕ) (stands : Run → Type 0) (kept : Kept) (got : List Call → Type 0) (steps : ℕ) → got [] → AllCameTo m sets bound from until from stands kept stands kept got steps steps
came_start m sets bound from until stands kept got steps g = record {
  each = λ first end o u i h.
      (let none : o.run.evaluations ≡ 0 = i.is.uncounted in
      let at : o.from ≡ from = i.at in
      record {
        run = o.run;
        times = 0;
        at = omega arith;
        upto = times-none bound m sets o.from o.run;
        stood = h;
        begun = subst (λ n. HasBegun n o.first o.run) i.at i.is.begun;
        told = i.told;
        last = i.last;
        made = [];
        are = subst (AreCalls o.first (lasts o.run.snapshots)) (sym (append-nil o.told)) i.is.calls;
        calls = g;
        took = omega arith;
      });
}

-- a time more ended
pub came_time : (m : Machine) (sets : ℕ → List (ℕ × Value)) (bound from until now : ℕ) (stood : Run → Type 0) (before : Kept) (stands after : Run → Type 0) (kept kept' : Kept) (got : List Call → Type 0) (counted steps steps1 steps2 : ℕ) (u : Unit {0}) (changed : List Change) (values : List Value)
    → AllCameTo m sets bound from until now stood before stands kept got steps steps1 → TimeMade m sets bound now stands after counted steps1 steps2 (Ok u)
    → ((r : Run) → after r → values ≡ r.state.values) → length values ≡ length kept.told → AreDifferences kept.told values (map net_change changed) → IsKeptAfter now changed values kept kept'
    → AllCame m sets bound from until now stood before after kept' got (calls_at now changed values) steps steps2
came_time m sets bound from until now stood before stands after kept kept' got counted steps steps1 steps2 u changed values came made shows l h k = record {
  each = λ first end o w i s.
      (let c = came.each first end o w i s in
      let t = made.each c.run c.stood in
      let next : Run = t.0 in
      let v : values ≡ next.state.values = shows next t.2 in
      let adds : AddsSnapshots now c.run next = rounds-snapshots bound m now (now == 0) (sets now) c.run next t.1 in
      let one : c.times + 1 ≡ suc c.times = omega arith in
      let at : o.from + c.times ≡ now = c.at in
      let none : now ≡ 0 → o.last ≡ 0 = λ z. i.is.unchanged (omega arith) in
      let x : steps2 + c.run.evaluations ≡ steps1 + next.evaluations = t.3 in
      let y : steps1 ≡ steps + c.run.evaluations = c.took in
      record {
        run = next;
        times = c.times;
        at = c.at;
        upto = ap (λ n. times_from n bound m sets o.from o.run) (sym one)
            ∙ (times-append c.times 1 bound m sets o.from o.run c.run c.upto ∙ (ap (λ n. times_from 1 bound m sets n c.run) at ∙ (times-whole 0 bound m sets now c.run next t.1 ∙ times-none bound m sets (suc now) next)));
        stood = t.2;
        begun = (record { last = now; older = adds.newer ++ c.run.snapshots; is = adds.is }, omega arith);
        told = k.told ∙ v;
        last = k.last ∙ (ap (last_after now changed) c.last ∙ (since_after now o.last changed (last_change o.first (lasts c.run.snapshots)) none
            ∙ ap (changed_since o.last) (last_more o.first kept.told values now c.run next changed adds c.begun c.told v l h)));
        made = c.made;
        are = subst (AreCalls o.first (lasts next.snapshots)) (append_assoc o.told c.made (calls_at now changed values)) (calls_more o.first kept.told values now c.run next (o.told ++ c.made) changed adds c.begun c.told v l h c.are);
        calls = c.calls;
        took = omega arith;
      });
}

-- skipped times end with a snapshot of the nets as they are
seen_after : (m : Machine) (k t last : ℕ) (r : Run) (seen : IsSeen r) → seen.last ≤ last → t + k ≡ suc last → (after : IsSeen (with_copies k m t r)) × (after.last ≤ last)
unfolding with_copies
seen_after m zero t last r seen l e = (seen, l)
seen_after m (suc k) t last r seen l e = seen_after m k (suc t) last (with_snapshot m t r) (record { last = t; older = r.snapshots; is = refl }) (omega arith) (omega arith)

begun_after : (m : Machine) (first : List Value) (k t next : ℕ) (r : Run) (seen : IsSeen r) → seen.last < next → t + k ≡ next → HasBegun next first (with_copies k m t r)
begun_after m first k t zero r seen l e = absurd (omega arith)
begun_after m first k t (suc last) r seen l e = seen_after m k t last r seen (omega arith) e

-- it was told, and the quiet times up to the next are skipped
pub came_next : (m : Machine) → IsLawful m → (sets : ℕ → List (ℕ × Value)) (bound from until now next : ℕ) (stood : Run → Type 0) (before : Kept) (stands after : Run → Type 0) (kept : Kept) (got got' : List Call → Type 0) (untold : List Call) (steps steps1 : ℕ) → now < next
    → AllCame m sets bound from until now stood before stands kept got untold steps steps1 → ((made : List Call) → got made → got' (made ++ untold))
    → ((r : Run) (t : ℕ) → stands r → now < t → t < next → IsQuiet sets r t)
    → ((k : ℕ) (r : Run) → now + 1 + k ≡ next → IsSeen r → stands r → after (with_copies k m (now + 1) r))
    → AllCameTo m sets bound from until next stood before after kept got' steps steps1
came_next m law sets bound from until now next stood before stands after kept got got' untold steps steps1 later came tells quiet stays = record {
  each = λ first end o u i s. at first end o (came.each first end o u i s);
}
  where
    k : ℕ
    k = next - suc now

    next_is : now + 1 ≡ suc now
    next_is = omega arith

    is_next : suc now + k ≡ next
    is_next = omega arith

    skipped : (o : Origin) (times : ℕ) (r r' : Run) → o.from + times ≡ now → times_from (suc times) bound m sets o.from o.run ≡ whole r → times_from k bound m sets (suc now) r ≡ whole r' → times_from (suc times + k) bound m sets o.from o.run ≡ whole r'
    skipped o times r r' at upto rest =
        let to : o.from + suc times ≡ suc now = omega arith in
        times-append (suc times) k bound m sets o.from o.run r upto ∙ (ap (λ n. times_from k bound m sets n r) to ∙ rest)

    at : (first : State) (end : ℕ) (o : Origin) → Came (setting_of m sets bound end first) o now stands kept got untold steps steps1 → CameTo (setting_of m sets bound end first) o next after kept got' steps steps1
    at first end o c =
        let r : Run = c.run in
        let r' : Run = with_copies k m (suc now) r in
        let seen : IsSeen r = c.begun.0 in
        let none : k + 0 ≡ k = omega arith in
        let jump : times_from (k + 0) bound m sets (suc now) r ≡ times_from 0 bound m sets (suc now + k) r' = quiet_times k 0 bound m law sets (suc now) r seen (λ u lo hi. quiet r u c.stood (omega arith) (omega arith)) in
        let rest : times_from k bound m sets (suc now) r ≡ whole r' = ap (λ n. times_from n bound m sets (suc now) r) (sym none) ∙ (jump ∙ times-none bound m sets (suc now + k) r') in
        let q : seen.last ≤ now = c.begun.1 in
        let last : seen.last < suc now = omega arith in
        let many : r'.evaluations ≡ r.evaluations = copies-evaluations k m (suc now) r in
        let x : steps1 ≡ steps + r.evaluations = c.took in
        let from_is : o.from + c.times ≡ now = c.at in
        record {
          run = r';
          times = suc c.times + k;
          at = omega arith;
          upto = skipped o c.times r r' c.at c.upto rest;
          stood = subst (λ n. after (with_copies k m n r)) next_is (stays k r (omega arith) seen c.stood);
          begun = begun_after m o.first k (suc now) next r seen (omega arith) is_next;
          told = c.told ∙ sym (ap (λ x. x.values) (copies-state k m (suc now) r));
          last = c.last ∙ ap (changed_since o.last) (last_kept o.first k m (suc now) r seen last);
          made = c.made ++ untold;
          are = calls_kept o.first (o.told ++ (c.made ++ untold)) k m (suc now) r seen last c.are;
          calls = tells c.made c.calls;
          took = omega arith;
        }

-- the machine and the sets stay
pub made_same : (m m' : Machine) (sets sets' : ℕ → List (ℕ × Value)) (bound now : ℕ) (stands after : Run → Type 0) (counted steps steps' : ℕ) (end : Result (Unit {0}) SimEnd) → m ≡ m' → sets ≡ sets' → TimeMade m sets bound now stands after counted steps steps' end
    → TimeMade m' sets' bound now stands after counted steps steps' end
made_same m m' sets sets' bound now stands after counted steps steps' end p q h =
    subst (λ x. TimeMade m' x bound now stands after counted steps steps' end) q (subst (λ x. TimeMade x sets bound now stands after counted steps steps' end) p h)
