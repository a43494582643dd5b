-- A run that is stopped.
use Rattle.std.specs.Prelude.{◌≡◌, ℕ, zero, suc, ◌+◌, ◌≤◌, List, [], ◌∷◌, length, map, take, refl, None, Result, Ok, Err, OnOk}
use Rattle.std.specs.List.{enumerate_from}
use Rattle.std.proofs.Common.{sym, ◌∙◌, ap, subst, arith, inl}
use Rattle.std.proofs.lemmas.List.{length-map}
use Rattle.std.proofs.lemmas.List.FromFn.{length-enumerate_from}
use Rattle.std.proofs.lemmas.Option.{none-some}
use Rattle.std.proofs.lemmas.Result.{on_ok_weaker}
use Rattle.sg_logic.specs.declared.values.Value.{Value}
use Rattle.sg_circuit.specs.Circuit.{Circuit}
use Rattle.sg_circuit.specs.Closed.{IsClosed}
use Rattle.sg_model.specs.Machine.{Machine, Snapshot, State, Violation}
use Rattle.sg_model.specs.Round.{each_from}
use Rattle.sg_model.specs.Run.{go_on, last_change, lasts, times_from}
use Rattle.sg_model.specs.Time.{Ended, Run, Spent, Whole, time_of}
use Rattle.fan_round.specs.declared.nets.Nets.{Nets}
use Rattle.fan_round.specs.declared.work.WorkList.{WorkList}
use Rattle.time_checks.specs.declared.latest.Latest.{Latest}
use Rattle.time_checks.specs.declared.violations.Violation as code_violation
use Rattle.time_checks.specs.Adjusted.{AdjustedCheck, adjusted_check, adjusted_checks}
use Rattle.time_checks.specs.Checking.{Kept}
use Rattle.time_checks.specs.Seen.{violation_seen}
use Rattle.time_checks.specs.Violations.{latest_events}
use Rattle.sim_times.specs.declared.runs.SimEnd.{SimEnd}
use Rattle.sim_times.specs.declared.runs.SimEnd.TheVariants.{NoMemory}
use Rattle.sim_times.specs.Runs.{HasStoppedFrom, IsOriginOf, Origin, Setting, StopMade, changed_since, run_from, times_to}
use Rattle.sim_times.specs.Simulations.{StandsBetween}
use Rattle.sim_times.specs.Times.{count_shown, Kept as KeptOfTimes}
use Rattle.sim_times.specs.Watching.{Call}
use Rattle.sim_rounds.specs.declared.stops.Until.{Until}
use Rattle.sim_rounds.specs.declared.stops.Until.TheVariants as stop
use Rattle.sim_rounds.specs.CircuitChecks.{HaveSeen}
use Rattle.sim_rounds.specs.Moments.{Fits, Moment, moment_of}
use Rattle.sim_rounds.specs.MomentsSeen.{moment_seen}
use Rattle.sim_rounds.specs.Pausing.{HasComeTo, HasEach, IsPause, IsTallyOf}
use Rattle.sim_machine.specs.Simulated.{machine_since}
use Rattle.sim_rounds.specs.Stopping.{HasStopped, IsUnfinished, end_of}

-- what is so of the times that were made, and of want of memory after them, is so of the end
pub stop_keeps : (P : Result (Unit {0}) SimEnd → Type 0) → (P (Ok tt) → P (Err NoMemory)) → (found : List Violation) (counted last : ℕ) (come : Moment → Type 0) (made : Result (Unit {0}) SimEnd) (result : Until) → IsPause made found counted last come result → P made → P (end_of result)
stop_keeps P lost found counted last come made (stop.Paused moment tally) p h = subst P p.0 h
stop_keeps P lost found counted last come (Ok u) (stop.Ended finished) p h = subst P (sym p.0) (lost h)
stop_keeps P lost found counted last come (Err e) (stop.Ended finished) p h = subst P (sym p.0) h

module _ {W S : Type 0} (standing broken : W → S → List Call → Type 0) (w w' : W) (s s' : S) (setting : Setting) (o : Origin) (k taken : ℕ) where
  -- where there is no memory for the moment, the run ends after the times that were made
  unkept : (found : List Violation) (last : ℕ) → HasStoppedFrom standing broken w w' s s' setting o k found last taken (Ok tt) → HasStoppedFrom standing broken w w' s s' setting o k found last taken (Err NoMemory)
  unkept found last h = (let e : taken ≡ (run_from setting o k).evaluations = h.1 in omega arith, (k, h.0, (h.2.0, h.2.1, inl h.2.2)))

  told_as : (found found' : List Violation) (last last' : ℕ) (end end' : Result (Unit {0}) SimEnd) → found' ≡ found → last' ≡ last → end' ≡ end → HasStoppedFrom standing broken w w' s s' setting o k found last taken end → HasStoppedFrom standing broken w w' s s' setting o k found' last' taken end'
  told_as found found' last last' end end' f l e h =
      subst (λ x. HasStoppedFrom standing broken w w' s s' setting o k x last' taken end') (sym f)
      (subst (λ x. HasStoppedFrom standing broken w w' s s' setting o k found x taken end') (sym l)
      (subst (λ x. HasStoppedFrom standing broken w w' s s' setting o k found last taken x) (sym e) h))

pub has_stopped : {W S : Type 0} (standing broken : W → S → List Call → Type 0) (w w' : W) (s s' : S) (circuit : Circuit) (earlier : List Latest) (setting : Setting) (o : Origin) (until evaluated taken counted last : ℕ) (found : List Violation) (come : Moment → Type 0) (made : Result (Unit {0}) SimEnd) (result : Until)
    → IsPause made found counted last come result → counted ≡ count_shown taken → HasStoppedFrom standing broken w w' s s' setting o (times_to o.from (suc until)) found last taken made
    → OnOk made ((m : Moment) → come m → (m ≡ moment_of circuit earlier until (run_from setting o (times_to o.from (suc until))).run last (count_shown (evaluated + taken))) × Fits circuit m)
    → HasStopped standing broken w w' s s' circuit earlier setting o until evaluated taken result
has_stopped standing broken w w' s s' circuit earlier setting o until evaluated taken counted last found come (Ok u) (stop.Paused moment tally) p n h f =
    let is : IsTallyOf found counted last tally = p.2 in
    let m = f (moment_seen moment) p.1 in (
      told_as standing broken w w' s s' setting o (times_to o.from (suc until)) taken found _ last tally.last (Ok tt) (Ok tt) is.violations is.last refl h,
      m.0 ∙ ap (λ l. moment_of circuit earlier until (run_from setting o (times_to o.from (suc until))).run l (count_shown (evaluated + taken))) (sym is.last),
      m.1,
      is.evaluations ∙ n,
    )
has_stopped standing broken w w' s s' circuit earlier setting o until evaluated taken counted last found come (Err e) (stop.Paused moment tally) p n h f = absurd (let q : Err e ≡ Ok tt = p.0 in cc)
has_stopped standing broken w w' s s' circuit earlier setting o until evaluated taken counted last found come (Ok u) (stop.Ended finished) p n h f =
    let is : IsTallyOf found counted last finished.tally = p.1 in (
      subst IsUnfinished (sym p.0) tt,
      told_as standing broken w w' s s' setting o (times_to o.from (suc until)) taken found _ last finished.tally.last (Err NoMemory) finished.end is.violations is.last p.0 (unkept standing broken w w' s s' setting o (times_to o.from (suc until)) taken found last h),
      is.evaluations ∙ n,
    )
has_stopped standing broken w w' s s' circuit earlier setting o until evaluated taken counted last found come (Err e) (stop.Ended finished) p n h f =
    let is : IsTallyOf found counted last finished.tally = p.1 in (
      subst IsUnfinished (sym p.0) tt,
      told_as standing broken w w' s s' setting o (times_to o.from (suc until)) taken found _ last finished.tally.last (Err e) finished.end is.violations is.last p.0 h,
      is.evaluations ∙ n,
    )

-- times that weren't spent evaluated what their run did
pub unspent_counts : (left bound : ℕ) (m : Machine) (sets : ℕ → List (ℕ × Value)) (now : ℕ) (r : Run) → (times_from left bound m sets now r).spent ≡ None → (times_from left bound m sets now r).run.evaluations ≡ (times_from left bound m sets now r).evaluations
unfolding times_from
unspent_counts zero bound m sets now r h = refl
unspent_counts (suc left) bound m sets now r h = by (time_of bound m sets now r) (λ x. unspent_counts left bound m sets (suc now) x) h
  where
    by : (e : Ended) → ((x : Run) → (times_from left bound m sets (suc now) x).spent ≡ None → (times_from left bound m sets (suc now) x).run.evaluations ≡ (times_from left bound m sets (suc now) x).evaluations)
        → (go_on e r now (λ x. times_from left bound m sets (suc now) x)).spent ≡ None → (go_on e r now (λ x. times_from left bound m sets (suc now) x)).run.evaluations ≡ (go_on e r now (λ x. times_from left bound m sets (suc now) x)).evaluations
    by (Whole x) more s = more x s
    by (Spent net n) more s = absurd (none-some (now, net) (sym s))

-- the moment that the parts of a simulation have come to is that of the run that was made
pub come_to_run : (circuit : Circuit) (earlier : List Latest) (nets : Nets) (lists : List (List (ℕ × Value))) (states : List Value) (checks : Kept) (touched : WorkList) (found : List code_violation.Violation) (counted ended last until evaluated taken : ℕ) (r : Run) (m : Moment)
    → ((ss : List Snapshot) → latest_events checks.earlier checks.checks ss ≡ latest_events earlier (adjusted_checks circuit) ss) → StandsBetween nets lists states (HaveSeen checks touched nets.values.items) found counted ended (until + 1) r → r.evaluations ≡ taken
    → Fits circuit (moment_of circuit earlier until r last (count_shown (evaluated + taken))) → HasComeTo circuit nets lists states checks touched found counted ended last until evaluated m
    → (m ≡ moment_of circuit earlier until r last (count_shown (evaluated + taken))) × Fits circuit m
come_to_run circuit earlier nets lists states checks touched found counted ended last until evaluated taken r m same stands e fits come =
    let is : m ≡ moment_of circuit earlier until r last (count_shown (evaluated + taken)) = come.each earlier r same stands ∙ ap (λ n. moment_of circuit earlier until r last (count_shown (evaluated + n))) e in
    (is, subst (Fits circuit) (sym is) fits)

module _ (circuit : Circuit) (earlier : List Latest) (nets : Nets) (lists : List (List (ℕ × Value))) (states : List Value) (checks : Kept) (touched : WorkList) (found : List code_violation.Violation) (counted ended last until evaluated taken : ℕ) (same : (ss : List Snapshot) → latest_events checks.earlier checks.checks ss ≡ latest_events earlier (adjusted_checks circuit) ss) where
  -- what was found in the times that ended
  abbrev whole_found : List Violation
  whole_found = take ended (map (λ v. violation_seen v) found)

  abbrev come : Moment → Type 0
  come m = HasComeTo circuit nets lists states checks touched found counted ended last until evaluated m

  -- once the times up to the stop were made, the moment is that of their run
  come_after : {W S : Type 0} (standing broken : W → S → List Call → Type 0) (w w' : W) (s s' : S) (setting : Setting) (o : Origin) (k : ℕ) (made : Result (Unit {0}) SimEnd) → HasStoppedFrom standing broken w w' s s' setting o k whole_found last taken made
      → OnOk made (StandsBetween nets lists states (HaveSeen checks touched nets.values.items) found counted ended (until + 1) (run_from setting o k).run)
      → ((run_from setting o k).spent ≡ None → Fits circuit (moment_of circuit earlier until (run_from setting o k).run (changed_since o.last (last_change o.first (lasts (run_from setting o k).run.snapshots))) (count_shown (evaluated + taken))))
      → OnOk made ((m : Moment) → come m → (m ≡ moment_of circuit earlier until (run_from setting o k).run last (count_shown (evaluated + taken))) × Fits circuit m)
  come_after standing broken w w' s s' setting o k (Ok u) h stands fits = λ m c.
      let e : (run_from setting o k).run.evaluations ≡ taken = unspent_counts k setting.bound setting.machine setting.sets o.from o.run h.0.unspent ∙ sym h.1 in
      come_to_run circuit earlier nets lists states checks touched found counted ended last until evaluated taken (run_from setting o k).run m same stands e
      (subst (λ l. Fits circuit (moment_of circuit earlier until (run_from setting o k).run l (count_shown (evaluated + taken)))) (sym h.0.last) (fits h.0.unspent)) c
  come_after standing broken w w' s s' setting o k (Err e) h stands fits = tt

-- the machine of elements that are a circuit's
pub same_machine : (circuit other : Circuit) (earlier known : List Latest) (m : Machine) → m ≡ machine_since other known → other ≡ circuit → known ≡ earlier → m ≡ machine_since circuit earlier
same_machine circuit other earlier known m e c k = e ∙ (ap (λ x. machine_since x known) c ∙ ap (λ (ls : List Latest). machine_since circuit ls) k)

-- the latest events of checks that go on as a circuit's did
pub same_events : (circuit : Circuit) (earlier known now : List Latest) (checks later : List AdjustedCheck) → ◌≡◌ {A = List Snapshot → List Latest} (λ ss. latest_events now later ss) (λ ss. latest_events known checks ss) → checks ≡ adjusted_checks circuit → known ≡ earlier
    → (ss : List Snapshot) → latest_events now later ss ≡ latest_events earlier (adjusted_checks circuit) ss
same_events circuit earlier known now checks later e c k ss = ap (λ (f : List Snapshot → List Latest). f ss) e ∙ (ap (λ ks. latest_events known ks ss) c ∙ ap (λ ls. latest_events ls (adjusted_checks circuit) ss) k)

-- what is so after the times that were made gives something else
pub then_so : {P Q : Type 0} (made : Result (Unit {0}) SimEnd) → OnOk made P → (P → Q) → OnOk made Q
then_so (Ok u) p f = f p
then_so (Err e) p f = tt

length-each_from : {A B : Type 0} (f : ℕ → A → B) (k : ℕ) (xs : List A) → length (each_from f k xs) ≡ length xs
length-each_from f k [] = refl
length-each_from f k (x ∷ xs) = ap suc (length-each_from f (suc k) xs)

-- a simulation of a circuit's machine, whose checks go on as the circuit's did, has each of its parts
pub has_each : (circuit : Circuit) → IsClosed circuit → (earlier : List Latest) (m : Machine) (lists : List (List (ℕ × Value))) (states : List Value) (checks : Kept) → m ≡ machine_since circuit earlier → length m.inputs ≡ length lists → length states ≡ length lists
    → ((ss : List Snapshot) → latest_events checks.earlier checks.checks ss ≡ latest_events earlier (adjusted_checks circuit) ss) → HasEach circuit lists states checks
has_each circuit closed earlier m lists states checks e n s h =
    let each : length lists ≡ length circuit.elements = sym n ∙ (ap (λ x. length x.inputs) e ∙ length-map circuit.elements (λ x. x.inputs)) in
    record {
      lists_are = each;
      states_are = s ∙ each;
      checks_are = sym (length-each_from _ 0 checks.checks) ∙ (ap length (h []) ∙ (length-each_from _ 0 (adjusted_checks circuit)
          ∙ (length-map (enumerate_from 0 circuit.check_timings) (adjusted_check circuit) ∙ (length-enumerate_from 0 circuit.check_timings ∙ closed.timing_of_each))));
    }

-- the times up to the stop were made from an origin, and the rest of the simulation was left
pub left_off : {W S : Type 0} (standing broken : W → S → List Call → Type 0) (w w' : W) (s s' : S) (circuit : Circuit) (earlier : List Latest) (m : Machine) (sets sets' : ℕ → List (ℕ × Value)) (bound from until end evaluated taken : ℕ) (first : State) (o : Origin) (stood : Run → Type 0) (before kept : KeptOfTimes)
    (nets : Nets) (lists : List (List (ℕ × Value))) (states : List Value) (checks : Kept) (touched : WorkList) (found : List code_violation.Violation) (counted ended last : ℕ) (made : Result (Unit {0}) SimEnd) (result : Until)
    → m ≡ machine_since circuit earlier → sets' ≡ sets → until ≤ end → IsOriginOf from end before o → stood o.run
    → StopMade m sets' bound from until stood (StandsBetween nets lists states (HaveSeen checks touched nets.values.items) found counted ended (until + 1)) before standing broken w w' s s' kept counted taken made
    → kept.violations ≡ take ended (map (λ v. violation_seen v) found) → kept.last ≡ last
    → ((ss : List Snapshot) → latest_events checks.earlier checks.checks ss ≡ latest_events earlier (adjusted_checks circuit) ss)
    → let setting : Setting = record { machine = machine_since circuit earlier; first = first; sets = sets; bound = bound; end = end } in let k = times_to o.from (suc until) in
    ((run_from setting o k).spent ≡ None → Fits circuit (moment_of circuit earlier until (run_from setting o k).run (changed_since o.last (last_change o.first (lasts (run_from setting o k).run.snapshots))) (count_shown (evaluated + taken))))
    → IsPause made (take ended (map (λ v. violation_seen v) found)) counted last (λ x. HasComeTo circuit nets lists states checks touched found counted ended last until evaluated x) result
    → HasStopped standing broken w w' s s' circuit earlier setting o until evaluated taken result
left_off standing broken w w' s s' circuit earlier m sets sets' bound from until end evaluated taken first o stood before kept nets lists states checks touched found counted ended last made result e d within begins stands stop v l same fits pause =
    let setting : Setting = record { machine = machine_since circuit earlier; first = first; sets = sets; bound = bound; end = end } in
    let k : ℕ = times_to o.from (suc until) in
    let at : Machine → (ℕ → List (ℕ × Value)) → ℕ → Setting × ℕ = λ x y f. (record { machine = x; first = first; sets = y; bound = bound; end = end }, times_to f (suc until)) in
    let here : at m sets' from ≡ (setting, k) = ap (λ x. at x sets' from) e ∙ (ap (λ y. at (machine_since circuit earlier) y from) d ∙ ap (λ f. at (machine_since circuit earlier) sets f) (sym begins.at)) in
    let stopped : HasStoppedFrom standing broken w w' s s' setting o k (take ended (map (λ x. violation_seen x) found)) last taken made =
    subst (λ x. HasStoppedFrom standing broken w w' s s' setting o k x last taken made) v (subst (λ x. HasStoppedFrom standing broken w w' s s' setting o k kept.violations x taken made) l
    (subst (λ p. HasStoppedFrom standing broken w w' s s' p.0 o p.1 kept.violations kept.last taken made) here (stop.ended first end o within begins stands))) in
    let left : OnOk made (StandsBetween nets lists states (HaveSeen checks touched nets.values.items) found counted ended (until + 1) (run_from setting o k).run) =
    on_ok_weaker made (λ x. subst (λ p. StandsBetween nets lists states (HaveSeen checks touched nets.values.items) found counted ended (until + 1) (run_from p.0 o p.1).run) here (x first end o within begins stands)) stop.left in
    has_stopped standing broken w w' s s' circuit earlier setting o until evaluated taken counted last (take ended (map (λ x. violation_seen x) found)) (λ x. HasComeTo circuit nets lists states checks touched found counted ended last until evaluated x) made result pause
    (stop.shown end o within begins stands) stopped (come_after circuit earlier nets lists states checks touched found counted ended last until evaluated taken same standing broken w w' s s' setting o k made stopped left fits)
