-- What a run leaves in the file of its dump, and what its end tells, is what the definition's run has.
use Rattle.std.proofs.Common.{◌≡◌, ◌∙◌, sym, ap, refl, subst, ℕ, zero, suc, ◌+◌, ◌-◌, List, [], ◌++◌, map, inl, inr, ◌≤◌, arith}
use Rattle.std.proofs.lemmas.List.{append-nil}
use Rattle.std.specs.Prelude.{Option, Some, None, Result, Ok, Err, IfOk}
use Rattle.std.specs.Global.{Vec}
use Rattle.sg_io.specs.Faults.{FaultsTold, Rises, next_count}
use Rattle.sg_io.specs.Files.{File, BothTell, HasAfter}
use Rattle.sg_io.specs.Memory.{ShelfInMemory}
use Rattle.sg_io.specs.declared.outside.ShelfError.{ShelfError}
use Rattle.sg_circuit.specs.Circuit.{Circuit}
use Rattle.sg_model.specs.Machine.{Violation}
use Rattle.sg_model.specs.Time.{Run}
use Rattle.sg_model.specs.Run.{last_change, lasts}
use Rattle.time_checks.specs.Seen.{violation_seen}
use Rattle.time_checks.specs.declared.violations.Violation as code_violation
use Rattle.sim_times.specs.Runs.{Origin, Setting, AllCallsFrom, CallsFrom, CallsMadeFrom, CauseOfEnd, HasEnded, HasEndedFrom, HasEndedTimesFrom, HasStoppedFrom, origin_of, run_for, run_from, times_to}
use Rattle.sim_times.specs.Times.{count_shown}
use Rattle.sim_times.specs.Watching.{AreTruthful, Call, Got, Broke}
use Rattle.sim_times.specs.declared.runs.SimEnd.{SimEnd}
use Rattle.sim_times.specs.declared.runs.SimEnd.TheVariants.{RoundsSpent, WatchFailed, NoMemory}
use Rattle.wave_out.specs.Files.{FileBegins, FileHolds, KeepsOthers, Leaves}
use Rattle.wave_out.specs.Scopes.{variables_of}
use Rattle.run_report.specs.Spent.{spent_seen}
use Rattle.wave_out.specs.Vcd.{header, vcd_body, vcd_text}
use Rattle.wave_out.specs.Writing.{Holds, Writer, text_after}
use Rattle.run_report.specs.declared.report.Spent as code_spent
use Rattle.wave_out.proofs.DumpLaws.{begun_run, spent_whole, whole_run}
use Rattle.wave_out.proofs.FileLaws.{begins_more, told_before}
use Rattle.wave_out.proofs.RunLaws.{spent_run}
use Rattle.run_dump.specs.RunEnds.{WatcherFails, spent_in, violations_of, with_found, with_spent}
use Rattle.run_dump.proofs.FileLaws.{FileAs, held_begins, leaves_own}

-- A file as it is after calls of a run: it holds the text of those that were made, or after a failure its first bytes, where something is so of these calls; and then their text is known.
module _ {W S : Type 0} (stands broken : W → S → List Call → Type 0) (w w' : W) (a b : S) (Right : List Call → Type 0) (text_of : List Call → List ℕ) (name text : List ℕ) (told : Option (List File))
    (held : (made : List Call) → Got stands w w' a b made → Right made → FileHolds name (text_of made) told) (cut : (made : List Call) → Broke stands broken w w' a b made → Right made → FileBegins name (text_of made) told) (s : Setting) (o : Origin)
    (spent : (spent : ℕ × Option ℕ) (made : List Call) → (run_from s o o.left).spent ≡ Some spent → CallsFrom s o (times_to o.from spent.0) made → Right made × (text_of made ≡ text))
    (begun : (n : ℕ) (made : List Call) → n ≤ o.left → (run_from s o n).spent ≡ None → CallsFrom s o n made → Right made × ((rest : List ℕ) × (text ≡ text_of made ++ rest))) where
  whole_held : (made : List Call) → Right made × (text_of made ≡ text) → Got stands w w' a b made → FileHolds name text told
  whole_held made h got = subst (λ t. FileHolds name t told) h.1 (held made got h.0)

  part_begun : (n : ℕ) (found : List Violation) (changed : ℕ) (made : List Call) → HasEndedTimesFrom s o n found changed → CallsFrom s o n made → (Right made → FileBegins name (text_of made) told) → FileBegins name text told
  part_begun n found changed made times are first =
      let h = begun n made times.within times.unspent are in
      subst (λ t. FileBegins name t told) (sym h.1.1) (begins_more name (text_of made) h.1.0 told (first h.0))

  part_held : (n : ℕ) (found : List Violation) (changed : ℕ) (made : List Call) → HasEndedTimesFrom s o n found changed → CallsFrom s o n made → Got stands w w' a b made → FileBegins name text told
  part_held n found changed made times are got = part_begun n found changed made times are (λ right. held_begins name (text_of made) told (held made got right))

  -- by how the run ended, to its end
  module _ (whole : (made : List Call) → (run_from s o o.left).spent ≡ None → AllCallsFrom s o made → Right made × (text_of made ≡ text)) where
    made_begun : (n : ℕ) (found : List Violation) (changed : ℕ) (made : List Call) → HasEndedTimesFrom s o n found changed → CallsMadeFrom s o n made → Broke stands broken w w' a b made → FileBegins name text told
    made_begun n found changed made times (inl are) broke = part_begun n found changed made times are (cut made broke)
    made_begun n found changed made times (inr (is, all)) broke =
        let h = whole made (subst (λ k. (run_from s o k).spent ≡ None) is times.unspent) all in
        subst (λ t. FileBegins name t told) h.1 (cut made broke h.0)

    pub file_after : (violations : Vec code_violation.Violation) (found : List Violation) (changed taken : ℕ) (end : Result (Unit {0}) SimEnd) → HasEndedFrom stands broken w w' a b s o found changed taken end → FileAs name text told (with_found violations (spent_in end))
    file_after violations found changed taken (Ok u) (times, _, (made, all, got)) = whole_held made (whole made times.unspent all) got
    file_after violations found changed taken (Err (RoundsSpent time net)) (some, _, _, (made, are, got)) = whole_held made (spent (time, Some net) made some are) got
    file_after violations found changed taken (Err WatchFailed) (n, times, _, (made, are, broke)) = made_begun n found changed made times are broke
    file_after violations found changed taken (Err NoMemory) (_, (n, times, inl (made, are, got))) = part_held n found changed made times are got
    file_after violations found changed taken (Err NoMemory) (_, (n, times, inr (made, are, broke))) = made_begun n found changed made times are broke

  -- and of one that is stopped
  module _ (stopped : (made : List Call) → (run_from s o o.left).spent ≡ None → CallsFrom s o o.left made → Right made × (text_of made ≡ text)) where
    pub file_paused : (found : List Violation) (changed taken : ℕ) → HasStoppedFrom stands broken w w' a b s o o.left found changed taken (Ok tt) → FileHolds name text told
    file_paused found changed taken (times, _, (made, are, got)) = whole_held made (stopped made times.unspent are) got

    pub file_unfinished : (violations : Vec code_violation.Violation) (found : List Violation) (changed taken : ℕ) (end : Result (Unit {0}) SimEnd) → HasStoppedFrom stands broken w w' a b s o o.left found changed taken end → FileAs name text told (with_spent violations (spent_in end))
    file_unfinished violations found changed taken (Ok u) h = held_begins name text told (file_paused found changed taken h)
    file_unfinished violations found changed taken (Err (RoundsSpent time net)) (some, _, _, (made, are, got)) = whole_held made (spent (time, Some net) made some are) got
    file_unfinished violations found changed taken (Err WatchFailed) (n, times, _, (made, are, broke)) = part_begun n found changed made times are (cut made broke)
    file_unfinished violations found changed taken (Err NoMemory) (_, (n, times, (made, are, inl got))) = part_held n found changed made times are got
    file_unfinished violations found changed taken (Err NoMemory) (_, (n, times, (made, are, inr broke))) = part_begun n found changed made times are (cut made broke)

-- the text of the definition's run
abbrev pub text_for : Circuit → Setting → List ℕ
text_for circuit s = vcd_text circuit s.end (run_for s (suc s.end))

-- it begins with the header
pub text_parts : (circuit : Circuit) (s : Setting) → text_for circuit s ≡ header circuit ++ vcd_body (variables_of circuit) s.end (run_for s (suc s.end))
unfolding vcd_text
text_parts circuit s = refl

-- what a writer and its shelf stand for, and how they break
abbrev pub StandsFor : {S : Type 0} → (S → Option (List File)) → Writer → S → List Call → Type 0
StandsFor files = λ w s calls. Holds w (files s) calls

abbrev pub BreaksIn : {S : Type 0} → (S → Option (List File)) → Writer → S → List Call → Type 0
BreaksIn files = λ w s calls. FileBegins w.name (text_after w.circuit calls) (files s)

-- a new file with the header holds the text of no calls
holds_none : (name : List ℕ) (circuit : Circuit) (old new : Option (List File)) → BothTell old new (HasAfter name (header circuit))
    → Holds (record { name = name; circuit = circuit; last = None }) new []
holds_none name circuit old new h = record {
  file = λ files e.
      let told = told_before (HasAfter name (header circuit)) old new files h e in
      told.2.this ∙ ap Some (sym (append-nil (header circuit)));
  last = refl;
}

-- A new writer wrote the header of a circuit's dump.
module _ {S : Type 0} (files : S → Option (List File)) (name : List ℕ) (circuit : Circuit) (w : Writer) (old : Option (List File)) (a : S) (is : w ≡ record { name = name; circuit = circuit; last = None }) (new : BothTell old (files a) (HasAfter name (header circuit))) where
  -- it stands for no calls
  pub starts : Holds w (files a) []
  starts = subst (λ x. Holds x (files a) []) (sym is) (holds_none name circuit old (files a) new)

  -- and then it was told of a run
  pub dump_left : (s : Setting) (w' : Writer) (b : S) (violations : Vec code_violation.Violation) (found : List Violation) (changed taken : ℕ) (end : Result (Unit {0}) SimEnd) → w'.name ≡ w.name → w'.circuit ≡ w.circuit → KeepsOthers w.name (files a) (files b)
      → HasEnded (StandsFor files) (BreaksIn files) w w' a b s found changed taken end → BothTell old (files b) (Leaves name (text_for circuit s) (with_found violations (spent_in end)))
  dump_left s w' b violations found changed taken end same_name same_circuit others h =
      leaves_own (λ c. text_for c s) name (header circuit) circuit w w' old (files a) (files b) (with_found violations (spent_in end)) (ap (λ (x : Writer). x.name) is) (ap (λ (x : Writer). x.circuit) is) new same_name same_circuit others
      (file_after (StandsFor files) (BreaksIn files) w w' a b AreTruthful (text_after w'.circuit) w'.name (text_for w'.circuit s) (files b) (λ made got right. (got.each [] starts right).file) (λ made broke right. broke.each [] starts right) s (origin_of s)
      (spent_whole w'.circuit s) (begun_run w'.circuit s) (whole_run w'.circuit s) violations found changed taken end h)

-- the times before a spent one are those of the whole run
times_before : (from many time : ℕ) → time ≡ from + many → times_to from time ≡ many
times_before zero many time e = let is : time ≡ many = omega arith in is
times_before (suc from) many time e = let is : time - suc from ≡ many = omega arith in is

pub spent_times : (s : Setting) (o : Origin) (n : ℕ) (spent : ℕ × Option ℕ) → (run_from s o n).spent ≡ Some spent → (run_from s o (times_to o.from spent.0)).run ≡ (run_from s o n).run
spent_times s o n spent some =
    let before = spent_run n s.bound s.machine s.sets o.from o.run spent some in
    ap (λ k. (run_from s o k).run) (times_before o.from before.times spent.0 before.at) ∙ sym before.is

-- what a run tells that came to an end: its violations, and the time that was spent
module _ {W S : Type 0} (stands broken : W → S → List Call → Type 0) (w w' : W) (a b : S) (s : Setting) (o : Origin) (violations : Vec code_violation.Violation) (changed taken : ℕ) where
  abbrev EndsWith : Result (Unit {0}) SimEnd → Type 0
  EndsWith end = HasEndedFrom stands broken w w' a b s o (map (λ v. violation_seen v) violations.items) changed taken end

  pub end_spent : (end : Result (Unit {0}) SimEnd) → EndsWith end → IfOk (with_found violations (spent_in end)) (λ e. spent_seen e.spent ≡ (run_from s o o.left).spent)
  end_spent (Ok u) h = sym h.0.unspent
  end_spent (Err (RoundsSpent time net)) h = sym h.0
  end_spent (Err WatchFailed) h = tt
  end_spent (Err NoMemory) h = tt

  pub end_violations : (end : Result (Unit {0}) SimEnd) → EndsWith end → IfOk (with_found violations (spent_in end)) (λ e. violations_of e ≡ (run_from s o o.left).run.violations)
  end_violations (Ok u) h = h.0.violations
  end_violations (Err (RoundsSpent time net)) h = h.1.violations ∙ ap (λ (r : Run). r.violations) (spent_times s o o.left (time, Some net) h.0)
  end_violations (Err WatchFailed) h = tt
  end_violations (Err NoMemory) h = tt

-- what a run that came to an end found, its last change, its evaluations, and the time that was spent
pub record Finds (s : Setting) (spent : Option code_spent.Spent) (found : List Violation) (changed taken : ℕ) : Type 0 where
  pub spent_is : spent_seen spent ≡ (run_for s (suc s.end)).spent
  pub found_is : found ≡ (run_for s (suc s.end)).run.violations
  pub last_is : changed ≡ last_change s.first.values (lasts (run_for s (suc s.end)).run.snapshots)
  pub taken_is : taken ≡ (run_for s (suc s.end)).evaluations

run_finds : {W S : Type 0} (stands broken : W → S → List Call → Type 0) (w w' : W) (a b : S) (s : Setting) (found : List Violation) (changed taken : ℕ) (end : Result (Unit {0}) SimEnd) (spent : Option code_spent.Spent)
    → HasEnded stands broken w w' a b s found changed taken end → ◌≡◌ {A = Result (Option code_spent.Spent) ShelfError} (Ok spent) (spent_in end) → Finds s spent found changed taken
run_finds stands broken w w' a b s found changed taken (Ok u) spent (times, taken-is, _) e =
    let k : spent ≡ None = cc in record { spent_is = ap spent_seen k ∙ sym times.unspent; found_is = times.violations; last_is = times.last; taken_is = taken-is }
run_finds stands broken w w' a b s found changed taken (Err (RoundsSpent time net)) spent (some, times, taken-is, _) e =
    let k : spent ≡ Some (record { time = time; net = net }) = cc in
    record {
      spent_is = ap spent_seen k ∙ sym some;
      found_is = times.violations ∙ ap (λ (r : Run). r.violations) (spent_times s (origin_of s) (suc s.end) (time, Some net) some);
      last_is = times.last ∙ ap (λ (r : Run). last_change s.first.values (lasts r.snapshots)) (spent_times s (origin_of s) (suc s.end) (time, Some net) some);
      taken_is = taken-is;
    }
run_finds stands broken w w' a b s found changed taken (Err WatchFailed) spent h e = absurd (cc)
run_finds stands broken w w' a b s found changed taken (Err NoMemory) spent h e = absurd (cc)

pub finds : {W S : Type 0} (stands broken : W → S → List Call → Type 0) (w w' : W) (a b : S) (s : Setting) (found : List Violation) (changed counted : ℕ) (end : Result (Unit {0}) SimEnd) (spent : Option code_spent.Spent)
    → (taken : ℕ) × HasEnded stands broken w w' a b s found changed taken end × (counted ≡ count_shown taken) → ◌≡◌ {A = Result (Option code_spent.Spent) ShelfError} (Ok spent) (spent_in end)
    → (taken : ℕ) × Finds s spent found changed taken × (counted ≡ count_shown taken)
finds stands broken w w' a b s found changed counted end spent (taken, h, count) e = (taken, run_finds stands broken w w' a b s found changed taken end spent h e, count)

-- the same, of the evaluations as they were counted
pub counts : (s : Setting) (spent : Option code_spent.Spent) (found : List Violation) (changed counted : ℕ) → (taken : ℕ) × Finds s spent found changed taken × (counted ≡ count_shown taken)
    → counted ≡ count_shown (run_for s (suc s.end)).evaluations
counts s spent found changed counted (taken, h, count) = count ∙ ap count_shown h.taken_is

-- what didn't rise from 0 didn't fail
not_risen : (before now : ℕ) → before ≡ 0 → now ≡ before → Rises before now → ⊥
not_risen before now start same h =
    let p : next_count 0 ≤ 0 = subst (λ k. next_count k ≤ k) start (subst (λ k. next_count before ≤ k) same h.rose) in omega (arith, p)

never_fails : (before now : ℕ) (end : Result (Unit {0}) SimEnd) → before ≡ 0 → now ≡ before → CauseOfEnd before now end → WatcherFails end → ⊥
never_fails before now (Ok u) start same h fails = fails
never_fails before now (Err (RoundsSpent time net)) start same h fails = fails
never_fails before now (Err WatchFailed) start same h fails = not_risen before now start same h
never_fails before now (Err NoMemory) start same h fails = fails

-- so a shelf in memory that was new, and stayed as it was, saw no failure
pub none_failed : (old now : ShelfInMemory) (end : Result (Unit {0}) SimEnd) → old.faults ≡ record { count = 0; last = None } → now ≡ old
    → CauseOfEnd old.faults.count now.faults.count end → WatcherFails end → ⊥
none_failed old now end made same cause =
    never_fails old.faults.count now.faults.count end (ap (λ (f : FaultsTold). f.count) made) (ap (λ (s : ShelfInMemory). s.faults.count) same) cause
