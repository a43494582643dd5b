-- What a run that is stopped leaves, and the rest of a run.
use Rattle.std.proofs.Common.{◌≡◌, ◌∙◌, refl, sym, ap, subst, inr, Contains, List, [], ◌∷◌, ◌++◌, ℕ, ◌<◌, ◌≤◌, length, Bool, true, false}
use Rattle.std.proofs.lemmas.Bool.{lt-ltb, le-ltb}
use Rattle.std.specs.Prelude.{Option, Some, None, Result, Ok, Err, nat_lt, if◌then◌else◌}
use Rattle.sg_io.specs.Files.{File, BothTell, HasAfter}
use Rattle.sim_rounds.specs.Moments.{Moment}
use Rattle.sim_save.specs.Faults.{most_bytes}
use Rattle.sim_save.specs.Lines.{save_text}
use Rattle.run_words.specs.Words.{Asked, a_rest, a_stop, Command, Stop, asked_of, names_in}
use Rattle.wave_out.specs.Files.{LeavesPrefix}
use Rattle.run_report.specs.Report.{stopped_lines}
use Rattle.signoff_top.specs.Answer.{Answer, FilesAfter, IsAnswer, answer_of, begun_dump, refusal_answer, rest_answer, rest_dump, saved_answer, saved_of, status_of_run, stop_answer, stopped_answer, stopped_of}
use Rattle.signoff_top.specs.Phases.{RestOutcome, Task}
use Rattle.signoff_top.specs.Promises.{KeepsBut, NamesFaultAt}
use Rattle.signoff_phases.specs.Stops.{Gives}
use Rattle.signoff_top.specs.Tasks.{rest_seen, task_seen}
use Rattle.signoff_top.specs.Work.{Answers, HasStopped, IsSaved, SavesFrom, WorkLeaves, stop_of_done}
use Rattle.signoff_top.specs.declared.phases.Task as code_task
use Rattle.signoff_phases.specs.declared.stop.Stop as code_stop
use Rattle.signoff_phases.specs.declared.stop.Stop.TheVariants as stop
use Rattle.signoff_top.specs.declared.stopping.Rest as code_rest
use Rattle.signoff_top.specs.declared.work.Done.TheVariants as done
use Rattle.signoff_top.specs.declared.work.StopDone as code_stopped
use Rattle.signoff_top.specs.declared.work.UnsavedDone as code_unsaved
use Rattle.signoff_top.proofs.Making.{first_made}
use Rattle.signoff_top.proofs.Worked.{GivesTask, asked_answers, ended_answer, failed_at_made, from_answer, made_fails, made_wants, none_yet, phases_stopped}

-- ---- answers

pub answers_are : (ws : List (List ℕ)) (a b : Answer) (old : Option (List File)) → a ≡ b → Answers ws a old → Answers ws b old
answers_are ws a b old e g = subst (λ x. Answers ws x old) e g

-- the stop is before the end
pub stop_before : (task : Task) (s : Stop) → s.time < task.input.end → stop_answer s (Ok task) ≡ stopped_answer (stopped_of task s).spent task s
stop_before task s l = ap (λ b. if b then stopped_answer (stopped_of task s).spent task s else answer_of (Ok task)) (lt-ltb s.time task.input.end l)

-- it isn't
pub stop_behind : (task : Task) (s : Stop) → task.input.end ≤ s.time → stop_answer s (Ok task) ≡ answer_of (Ok task)
stop_behind task s l = ap (λ b. if b then stopped_answer (stopped_of task s).spent task s else answer_of (Ok task)) (le-ltb s.time task.input.end l)

-- the run came to its stop
pub stop_reached : (task : Task) (s : Stop) → s.time < task.input.end → (stopped_of task s).spent ≡ None → stop_answer s (Ok task) ≡ stopped_answer None task s
stop_reached task s l e = stop_before task s l ∙ ap (λ o. stopped_answer o task s) e

-- or a time was spent before
pub stop_spent : (task : Task) (s : Stop) (spent : ℕ × Option ℕ) → s.time < task.input.end → (stopped_of task s).spent ≡ Some spent
    → stop_answer s (Ok task) ≡ ended_answer task (stopped_of task s) (begun_dump task s).bytes
stop_spent task s spent l e =
    stop_before task s l
    ∙ (ap (λ o. stopped_answer o task s) e
    ∙ ap (λ how. record { status = how; made = begun_dump task s ∷ []; report = (stopped_answer (Some spent) task s).report }) (sym (ap (λ o. status_of_run o (stopped_of task s).run.violations) e)))

pub is_too_large : (task : Task) (s : Stop) → most_bytes < length (saved_of task s) → stopped_answer None task s ≡ saved_answer true task s
is_too_large task s l = ap (λ b. saved_answer b task s) (lt-ltb most_bytes (length (saved_of task s)) l)

pub is_small : (task : Task) (s : Stop) → length (saved_of task s) ≤ most_bytes → stopped_answer None task s ≡ saved_answer false task s
is_small task s l = ap (λ b. saved_answer b task s) (le-ltb most_bytes (length (saved_of task s)) l)

-- the dump is made first
saved_first : (too_large : Bool) (task : Task) (s : Stop) → (more : List File) × ((saved_answer too_large task s).made ≡ begun_dump task s ∷ more)
saved_first true task s = ([], refl)
saved_first false task s = (record { name = s.save; bytes = saved_of task s } ∷ [], refl)

stopped_first : (spent : Option (ℕ × Option ℕ)) (task : Task) (s : Stop) → (more : List File) × ((stopped_answer spent task s).made ≡ begun_dump task s ∷ more)
stopped_first None task s = saved_first (nat_lt most_bytes (length (saved_of task s))) task s
stopped_first (Some spent) task s = ([], refl)

-- and what else there is
pub made_later : (task : Task) (s : Stop) → s.time < task.input.end → List File
made_later task s l = (stopped_first (stopped_of task s).spent task s).0

pub dump_first : (task : Task) (s : Stop) (l : s.time < task.input.end) → (stop_answer s (Ok task)).made ≡ begun_dump task s ∷ made_later task s l
unfolding made_later stopped_first
dump_first task s l = ap (λ a. a.made) (stop_before task s l) ∙ (stopped_first (stopped_of task s).spent task s).1

-- ---- stops

pub stop_gives : (ws : List (List ℕ)) (c : Command) (s : Stop) (task : code_task.Task) (old : Option (List File)) → asked_of ws ≡ Some (a_stop c s) → GivesTask c old (Ok task)
    → Answers ws (stop_answer s (Ok (task_seen task))) old
stop_gives ws c s task old a g = λ files is. asked_answers ws (a_stop c s) files (stop_answer s (Ok (task_seen task))) a (Ok (task_seen task), (g files is).outcome, refl)

pub dump_made : (dump : File) (old start mid : Option (List File)) → start ≡ old → BothTell start mid (HasAfter dump.name dump.bytes) → BothTell old mid (FilesAfter (dump ∷ []))
dump_made dump old start mid e h = subst (λ o. BothTell o mid (FilesAfter (dump ∷ []))) e h

-- where the dump was made, what follows from the answer
after_dump : (ws : List (List ℕ)) (answer : Answer) (dump : File) (old mid : Option (List File)) (Q : List File → List File → Type 0) → Answers ws answer old → BothTell old mid (FilesAfter (dump ∷ []))
    → ((x z : List File) → IsAnswer ws x answer → HasAfter dump.name dump.bytes x z → Q x z) → BothTell old mid Q
after_dump ws answer dump old mid Q g made f =
    from_answer ws answer old old mid (FilesAfter []) (FilesAfter (dump ∷ [])) Q g (none_yet old old refl) made (λ x y z right same after. f x z right (subst (λ fs. HasAfter dump.name dump.bytes fs z) same after))

-- the save would have been too large
pub unsaved_leaves : (ws : List (List ℕ)) (d : code_stopped.StopDone) (u : code_unsaved.UnsavedDone) (old mid : Option (List File)) → SavesFrom ws d u.save.now old mid
    → most_bytes < length (saved_of (task_seen d.task) (stop_of_done d u.save.now)) → BothTell old mid (WorkLeaves ws (Ok (done.Unsaved u)))
unsaved_leaves ws d u old mid from large =
    let task : Task = task_seen d.task in
    let s : Stop = stop_of_done d u.save.now in
    after_dump ws (stopped_answer None task s) (begun_dump task s) old mid (WorkLeaves ws (Ok (done.Unsaved u))) from.right from.made (λ x z right made. record {
      answer = saved_answer true task s;
      right = subst (λ a. IsAnswer ws x a) (is_too_large task s large) right;
      status = refl;
      report = refl;
      files = made;
    })

-- there was no memory for its text
pub save_wants : (ws : List (List ℕ)) (d : code_stopped.StopDone) (save : List ℕ) (old mid : Option (List File)) → SavesFrom ws d save old mid → BothTell old mid (WorkLeaves ws (Err stop.NoMemory))
save_wants ws d save old mid from =
    let task : Task = task_seen d.task in
    let s : Stop = stop_of_done d save in
    let first = stopped_first None task s in
    after_dump ws (stopped_answer None task s) (begun_dump task s) old mid (WorkLeaves ws (Err stop.NoMemory)) from.right from.made (λ x z right made.
    inr (stopped_answer None task s, right, subst (λ m. KeepsBut m x z) (sym first.1) (first_made (begun_dump task s) first.0 x z made)))

-- the save was made
pub saved_leaves : (ws : List (List ℕ)) (d : code_stopped.StopDone) (save text : List ℕ) (old mid new : Option (List File)) → SavesFrom ws d save old mid → IsSaved d save text
    → BothTell mid new (HasAfter save text) → BothTell old new (WorkLeaves ws (Ok (done.Stop d)))
saved_leaves ws d save text old mid new from is after =
    let task : Task = task_seen d.task in
    let s : Stop = stop_of_done d save in
    from_answer ws (stopped_answer None task s) old mid new (FilesAfter (begun_dump task s ∷ [])) (HasAfter save text) (WorkLeaves ws (Ok (done.Stop d))) from.right from.made after (λ x y z right made left. record {
      answer = saved_answer false task s;
      right = subst (λ a. IsAnswer ws x a) (is_small task s (subst (λ t. length t ≤ most_bytes) is.text is.small)) right;
      status = ap (status_of_run None) is.violations;
      report = ap (λ vs. stopped_lines task.circuit task.unmatched vs d.time) is.violations;
      files = (y, made, subst (λ t. HasAfter save t y z) is.text left);
    })

-- the text of the save
pub text_saved : (d : code_stopped.StopDone) (save : List ℕ) (m : Moment) (text lent : List ℕ) → HasStopped d save m → text ≡ save_text d.task.circuit m → length text ≤ most_bytes → lent ≡ text → IsSaved d save lent
text_saved d save m text lent h e small same = record {
  violations = h.violations;
  text = same ∙ (e ∙ ap (save_text d.task.circuit) h.moment);
  small = subst (λ t. length t ≤ most_bytes) (sym same) small;
}

pub too_large_saved : (d : code_stopped.StopDone) (save : List ℕ) (m : Moment) → HasStopped d save m → most_bytes < length (save_text d.task.circuit m) → most_bytes < length (saved_of (task_seen d.task) (stop_of_done d save))
too_large_saved d save m h l = subst (λ x. most_bytes < length (save_text d.task.circuit x)) h.moment l

-- the save is made after the dump
save_second : (d : code_stopped.StopDone) (save text : List ℕ) → IsSaved d save text
    → (stopped_answer None (task_seen d.task) (stop_of_done d save)).made ≡ (begun_dump (task_seen d.task) (stop_of_done d save) ∷ []) ++ record { name = save; bytes = text } ∷ []
save_second d save text is =
    let task : Task = task_seen d.task in
    let s : Stop = stop_of_done d save in
    ap (λ a. a.made) (is_small task s (subst (λ t. length t ≤ most_bytes) is.text is.small)) ∙ ap (λ t. begun_dump task s ∷ record { name = save; bytes = t } ∷ []) (sym is.text)

-- want of memory, and a failure, while it is made
module _ (ws : List (List ℕ)) (d : code_stopped.StopDone) (save text : List ℕ) (old mid new : Option (List File)) (from : SavesFrom ws d save old mid) (is : IsSaved d save text) (left : BothTell mid new (LeavesPrefix save text)) where
  abbrev answer : Answer
  answer = stopped_answer None (task_seen d.task) (stop_of_done d save)

  abbrev dump : List File
  dump = begun_dump (task_seen d.task) (stop_of_done d save) ∷ []

  pub saving_wants : BothTell old new (WorkLeaves ws (Err stop.NoMemory))
  saving_wants = made_wants ws answer dump (record { name = save; bytes = text }) [] old mid new from.right (save_second d save text is) from.made left

  pub saving_fails : BothTell old new (WorkLeaves ws (Err stop.Failed))
  saving_fails = made_fails ws answer dump (record { name = save; bytes = text }) [] old mid new from.right (save_second d save text is) from.made left

  pub failed_at_save : (asked : Asked) (last : Option (List ℕ)) → asked_of ws ≡ Some asked → Contains (names_in (Some asked)) save → last ≡ Some save → NamesFaultAt ws old new last
  failed_at_save asked last a among n = failed_at_made ws answer dump (record { name = save; bytes = text }) [] old mid new from.right (save_second d save text is) from.made left asked last a among n

-- ---- rests

-- what the phases of a rest gave, where the shelf tells
abbrev GivesRest : Command → (state : List ℕ) → Option (List File) → Result code_rest.Rest code_stop.Stop → Type 0
GivesRest c state old o = (files : List File) → old ≡ Some files → Gives (λ r. rest_seen r) (RestOutcome c state files) o

pub rest_stopped : (ws : List (List ℕ)) (c : Command) (state : List ℕ) (s : code_stop.Stop) (old new : Option (List File)) → asked_of ws ≡ Some (a_rest c state) → GivesRest c state old (Err s) → new ≡ old
    → BothTell old new (WorkLeaves ws (Err s))
rest_stopped ws c state s old new e g k =
    phases_stopped (λ r. rest_seen r) (RestOutcome c state) ws s old new (λ files r h. asked_answers ws (a_rest c state) files (refusal_answer r) e (Err r, h, refl)) g k

pub rest_gives : (ws : List (List ℕ)) (c : Command) (state : List ℕ) (rest : code_rest.Rest) (old : Option (List File)) → asked_of ws ≡ Some (a_rest c state) → GivesRest c state old (Ok rest)
    → Answers ws (rest_answer (Ok (rest_seen rest))) old
rest_gives ws c state rest old a g = λ files is. asked_answers ws (a_rest c state) files (rest_answer (Ok (rest_seen rest))) a (Ok (rest_seen rest), (g files is).outcome, refl)

-- the dump of a rest
abbrev pub rest_file : code_rest.Rest → File
rest_file rest = record { name = rest.task.vcd.now; bytes = rest_dump (rest_seen rest) }
