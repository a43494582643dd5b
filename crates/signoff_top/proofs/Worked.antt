-- What the phases and the run leave is what the work leaves.
use Rattle.std.proofs.Common.{◌≡◌, ◌∙◌, refl, sym, ap, subst, inl, inr, List, [], ◌∷◌, ◌++◌, ℕ, length}
use Rattle.std.proofs.lemmas.List.{length-map}
use Rattle.std.specs.Prelude.{Option, Some, None, Result, Ok, Err, IfErr, Contains}
use Rattle.sg_io.specs.Files.{File, BothTell, HasAfter}
use Rattle.sg_model.specs.Run.{Finished}
use Rattle.sim_times.specs.Times.{count_shown}
use Rattle.time_checks.specs.Seen.{violation_seen}
use Rattle.run_words.specs.Words.{Asked, a_run, a_stop, a_rest, a_writing, the_bounds, a_case, Command, Design, Writing, asked_of, command_of, names_in}
use Rattle.run_words.specs.WordsSeen.{asked_seen}
use Rattle.run_words.specs.declared.words.Asked as code_asked
use Rattle.wave_out.specs.Files.{IsBegun, LeavesPrefix}
use Rattle.run_report.specs.Report.{report_lines, report_text}
use Rattle.run_report.specs.Spent.{spent_seen}
use Rattle.run_dump.specs.RunEnds.{violations_of}
use Rattle.signoff_top.specs.Answer.{Answer, FilesAfter, IsAnswer, IsAnswerFor, IsAnswerTo, answer_of, case_answer, case_lines, case_text, dump_of, last_of, refusal_answer, run_of, status_of_run, writing_answer, written_lines}
use Rattle.signoff_phases.specs.Phases.{Refusal, WordsOutcome, DesignOutcome, stops, words}
use Rattle.signoff_top.specs.Phases.{Task, CommandOutcome, CaseOutcome, Written, WritingOutcome}
use Rattle.signoff_top.specs.Promises.{FaultAt, at_made, KeepsBut, NamesFaultAt}
use Rattle.signoff_phases.specs.Stops.{Gives, IfOutcome, SparesWords, StopWords, refusal_seen}
use Rattle.signoff_phases.specs.AnnotatedSeen.{annotated_seen}
use Rattle.signoff_top.specs.Tasks.{task_seen, written_seen}
use Rattle.signoff_top.specs.Work.{Answers, IsQuietEnd, IsSettleDone, LeavesDelays, WorkLeaves, case_told, quiet_violations}
use Rattle.signoff_phases.specs.declared.annotation.Annotated as code_annotated
use Rattle.signoff_top.specs.declared.bounds.BoundsDone as code_bounds
use Rattle.signoff_top.specs.declared.phases.Task as code_task
use Rattle.signoff_top.specs.declared.writing.Written as code_written
use Rattle.signoff_top.specs.declared.writing.WritingDone as code_writing
use Rattle.signoff_phases.specs.declared.stop.Stop as code_stop
use Rattle.signoff_phases.specs.declared.stop.Stop.TheVariants as stop
use Rattle.signoff_top.specs.declared.work.Done.TheVariants as done
use Rattle.signoff_top.specs.declared.work.CaseDone as code_case
use Rattle.signoff_top.specs.declared.work.RunDone as code_run
use Rattle.signoff_top.proofs.Making.{begun_after}
use Rattle.signoff_phases.proofs.Putting.{both_same}

-- an answer for what the words ask
pub asked_answers : (ws : List (List ℕ)) (asked : Asked) (files : List File) (a : Answer) → asked_of ws ≡ Some asked → IsAnswerTo (Some asked) files a → IsAnswer ws files a
asked_answers ws asked files a e h = subst (λ q. IsAnswerTo q files a) (sym e) h

-- what follows from a right answer and what the shelf told before, then and now
pub from_answer : (ws : List (List ℕ)) (answer : Answer) (old mid new : Option (List File)) (B P Q : List File → List File → Type 0)
    → Answers ws answer old → BothTell old mid B → BothTell mid new P → ((x y z : List File) → IsAnswer ws x answer → B x y → P y z → Q x z) → BothTell old new Q
from_answer ws answer (Some x) (Some y) (Some z) B P Q g b p f = f x y z (g x refl) b p
from_answer ws answer (Some x) (Some y) None B P Q g b p f = absurd p
from_answer ws answer (Some x) None new B P Q g b p f = absurd b
from_answer ws answer None None None B P Q g b p f = tt
from_answer ws answer None None (Some z) B P Q g b p f = absurd p
from_answer ws answer None (Some y) new B P Q g b p f = absurd b

-- no file was made yet
pub none_yet : (old mid : Option (List File)) → mid ≡ old → BothTell old mid (FilesAfter [])
none_yet old mid e = both_same (FilesAfter []) old mid e (λ files _. refl)

-- Want of memory, and a failure, while a file is made that the answer makes, after those before it.
module _ (ws : List (List ℕ)) (answer : Answer) (before : List File) (made : File) (after : List File) (old mid new : Option (List File))
    (g : Answers ws answer old) (is : answer.made ≡ before ++ made ∷ after) (were : BothTell old mid (FilesAfter before)) (left : BothTell mid new (LeavesPrefix made.name made.bytes)) where
  pub made_wants : BothTell old new (WorkLeaves ws (Err stop.NoMemory))
  made_wants =
      from_answer ws answer old mid new (FilesAfter before) (LeavesPrefix made.name made.bytes) (WorkLeaves ws (Err stop.NoMemory)) g were left
      (λ x y z right h k. inr (answer, right, subst (λ m. KeepsBut m x z) (sym is) (begun_after before made after x y z h k)))

  pub made_fails : BothTell old new (WorkLeaves ws (Err stop.Failed))
  made_fails = from_answer ws answer old mid new (FilesAfter before) (LeavesPrefix made.name made.bytes) (WorkLeaves ws (Err stop.Failed)) g were left (λ x y z right h k. tt)

  pub failed_at_made : (asked : Asked) (last : Option (List ℕ)) → asked_of ws ≡ Some asked → Contains (names_in (Some asked)) made.name → last ≡ Some made.name → NamesFaultAt ws old new last
  failed_at_made asked last a among n = record {
    name = made.name;
    told = n;
    among = subst (λ o. Contains (names_in o) made.name) (sym a) among;
    place = from_answer ws answer old mid new (FilesAfter before) (LeavesPrefix made.name made.bytes) (λ x z. FaultAt ws x z made.name) g were left
        (λ x y z right h k. at_made answer before made after y right is h k);
  }

-- the phases of what is asked stopped, and no file was touched
stopped : {X A : Type 0} (view : X → A) (phase : Result A Refusal → Type 0) (ws : List (List ℕ)) (s : code_stop.Stop) (files : List File) → ((r : Refusal) → phase (Err r) → IsAnswer ws files (refusal_answer r))
    → IfOutcome view phase (Err s) → WorkLeaves ws (Err s) files files
stopped view phase ws (stop.Refused r) files right h = (right (refusal_seen r) h, refl)
stopped view phase ws stop.Failed files right h = tt
stopped view phase ws stop.NoMemory files right h = inl refl

pub phases_stopped : {X A : Type 0} (view : X → A) (phase : List File → Result A Refusal → Type 0) (ws : List (List ℕ)) (s : code_stop.Stop) (old new : Option (List File))
    → ((files : List File) (r : Refusal) → phase files (Err r) → IsAnswer ws files (refusal_answer r)) → ((files : List File) → old ≡ Some files → Gives view (phase files) (Err s)) → new ≡ old
    → BothTell old new (WorkLeaves ws (Err s))
phases_stopped view phase ws s old new right g k = both_same (WorkLeaves ws (Err s)) old new k (λ files is. stopped view (phase files) ws s files (right files) (g files is).outcome)

-- ---- runs

-- what the phases of a run gave, where the shelf tells
abbrev pub GivesTask : Command → Option (List File) → Result code_task.Task code_stop.Stop → Type 0
GivesTask c old o = (files : List File) → old ≡ Some files → Gives (λ t. task_seen t) (CommandOutcome c files) o

-- a refusal of the phases of a run is the answer to it, to its stop, and to its rest
refused_for : (asked : Asked) (c : Command) (files : List File) (r : Refusal) → command_of asked ≡ Some c → CommandOutcome c files (Err r) → IsAnswerFor asked files (refusal_answer r)
refused_for (a_run own) c files r e h = let same : own ≡ c = cc in (Err r, subst (λ x. CommandOutcome x files (Err r)) (sym same) h, refl)
refused_for (a_stop own s) c files r e h = let same : own ≡ c = cc in (Err r, subst (λ x. CommandOutcome x files (Err r)) (sym same) h, refl)
refused_for (a_rest own state) c files r e h = let same : own ≡ c = cc in (Err r, stops r (subst (λ x. CommandOutcome x files (Err r)) (sym same) h), refl)
refused_for (a_writing w) c files r e h = cc
refused_for (the_bounds d) c files r e h = cc
refused_for (a_case stages) c files r e h = cc

pub command_stopped : (ws : List (List ℕ)) (asked : Asked) (c : Command) (s : code_stop.Stop) (old new : Option (List File)) → asked_of ws ≡ Some asked → command_of asked ≡ Some c → GivesTask c old (Err s) → new ≡ old
    → BothTell old new (WorkLeaves ws (Err s))
command_stopped ws asked c s old new e is g k =
    phases_stopped (λ t. task_seen t) (CommandOutcome c) ws s old new (λ files r h. asked_answers ws asked files (refusal_answer r) e (refused_for asked c files r is h)) g k

pub run_gives : (ws : List (List ℕ)) (c : Command) (task : code_task.Task) (old : Option (List File)) → asked_of ws ≡ Some (a_run c) → GivesTask c old (Ok task) → Answers ws (answer_of (Ok (task_seen task))) old
run_gives ws c task old a g = λ files is. asked_answers ws (a_run c) files (answer_of (Ok (task_seen task))) a (Ok (task_seen task), (g files is).outcome, refl)

-- the dump of a task
abbrev pub dump_file : code_task.Task → File
dump_file task = record { name = task.vcd.now; bytes = dump_of (task_seen task) }

-- the answer of a run, or of a part of one, whose dump is this text
abbrev pub ended_answer : Task → Finished → List ℕ → Answer
ended_answer task f dump = record {
  status = status_of_run f.spent f.run.violations;
  made = record { name = task.vcd; bytes = dump } ∷ [];
  report = report_text task.circuit task.unmatched task.input.end f;
}

-- it came to its end
pub run_leaves : (ws : List (List ℕ)) (d : code_run.RunDone) (f : Finished) (dump : List ℕ) (old mid new : Option (List File)) → Answers ws (ended_answer (task_seen d.task) f dump) old → mid ≡ old
    → BothTell mid new (HasAfter d.task.vcd.now dump) → spent_seen d.end.spent ≡ f.spent → violations_of d.end ≡ f.run.violations → BothTell old new (WorkLeaves ws (Ok (done.Run d)))
run_leaves ws d f dump old mid new g e h spent violations =
    let task : Task = task_seen d.task in
    from_answer ws (ended_answer task f dump) old mid new (FilesAfter []) (HasAfter d.task.vcd.now dump) (WorkLeaves ws (Ok (done.Run d))) g (none_yet old mid e) h (λ x y z right same after. record {
      answer = ended_answer task f dump;
      right = right;
      status = ap (λ s. status_of_run s (violations_of d.end)) spent ∙ ap (status_of_run f.spent) violations;
      report = ap (report_lines task.circuit task.unmatched (violations_of d.end) task.input.end) spent ∙ ap (λ vs. report_lines task.circuit task.unmatched vs task.input.end f.spent) violations;
      files = subst (λ fs. HasAfter d.task.vcd.now dump fs z) same after;
    })

-- ---- writings

-- what the phases of a writing gave, where the shelf tells
abbrev GivesWritten : Writing → Option (List File) → Result code_written.Written code_stop.Stop → Type 0
GivesWritten w old o = (files : List File) → old ≡ Some files → Gives (λ x. written_seen x) (WritingOutcome w files) o

writing_answers : (ws : List (List ℕ)) (w : Writing) (files : List File) (p : Result Written Refusal) → asked_of ws ≡ Some (a_writing w) → WritingOutcome w files p → IsAnswer ws files (writing_answer w.out p)
writing_answers ws w files p e h = asked_answers ws (a_writing w) files (writing_answer w.out p) e (p, h, refl)

pub writing_stopped : (ws : List (List ℕ)) (w : Writing) (s : code_stop.Stop) (old new : Option (List File)) → asked_of ws ≡ Some (a_writing w) → GivesWritten w old (Err s) → new ≡ old → BothTell old new (WorkLeaves ws (Err s))
writing_stopped ws w s old new e g k = phases_stopped (λ x. written_seen x) (WritingOutcome w) ws s old new (λ files r h. writing_answers ws w files (Err r) e h) g k

pub writing_gives : (ws : List (List ℕ)) (w : Writing) (x : code_written.Written) (old : Option (List File)) → asked_of ws ≡ Some (a_writing w) → GivesWritten w old (Ok x) → Answers ws (writing_answer w.out (Ok (written_seen x))) old
writing_gives ws w x old a g = λ files is. writing_answers ws w files (Ok (written_seen x)) a (g files is).outcome

-- the file that is written
abbrev pub written_file : (out : List ℕ) → code_written.Written → File
written_file out x = record { name = out; bytes = x.text.items }

-- it was written
pub writing_leaves : (ws : List (List ℕ)) (w : Writing) (x : code_written.Written) (d : code_writing.WritingDone) (old mid new : Option (List File)) → Answers ws (writing_answer w.out (Ok (written_seen x))) old → mid ≡ old
    → BothTell mid new (HasAfter w.out x.text.items) → d.report.items ≡ written_lines (written_seen x).unmatched → BothTell old new (WorkLeaves ws (Ok (done.Writing d)))
writing_leaves ws w x d old mid new g e h told =
    from_answer ws (writing_answer w.out (Ok (written_seen x))) old mid new (FilesAfter []) (HasAfter w.out x.text.items) (WorkLeaves ws (Ok (done.Writing d))) g (none_yet old mid e) h (λ y z u right same after. record {
      answer = writing_answer w.out (Ok (written_seen x));
      right = right;
      status = refl;
      report = told;
      files = subst (λ fs. HasAfter w.out x.text.items fs u) same after;
    })

-- its phases stopped
pub delays_stopped : (out : List ℕ) (s : code_stop.Stop) (old new : Option (List File)) → new ≡ old → LeavesDelays out (Err s) old new
delays_stopped out (stop.Refused r) old new e = tt
delays_stopped out stop.Failed old new e = tt
delays_stopped out stop.NoMemory old new e = both_same (IsBegun out) old new e (λ files _. inl refl)

-- or there was no memory while its file was made
pub delays_begun : (out : List ℕ) (old mid new : Option (List File)) → mid ≡ old → BothTell mid new (IsBegun out) → LeavesDelays out (Err stop.NoMemory) old new
delays_begun out old mid new e h = subst (λ files. BothTell files new (IsBegun out)) e h

-- ---- bounds

-- what the phases of a design gave, where the shelf tells
abbrev GivesDesign : Design → Option (List File) → Result code_annotated.Annotated code_stop.Stop → Type 0
GivesDesign d old o = (files : List File) → old ≡ Some files → Gives (λ a. annotated_seen a) (DesignOutcome d files) o

pub bounds_stopped : (ws : List (List ℕ)) (d : Design) (s : code_stop.Stop) (old new : Option (List File)) → asked_of ws ≡ Some (the_bounds d) → GivesDesign d old (Err s) → new ≡ old → BothTell old new (WorkLeaves ws (Err s))
bounds_stopped ws d s old new e g k =
    phases_stopped (λ a. annotated_seen a) (DesignOutcome d) ws s old new (λ files r h. asked_answers ws (the_bounds d) files (refusal_answer r) e (Err r, h, refl)) g k

pub bounds_leave : (ws : List (List ℕ)) (d : Design) (a : code_annotated.Annotated) (found : code_bounds.BoundsDone) (old new : Option (List File)) → asked_of ws ≡ Some (the_bounds d) → GivesDesign d old (Ok a) → new ≡ old
    → IsSettleDone a.circuit found → BothTell old new (WorkLeaves ws (Ok (done.Bounds found)))
bounds_leave ws d a found old new e g k is = both_same (WorkLeaves ws (Ok (done.Bounds found))) old new k (λ files held. record {
  answer = is.answer;
  right = asked_answers ws (the_bounds d) files is.answer e (Ok (annotated_seen a), (g files held).outcome, is.right);
  status = is.status;
  report = is.report;
  files = subst (λ m. FilesAfter m files files) (sym is.made) refl;
})

-- want of memory before any file was touched
want_same : (ws : List (List ℕ)) (files : List File) → WorkLeaves ws (Err stop.NoMemory) files files
want_same ws files = inl refl

pub want_untouched : (ws : List (List ℕ)) (old new : Option (List File)) → new ≡ old → BothTell old new (WorkLeaves ws (Err stop.NoMemory))
want_untouched ws old new k = both_same (WorkLeaves ws (Err stop.NoMemory)) old new k (λ files _. want_same ws files)

-- ---- generated cases

-- the phases of a generated case stopped
pub case_stopped : (ws : List (List ℕ)) (stages : ℕ) (s : code_stop.Stop) (files : List File) → asked_of ws ≡ Some (a_case stages) → Gives {X = code_task.Task} (λ t. task_seen t) (CaseOutcome stages) (Err s)
    → WorkLeaves ws (Err s) files files
case_stopped ws stages s files e g = stopped {X = code_task.Task} (λ t. task_seen t) (CaseOutcome stages) ws s files (λ r h. asked_answers ws (a_case stages) files (refusal_answer r) e (Err r, h, refl)) g.outcome

pub case_wants : (ws : List (List ℕ)) (files : List File) → WorkLeaves ws (Err stop.NoMemory) files files
case_wants ws files = want_same ws files

-- what was told is what the run of the case came to
case_told_is : (task : Task) (d : code_case.CaseDone) → task ≡ task_seen d.task → IsQuietEnd task d.end → case_told d ≡ case_lines d.stages task
case_told_is task d e q =
    let count : length d.end.violations.items ≡ length (run_of task).run.violations = sym (length-map d.end.violations.items (λ v. violation_seen v)) ∙ ap length q.violations in
    ap (λ n. case_text d.task.circuit d.stages n d.end.last (length d.end.violations.items) (spent_seen d.end.spent)) q.evaluations
    ∙ (ap (λ n. case_text d.task.circuit d.stages (count_shown (run_of task).evaluations) n (length d.end.violations.items) (spent_seen d.end.spent)) q.last
    ∙ (ap (λ n. case_text d.task.circuit d.stages (count_shown (run_of task).evaluations) (last_of task) n (spent_seen d.end.spent)) count
    ∙ (ap (case_text d.task.circuit d.stages (count_shown (run_of task).evaluations) (last_of task) (length (run_of task).run.violations)) q.spent
    ∙ ap (λ (t : Task). case_text t.circuit d.stages (count_shown (run_of task).evaluations) (last_of task) (length (run_of task).run.violations) (run_of task).spent) (sym e))))

pub case_leaves : (ws : List (List ℕ)) (d : code_case.CaseDone) (files : List File) → asked_of ws ≡ Some (a_case d.stages) → CaseOutcome d.stages (Ok (task_seen d.task)) → IsQuietEnd (task_seen d.task) d.end
    → WorkLeaves ws (Ok (done.Case d)) files files
case_leaves ws d files e outcome q =
    let task : Task = task_seen d.task in
    record {
      answer = case_answer d.stages (Ok task);
      right = asked_answers ws (a_case d.stages) files (case_answer d.stages (Ok task)) e (Ok task, outcome, refl);
      status = ap (λ s. status_of_run s (quiet_violations d.end)) q.spent ∙ ap (status_of_run (run_of task).spent) q.violations;
      report = case_told_is task d refl q;
      files = refl;
    }

-- ---- words

-- refused words ask for nothing
refused_words : (o : Option Asked) (r : Refusal) (files : List File) → WordsOutcome o (Err r) → IsAnswerTo o files (refusal_answer r)
refused_words None r files h = let e : ◌≡◌ {A = Result Asked Refusal} (Err r) (Err words) = h in let same : r ≡ words = cc in ap refusal_answer same
refused_words (Some a) r files h = let e : ◌≡◌ {A = Result Asked Refusal} (Err r) (Ok a) = h in absurd (cc)

pub words_stopped : (ws : List (List ℕ)) (s : code_stop.Stop) (old new : Option (List File)) → Gives {X = code_asked.Asked} (λ x. asked_seen x) (WordsOutcome (asked_of ws)) (Err s) → new ≡ old
    → BothTell old new (WorkLeaves ws (Err s))
words_stopped ws s old new g k =
    phases_stopped {X = code_asked.Asked} (λ x. asked_seen x) (λ _. WordsOutcome (asked_of ws)) ws s old new (λ files r h. refused_words (asked_of ws) r files h) (λ _ _. g) k

-- what was read is what was asked for
words_asked : (o : Option Asked) (x : code_asked.Asked) → StopWords o (λ a y. a ≡ asked_seen y) (Ok x) → o ≡ Some (asked_seen x)
words_asked None x h = absurd h
words_asked (Some a) x h = ap Some h

pub asked_is : (ws : List (List ℕ)) (x y : code_asked.Asked) → StopWords (asked_of ws) (λ a z. a ≡ asked_seen z) (Ok x) → x ≡ y → asked_of ws ≡ Some (asked_seen y)
asked_is ws x y h e = subst (λ z. asked_of ws ≡ Some (asked_seen z)) e (words_asked (asked_of ws) x h)

-- where something was asked for, a later stop isn't that of the words
spared : (X : Type 0) (o : Option Asked) (a : Asked) (r : Result X code_stop.Stop) → o ≡ Some a → IfErr r (λ s. SparesWords s) → StopWords {X = X} o (λ _ _. Unit {0}) r
spared X None a r e h = let k : ◌≡◌ {A = Option Asked} None (Some a) = e in absurd (cc)
spared X (Some other) a (Ok x) e h = tt
spared X (Some other) a (Err s) e h = h

pub words_spared : (X : Type 0) (ws : List (List ℕ)) (x : code_asked.Asked) (r : Result X code_stop.Stop) → StopWords (asked_of ws) (λ a z. a ≡ asked_seen z) (Ok x) → IfErr r (λ s. SparesWords s)
    → StopWords {X = X} (asked_of ws) (λ _ _. Unit {0}) r
words_spared X ws x r h k = spared X (asked_of ws) (asked_seen x) r (words_asked (asked_of ws) x h) k
