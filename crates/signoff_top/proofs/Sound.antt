-- The task of a command that was read is sound.
use Rattle.std.proofs.Common.{◌≡◌, ◌∙◌, sym, subst, ℕ, List}
use Rattle.std.specs.Prelude.{Option, Some, None, Result, Ok, Err}
use Rattle.sg_io.specs.Files.{File}
use Rattle.sg_io.specs.Put.{SinkTold}
use Rattle.sg_circuit.specs.Closed.{IsClosed}
use Rattle.sg_stimulus.specs.Applied.{IsApplied}
use Rattle.sg_stimulus.specs.Seen.{stimulus_seen}
use Rattle.run_words.specs.Words.{Asked, Command, Writing, a_rest, a_writing}
use Rattle.signoff_top.specs.Phases.{CommandOutcome, Task}
use Rattle.signoff_phases.specs.Phases.{Refusal, WordsOutcome}
use Rattle.signoff_phases.specs.Status.{IsDecided}
use Rattle.signoff_phases.specs.Stops.{Gives, UnlessCut, refusal_seen}
use Rattle.signoff_top.specs.Tasks.{IsSound, task_seen}
use Rattle.signoff_top.specs.Work.{TellsEnd}
use Rattle.signoff_top.specs.declared.phases.Task as code_task
use Rattle.signoff_phases.specs.declared.status.Status.{Status}
use Rattle.signoff_phases.specs.declared.stop.Stop as code_stop
use Rattle.signoff_phases.specs.declared.stop.Stop.TheVariants as stop
use Rattle.signoff_top.specs.declared.work.Done as code_done
use Rattle.signoff_top.proofs.Agreeing.{command_agree}

-- what is so is so of whatever result
pub uncut : {X : Type 0} (P : Type 0) (r : Result X code_stop.Stop) → P → UnlessCut P r
uncut P (Ok x) h = h
uncut P (Err (stop.Refused r)) h = h
uncut P (Err stop.Failed) h = tt
uncut P (Err stop.NoMemory) h = tt

pub cut_again : (X Y : Type 0) (P : Type 0) (s : code_stop.Stop) → UnlessCut {X = X} P (Err s) → UnlessCut {X = Y} P (Err s)
cut_again X Y P (stop.Refused r) h = h
cut_again X Y P stop.Failed h = tt
cut_again X Y P stop.NoMemory h = tt

-- a command that is accepted isn't refused
pub accepted : (X : Type 0) (P : Type 0) (c : Command) (files : List File) (task : Task) (s : code_stop.Stop) → Gives (λ t. task_seen t) (CommandOutcome c files) (Err s) → CommandOutcome c files (Ok task) → UnlessCut {X = X} P (Err s)
accepted X P c files task (stop.Refused r) h k = absurd (command_agree c files (Ok task) (Err (refusal_seen r)) k h.outcome)
accepted X P c files task stop.Failed h k = tt
accepted X P c files task stop.NoMemory h k = tt

-- the task that was read is the one that is accepted
pub sound : (c : Command) (files : List File) (task : Task) (t : code_task.Task) → Gives (λ x. task_seen x) (CommandOutcome c files) (Ok t) → CommandOutcome c files (Ok task) → IsClosed t.circuit → IsApplied t.circuit (stimulus_seen t.input) → IsSound task
sound c files task t h k closed applied = subst IsSound (command_agree c files (Ok (task_seen t)) (Ok task) h.outcome k) (closed, applied)

-- words that ask for the rest of a run aren't refused
pub not_refused : {X : Type 0} (Y : Type 0) (view : X → Asked) (P : Type 0) (asked : Option Asked) (a : Asked) (s : code_stop.Stop) → asked ≡ Some a → Gives view (WordsOutcome asked) (Err s) → UnlessCut {X = Y} P (Err s)
not_refused Y view P None a s e h = let k : ◌≡◌ {A = Option Asked} None (Some a) = e in absurd (cc)
not_refused Y view P (Some b) a (stop.Refused r) e h = let k : ◌≡◌ {A = Result Asked Refusal} (Err (refusal_seen r)) (Ok b) = h.outcome in absurd (cc)
not_refused Y view P (Some b) a stop.Failed e h = tt
not_refused Y view P (Some b) a stop.NoMemory e h = tt

some-injective : (a b : Asked) → ◌≡◌ {A = Option Asked} (Some a) (Some b) → a ≡ b
some-injective a b e = cc

-- what is asked for is one thing
pub one_asked : (asked : Option Asked) (a b : Asked) → asked ≡ Some a → asked ≡ Some b → a ≡ b
one_asked asked a b e k = some-injective a b (sym e ∙ k)

pub other_asked : (P : Type 0) (asked : Option Asked) (a b : Asked) → asked ≡ Some a → asked ≡ Some b → (a ≡ b → ⊥) → P
other_asked P asked a b e k differ = absurd (differ (one_asked asked a b e k))

pub asked_rest : (c d : Command) (state other : List ℕ) → a_rest c state ≡ a_rest d other → (c ≡ d) × (state ≡ other)
asked_rest c d state other e = (cc, cc)

pub asked_writing : (v w : Writing) → a_writing v ≡ a_writing w → v ≡ w
asked_writing v w e = cc

-- where the status is decided the work wasn't cut
pub decided_sound : (P : Type 0) (named : Option (List ℕ)) (end : Result code_done.Done code_stop.Stop) (old new : SinkTold) (how : Status) → UnlessCut P end → TellsEnd named end old new how → IsDecided how → P
decided_sound P named (Ok d) old new how h t k = h
decided_sound P named (Err (stop.Refused r)) old new how h t k = h
decided_sound P named (Err stop.Failed) old new how h t k = absurd (subst IsDecided t.0 k)
decided_sound P named (Err stop.NoMemory) old new how h t k = absurd (subst IsDecided t.0 k)
