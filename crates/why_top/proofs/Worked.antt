-- What the work comes to, by the words and the task.
use Rattle.std.proofs.Common.{◌≡◌, refl, sym, ap, subst, ℕ, List}
use Rattle.std.specs.Prelude.{Option, Some, None, Ok, Err}
use Rattle.sg_io.specs.Files.{File}
use Rattle.signoff_phases.specs.Phases.{Refusal, WordsOutcome, words}
use Rattle.signoff_phases.specs.Stops.{IfOutcome, StopWords, refusal_seen}
use Rattle.signoff_phases.specs.declared.stop.Stop as code_stop
use Rattle.signoff_phases.specs.declared.stop.Stop.TheVariants as stop
use Rattle.why_words.specs.Words.{Asked, names_in, names_of}
use Rattle.why_words.specs.WordsSeen.{asked_seen}
use Rattle.why_words.specs.declared.words.Asked as code_asked
use Rattle.why_top.specs.Answer.{IsAnswerIn, IsAnswerTo, TaskOutcome, refusal_answer}
use Rattle.why_top.specs.Runs.{Task}
use Rattle.why_top.specs.Seen.{FailsAmong, Gives, answer_seen, task_seen}
use Rattle.why_top.specs.declared.answers.Answer as code_answer
use Rattle.why_top.specs.declared.runs.Task as code_task

-- the words that were read
pub asked_is : (o : Option Asked) (x : code_asked.Asked) → StopWords o (λ asked y. asked ≡ asked_seen y) (Ok x) → o ≡ Some (asked_seen x)
asked_is None x h = absurd h
asked_is (Some asked) x h = ap Some h

-- words that are refused
refused_by : (o : Option Asked) (files : List File) (r : Refusal) → WordsOutcome o (Err r) → IsAnswerTo o files (refusal_answer r)
refused_by None files r h = let same : r ≡ words = cc in ap refusal_answer same
refused_by (Some asked) files r h = cc

pub words_stop : (o : Option Asked) (files : List File) (s : code_stop.Stop) → IfOutcome {X = code_asked.Asked} (λ x. asked_seen x) (WordsOutcome o) (Err s) → Gives o files (Err s)
words_stop o files (stop.Refused r) h = refused_by o files (refusal_seen r) h
words_stop o files stop.Failed h = tt
words_stop o files stop.NoMemory h = tt

-- a file that is refused
pub task_stop : (o : Option Asked) (asked : Asked) (files : List File) (s : code_stop.Stop) → o ≡ Some asked → IfOutcome {X = code_task.Task} (λ t. task_seen t) (TaskOutcome asked files) (Err s) → Gives o files (Err s)
task_stop o asked files (stop.Refused r) e h = subst (λ p. IsAnswerTo p files (refusal_answer (refusal_seen r))) (sym e) (record { outcome = Err (refusal_seen r); read = h; right = refl })
task_stop o asked files stop.Failed e h = tt
task_stop o asked files stop.NoMemory e h = tt

-- an answer
pub answered : (o : Option Asked) (asked : Asked) (files : List File) (task : Task) (a : code_answer.Answer) → o ≡ Some asked → TaskOutcome asked files (Ok task) → IsAnswerIn task asked.rounds asked.question (answer_seen a) → Gives o files (Ok a)
answered o asked files task a e h k = subst (λ p. IsAnswerTo p files (answer_seen a)) (sym e) (record { outcome = Ok task; read = h; right = k })

-- the names of what is asked
pub named_in : (o : Option Asked) (asked : Asked) (last : Option (List ℕ)) → o ≡ Some asked → FailsAmong (names_of asked) last → FailsAmong (names_in o) last
named_in o asked last e f = subst (λ p. FailsAmong (names_in p) last) (sym e) f
