-- The files that a right answer makes have the names of the words.
use Rattle.std.proofs.Common.{◌≡◌, ◌∙◌, true, false, sym, ap, refl, subst, ℕ, List, [], ◌∷◌, length}
use Rattle.std.specs.Prelude.{Bool, Option, Some, None, Result, Ok, Err, nat_lt, if◌then◌else◌}
use Rattle.sg_io.specs.Files.{File, bytes_of}
use Rattle.sim_save.specs.Faults.{most_bytes}
use Rattle.run_words.specs.Words.{Command, Asked, a_run, a_stop, a_rest, a_writing, the_bounds, a_case, made_in, made_of, Stop, Writing}
use Rattle.signoff_top.specs.Answer.{Answer, IsAnswerFor, IsAnswerTo, answer_of, rest_answer, saved_answer, saved_of, stop_answer, stopped_answer, stopped_of, writing_answer}
use Rattle.signoff_phases.specs.Phases.{Refusal, DesignOutcome, FileWithin, InputOutcome}
use Rattle.signoff_top.specs.Phases.{Rest, Task, CommandOutcome, RestOutcome, SaveOutcome, save_limit, Written}
use Rattle.signoff_top.proofs.OneAnswer.{nothing_made, nothing_settled}
use Rattle.signoff_top.proofs.Making.{AreMadeAs, none_made}
use Rattle.signoff_phases.proofs.Outcomes.{OfValue, then_value}

-- the name of the dump that a task makes, or the rest of one, is that of the words
abbrev Names : Command → Task → Type 0
Names c task = task.vcd ≡ c.vcd

abbrev RestNames : Command → Rest → Type 0
RestNames c rest = rest.task.vcd ≡ c.vcd

command_names : (c : Command) (files : List File) (p : Result Task Refusal) → CommandOutcome c files p → OfValue (Names c) p
command_names c files =
    then_value (Names c) (DesignOutcome c.design files) _ (λ annotated _.
    then_value (Names c) (InputOutcome c.input files annotated.circuit) _ (λ input _ p e. subst (OfValue (Names c)) (sym e) refl))

rest_names : (c : Command) (state : List ℕ) (files : List File) (p : Result Rest Refusal) → RestOutcome c state files p → OfValue (RestNames c) p
rest_names c state files =
    then_value (RestNames c) (CommandOutcome c files) _ (λ task run.
    then_value (RestNames c) (FileWithin save_limit state (bytes_of state files)) _ (λ text _.
    then_value (RestNames c) (SaveOutcome state text task.circuit task.input.end) _ (λ moment _ p e. subst (OfValue (RestNames c)) (sym e) (command_names c files (Ok task) run))))

run_made : (c : Command) (p : Result Task Refusal) → OfValue (Names c) p → AreMadeAs (c.vcd ∷ []) (answer_of p).made
run_made c (Ok task) n = (n, tt)
run_made c (Err r) n = tt

saved_made : (c : Command) (task : Task) (s : Stop) (too_large : Bool) → task.vcd ≡ c.vcd → AreMadeAs (c.vcd ∷ s.save ∷ []) (saved_answer too_large task s).made
saved_made c task s true n = (n, tt)
saved_made c task s false n = (n, (refl, tt))

stopped_made : (c : Command) (task : Task) (s : Stop) (spent : Option (ℕ × Option ℕ)) → task.vcd ≡ c.vcd → AreMadeAs (c.vcd ∷ s.save ∷ []) (stopped_answer spent task s).made
stopped_made c task s None n = saved_made c task s (nat_lt most_bytes (length (saved_of task s))) n
stopped_made c task s (Some spent) n = (n, tt)

stop_made : (c : Command) (s : Stop) (p : Result Task Refusal) → OfValue (Names c) p → AreMadeAs (c.vcd ∷ s.save ∷ []) (stop_answer s p).made
stop_made c s (Err r) n = tt
stop_made c s (Ok task) n = by (nat_lt s.time task.input.end)
  where
    by : (b : Bool) → AreMadeAs (c.vcd ∷ s.save ∷ []) (if b then stopped_answer (stopped_of task s).spent task s else answer_of (Ok task)).made
    by true = stopped_made c task s (stopped_of task s).spent n
    by false = (n, tt)

rest_made : (c : Command) (p : Result Rest Refusal) → OfValue (RestNames c) p → AreMadeAs (c.vcd ∷ []) (rest_answer p).made
rest_made c (Ok rest) n = (n, tt)
rest_made c (Err r) n = tt

writing_made : (w : Writing) (p : Result Written Refusal) → AreMadeAs (w.out ∷ []) (writing_answer w.out p).made
writing_made w (Ok x) = (refl, tt)
writing_made w (Err r) = tt

made_for : (asked : Asked) (files : List File) (a : Answer) → IsAnswerFor asked files a → AreMadeAs (made_of asked) a.made
made_for (a_run c) files a (p, h, is) = subst (AreMadeAs (c.vcd ∷ [])) (sym (ap (λ x. x.made) is)) (run_made c p (command_names c files p h))
made_for (a_stop c s) files a (p, h, is) = subst (AreMadeAs (c.vcd ∷ s.save ∷ [])) (sym (ap (λ x. x.made) is)) (stop_made c s p (command_names c files p h))
made_for (a_rest c state) files a (p, h, is) = subst (AreMadeAs (c.vcd ∷ [])) (sym (ap (λ x. x.made) is)) (rest_made c p (rest_names c state files p h))
made_for (a_writing w) files a (p, h, is) = subst (AreMadeAs (w.out ∷ [])) (sym (ap (λ x. x.made) is)) (writing_made w p)
made_for (the_bounds d) files a (p, h, is) = none_made [] a.made (nothing_settled p a is)
made_for (a_case stages) files a (p, h, is) = none_made [] a.made (ap (λ x. x.made) is ∙ nothing_made stages p)

pub made_to : (o : Option Asked) (files : List File) (a : Answer) → IsAnswerTo o files a → AreMadeAs (made_in o) a.made
made_to None files a is = none_made [] a.made (ap (λ x. x.made) is)
made_to (Some asked) files a h = made_for asked files a h
