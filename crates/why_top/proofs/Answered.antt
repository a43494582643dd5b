-- What is told of a run, by the run as the code has it.
use Rattle.std.proofs.Common.{◌≡◌, ◌∙◌, ◌<◌, ◌≤◌, ◌^◌, refl, sym, ap, subst, ℕ, List, ◌++◌, length, map}
use Rattle.std.specs.Prelude.{All, IfOk, Option, Some, None, Result, Ok, Err, codes, slice_get, slice_index_or}
use Rattle.std.proofs.lemmas.Option.{slice_get-get_or, slice_get-map}
use Rattle.std.specs.List.{AllPairs}
use Rattle.std.specs.Option.{option_map}
use Rattle.sg_circuit.specs.Circuit.{Circuit}
use Rattle.sim_rounds.specs.Simulated.{first_state}
use Rattle.wave_out.specs.Texts.{line}
use Rattle.why_history.specs.Bounds.{IsBounded}
use Rattle.why_history.specs.Ends.{found_in}
use Rattle.why_history.specs.Events.{AreEvents}
use Rattle.why_history.specs.declared.watched.Spent as code_spent
use Rattle.why_text.specs.Finding.{violation_called}
use Rattle.time_checks.specs.Seen.{violation_seen}
use Rattle.time_checks.specs.declared.violations.Violation as code_violation
use Rattle.signoff_phases.specs.declared.status.Status.TheVariants as status
use Rattle.why_causes.specs.Waveform.{Waveform}
use Rattle.why_text.specs.Parting.{IsToldViolation}
use Rattle.why_text.specs.Told.{IsTold}
use Rattle.why_top.specs.Answer.{IsChainAnswer, IsNetAnswer, IsPartsAnswer, IsViolationAnswer, TellsChain, TellsViolation, no_net_line, spent_answer, spent_by, told, unfound_answer}
use Rattle.why_top.specs.Runs.{Task, run_of}
use Rattle.why_top.specs.Seen.{IsRunOf, answer_seen, run_seen, task_seen, waveform_of}
use Rattle.why_top.specs.declared.answers.Answer as code
use Rattle.why_history.specs.declared.watched.Watched as code_run
use Rattle.why_top.specs.declared.runs.Task as code_task

pub chain_told : (c : Circuit) (run : code_run.Watched) (w : Waveform) (vs : List code_violation.Violation) (net time : ℕ) (events text : List ℕ) → w ≡ waveform_of run → vs ≡ run.violations.items
    → IsTold c w (map (λ v. violation_seen v) vs) net time events text → TellsChain c (run_seen run) net time (told status.Clean text)
chain_told c run w vs net time events text e f h = record {
  events = events;
  text = text;
  chain = subst (λ x. IsTold c x (map (λ v. violation_seen v) run.violations.items) net time events text) e (subst (λ l. IsTold c w (map (λ v. violation_seen v) l) net time events text) f h);
  is = refl;
}

-- the violation of a place
at_place : (vs items : List code_violation.Violation) (place : ℕ) (d : code_violation.Violation) → vs ≡ items → place < length items
    → slice_get (map (λ x. violation_seen x) items) place ≡ Some (violation_seen (slice_index_or vs place d))
at_place vs items place d e l =
    slice_get-map (λ x. violation_seen x) items place ∙ ap (option_map (λ x. violation_seen x)) (slice_get-get_or items place d l) ∙ ap (λ (xs : List code_violation.Violation). Some (violation_seen (slice_index_or xs place d))) (sym e)

pub violation_told : (c : Circuit) (run : code_run.Watched) (w : Waveform) (vs : List code_violation.Violation) (place : ℕ) (d : code_violation.Violation) (text : List ℕ) → w ≡ waveform_of run → vs ≡ run.violations.items
    → place < length run.violations.items → IsToldViolation c w (map (λ x. violation_seen x) vs) (violation_seen (slice_index_or vs place d)) text → TellsViolation c (run_seen run) place (told status.Clean text)
violation_told c run w vs place d text e f l h =
    let v = violation_seen (slice_index_or vs place d) in
    record {
      violation = v;
      at = at_place vs run.violations.items place d f l;
      text = text;
      parts = subst (λ x. IsToldViolation c x (map (λ y. violation_seen y) run.violations.items) v text) e (subst (λ (xs : List code_violation.Violation). IsToldViolation c w (map (λ y. violation_seen y) xs) v text) f h);
      is = refl;
    }

-- what is so of an answer, if there was memory for it
module _ {E : Type 0} where
  map_ok : (P Q : code.Answer → Type 0) (r : Result code.Answer E) → ((a : code.Answer) → P a → Q a) → IfOk r (λ a. P a) → IfOk r (λ a. Q a)
  map_ok P Q (Ok a) f h = f a h
  map_ok P Q (Err e) f h = h

  -- a time that was spent, or none
  pub spent_case : (c : Circuit) (run : code_run.Watched) (net time : ℕ) (o : Option (ℕ × Option ℕ)) (found : Option code_spent.Spent) (s : code_spent.Spent) (r : Result code.Answer E) → found_in found ≡ o → found ≡ Some s
      → IfOk r (λ a. answer_seen a ≡ spent_answer c (s.time, Some s.net)) → IfOk r (λ a. IsChainAnswer c (run_seen run) net time o (answer_seen a))
  spent_case c run net time o found s r e is h =
      let same : Some (s.time, Some s.net) ≡ o = sym (ap found_in is) ∙ e in
      map_ok (λ a. answer_seen a ≡ spent_answer c (s.time, Some s.net)) (λ a. IsChainAnswer c (run_seen run) net time o (answer_seen a)) r
      (λ a k. subst (λ p. IsChainAnswer c (run_seen run) net time p (answer_seen a)) same k) h

  pub unspent_case : (c : Circuit) (run : code_run.Watched) (net time : ℕ) (o : Option (ℕ × Option ℕ)) (found : Option code_spent.Spent) (r : Result code.Answer E) → found_in found ≡ o → found ≡ None
      → IfOk r (λ a. TellsChain c (run_seen run) net time (answer_seen a)) → IfOk r (λ a. IsChainAnswer c (run_seen run) net time o (answer_seen a))
  unspent_case c run net time o found r e is h =
      let same : None ≡ o = sym (ap found_in is) ∙ e in
      map_ok (λ a. TellsChain c (run_seen run) net time (answer_seen a)) (λ a. IsChainAnswer c (run_seen run) net time o (answer_seen a)) r
      (λ a k. subst (λ p. IsChainAnswer c (run_seen run) net time p (answer_seen a)) same k) h

  -- the net of a name
  pub no_net : (task : Task) (rounds : ℕ) (name : List ℕ) (time : ℕ) (o found : Option ℕ) (r : Result code.Answer E) → found ≡ o → found ≡ None
      → IfOk r (λ a. answer_seen a ≡ told status.Usage (line (codes "no net " ++ name))) → IfOk r (λ a. IsNetAnswer task rounds name time o (answer_seen a))
  no_net task rounds name time o found r e is h =
      map_ok (λ a. answer_seen a ≡ told status.Usage (no_net_line name)) (λ a. IsNetAnswer task rounds name time o (answer_seen a)) r
      (λ a k. subst (λ p. IsNetAnswer task rounds name time p (answer_seen a)) (sym is ∙ e) k) h

  pub some_net : (task : Task) (rounds : ℕ) (name : List ℕ) (time : ℕ) (o found : Option ℕ) (net : ℕ) (run : code_run.Watched) (r : Result code.Answer E) → found ≡ o → found ≡ Some net → IsRunOf task rounds run
      → IfOk r (λ a. IsChainAnswer task.circuit (run_seen run) net time (spent_by time (run_seen run).spent) (answer_seen a)) → IfOk r (λ a. IsNetAnswer task rounds name time o (answer_seen a))
  some_net task rounds name time o found net run r e is made h =
      map_ok (λ a. IsChainAnswer task.circuit (run_seen run) net time (spent_by time (run_seen run).spent) (answer_seen a)) (λ a. IsNetAnswer task rounds name time o (answer_seen a)) r
      (λ a k. subst (λ p. IsNetAnswer task rounds name time p (answer_seen a)) (sym is ∙ e) (record { run = run_seen run; is_run = made.run; right = k })) h

  -- the violation of a line
  pub some_violation : (task : Task) (rounds : ℕ) (text : List ℕ) (found : Option ℕ) (place : ℕ) (run : code_run.Watched) (vs : List code_violation.Violation) (r : Result code.Answer E) → vs ≡ run.violations.items
      → found ≡ violation_called task.circuit (map (λ v. violation_seen v) vs) text → found ≡ Some place → IsRunOf task rounds run
      → IfOk r (λ a. TellsViolation task.circuit (run_seen run) place (answer_seen a)) → IfOk r (λ a. IsViolationAnswer task rounds text (answer_seen a))
  some_violation task rounds text found place run vs r lent e is made h =
      let same : Some place ≡ violation_called task.circuit (run_seen run).violations text = sym is ∙ e ∙ ap (λ l. violation_called task.circuit (map (λ v. violation_seen v) l) text) lent in
      map_ok (λ a. TellsViolation task.circuit (run_seen run) place (answer_seen a)) (λ a. IsViolationAnswer task rounds text (answer_seen a)) r
      (λ a k. record { run = run_seen run; is_run = made.run; right = subst (λ p. IsPartsAnswer task.circuit (run_seen run) text p (answer_seen a)) same k }) h

  pub no_violation : (task : Task) (rounds : ℕ) (text : List ℕ) (found : Option ℕ) (run : code_run.Watched) (vs : List code_violation.Violation) (r : Result code.Answer E) → vs ≡ run.violations.items
      → found ≡ violation_called task.circuit (map (λ v. violation_seen v) vs) text → found ≡ None → IsRunOf task rounds run
      → IfOk r (λ a. answer_seen a ≡ unfound_answer task.circuit text (found_in run.spent)) → IfOk r (λ a. IsViolationAnswer task rounds text (answer_seen a))
  no_violation task rounds text found run vs r lent e is made h =
      let same : None ≡ violation_called task.circuit (run_seen run).violations text = sym is ∙ e ∙ ap (λ l. violation_called task.circuit (map (λ v. violation_seen v) l) text) lent in
      map_ok (λ a. answer_seen a ≡ unfound_answer task.circuit text (found_in run.spent)) (λ a. IsViolationAnswer task rounds text (answer_seen a)) r
      (λ a k. record { run = run_seen run; is_run = made.run; right = subst (λ p. IsPartsAnswer task.circuit (run_seen run) text p (answer_seen a)) same k }) h

  -- a run that was watched
  pub watched_run : (task : code_task.Task) (rounds : ℕ) (r : Result code_run.Watched E) → IfOk r (λ w. w.first.items ≡ (first_state task.circuit).values) → IfOk r (λ w. length w.first.items < 2 ^ 32) → IfOk r (λ w. length w.first.items ≡ length task.circuit.nets)
      → IfOk r (λ w. AreEvents (first_state task.circuit).values (run_of (task_seen task) rounds) w.events.items) → IfOk r (λ w. All (λ e. e.net < length w.first.items) w.events.items) → IfOk r (λ w. All (λ e. e.time < 2 ^ 60) w.events.items)
      → IfOk r (λ w. AllPairs (λ d e. d.time ≤ e.time) w.events.items) → IfOk r (λ w. map (λ v. violation_seen v) w.violations.items ≡ (run_of (task_seen task) rounds).run.violations)
      → IfOk r (λ w. All (λ v. IsBounded task.circuit v) w.violations.items) → IfOk r (λ w. found_in w.spent ≡ (run_of (task_seen task) rounds).spent) → IfOk r (λ w. IsRunOf (task_seen task) rounds w)
  watched_run task rounds (Ok w) first few values events nets times rise violations bounded spent = record {
    run = record { first = first; events = events; violations = violations; spent = spent };
    order = record { values = values; few = few; nets = nets; times = times; rise = rise };
    bounded = bounded;
  }
  watched_run task rounds (Err e) first few values events nets times rise violations bounded spent = tt
