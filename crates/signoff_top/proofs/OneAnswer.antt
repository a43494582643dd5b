-- Right answers for the same words and files have one status and make the same files. Their reports may differ, where several
-- faults stand in one phase.
use Rattle.std.proofs.Common.{◌≡◌, ◌∙◌, sym, ap, subst, refl, ℕ, List, []}
use Rattle.std.specs.Prelude.{Option, Some, None, Result, Ok, Err}
use Rattle.sg_io.specs.Files.{File}
use Rattle.sg_circuit.specs.Circuit.{Circuit}
use Rattle.run_words.specs.Words.{Asked, a_run, a_stop, a_rest, a_writing, the_bounds, a_case, Command, asked_of}
use Rattle.signoff_top.specs.Answer.{Answer, IsAnswer, IsAnswerFor, IsAnswerTo, IsSettleAnswer, IsSettleAnswerOf, bounded, in_a_cycle, answer_of, case_answer, refusal_answer, rest_answer, stop_answer, writing_answer}
use Rattle.signoff_phases.specs.Phases.{Annotated, Refusal}
use Rattle.signoff_top.specs.Phases.{Rest, Task, CaseOutcome, CommandOutcome, RestOutcome, WritingOutcome}
use Rattle.signoff_top.proofs.Agreeing.{Agree, AllAgree, case_agree, command_agree, design_agree, rest_agree, writing_agree}

-- an answer that is made of an outcome, and is that of the refusal where it is one
abbrev TellsRefusals : {A : Type 0} → (Result A Refusal → Answer) → Type 0
TellsRefusals {A} answer = (r : Refusal) → answer (Err r) ≡ refusal_answer r

status_agrees : {A : Type 0} (answer : Result A Refusal → Answer) → TellsRefusals answer → (o p : Result A Refusal) → Agree o p → (answer o).status ≡ (answer p).status
status_agrees answer told (Ok a) (Ok b) e = ap (λ t. (answer (Ok t)).status) e
status_agrees answer told (Ok a) (Err r) e = absurd e
status_agrees answer told (Err r) (Ok a) e = absurd e
status_agrees answer told (Err r) (Err s) e = ap (λ x. x.status) (told r) ∙ (e ∙ sym (ap (λ x. x.status) (told s)))

made_agrees : {A : Type 0} (answer : Result A Refusal → Answer) → TellsRefusals answer → (o p : Result A Refusal) → Agree o p → (answer o).made ≡ (answer p).made
made_agrees answer told (Ok a) (Ok b) e = ap (λ t. (answer (Ok t)).made) e
made_agrees answer told (Ok a) (Err r) e = absurd e
made_agrees answer told (Err r) (Ok a) e = absurd e
made_agrees answer told (Err r) (Err s) e = ap (λ x. x.made) (told r) ∙ sym (ap (λ x. x.made) (told s))

-- the answer of some outcome of a phase
abbrev AnswersBy : {A : Type 0} → (Result A Refusal → Type 0) → (Result A Refusal → Answer) → Answer → Type 0
AnswersBy {A} phase answer a = (o : Result A Refusal) × phase o × (a ≡ answer o)

status_by : {A : Type 0} (phase : Result A Refusal → Type 0) (answer : Result A Refusal → Answer) → AllAgree phase → TellsRefusals answer → (a b : Answer) → AnswersBy phase answer a → AnswersBy phase answer b → a.status ≡ b.status
status_by phase answer agree told a b h k = ap (λ x. x.status) h.2 ∙ (status_agrees answer told h.0 k.0 (agree h.0 k.0 h.1 k.1) ∙ sym (ap (λ x. x.status) k.2))

made_by : {A : Type 0} (phase : Result A Refusal → Type 0) (answer : Result A Refusal → Answer) → AllAgree phase → TellsRefusals answer → (a b : Answer) → AnswersBy phase answer a → AnswersBy phase answer b → a.made ≡ b.made
made_by phase answer agree told a b h k = ap (λ x. x.made) h.2 ∙ (made_agrees answer told h.0 k.0 (agree h.0 k.0 h.1 k.1) ∙ sym (ap (λ x. x.made) k.2))

pub nothing_made : (stages : ℕ) (o : Result Task Refusal) → (case_answer stages o).made ≡ []
nothing_made stages (Ok task) = refl
nothing_made stages (Err r) = refl

-- of one circuit there are bounds, or there is a cycle
settled_once : (c : Circuit) (a b : Answer) → IsSettleAnswer c a → IsSettleAnswer c b → a.status ≡ b.status
settled_once c _ _ (bounded bounds h) (bounded others k) = refl
settled_once c _ _ (bounded bounds h) (in_a_cycle hops k) = absurd (h.no_cycle hops k)
settled_once c _ _ (in_a_cycle hops h) (bounded bounds k) = absurd (k.no_cycle hops h)
settled_once c _ _ (in_a_cycle hops h) (in_a_cycle others k) = refl

settle_status_agrees : (o p : Result Annotated Refusal) (a b : Answer) → Agree o p → IsSettleAnswerOf o a → IsSettleAnswerOf p b → a.status ≡ b.status
settle_status_agrees (Ok x) (Ok y) a b e h k = settled_once x.circuit a b h (subst (λ (z : Annotated). IsSettleAnswer z.circuit b) (sym e) k)
settle_status_agrees (Ok x) (Err r) a b e h k = absurd e
settle_status_agrees (Err r) (Ok y) a b e h k = absurd e
settle_status_agrees (Err r) (Err s) a b e h k = ap (λ x. x.status) h ∙ (e ∙ sym (ap (λ x. x.status) k))

nothing_of : (c : Circuit) (a : Answer) → IsSettleAnswer c a → a.made ≡ []
nothing_of c _ (bounded bounds h) = refl
nothing_of c _ (in_a_cycle hops h) = refl

pub nothing_settled : (o : Result Annotated Refusal) (a : Answer) → IsSettleAnswerOf o a → a.made ≡ []
nothing_settled (Ok x) a h = nothing_of x.circuit a h
nothing_settled (Err r) a h = ap (λ x. x.made) h

one_status_for : (asked : Asked) (files : List File) (a b : Answer) → IsAnswerFor asked files a → IsAnswerFor asked files b → a.status ≡ b.status
one_status_for (a_run c) files a b h k = status_by (CommandOutcome c files) answer_of (command_agree c files) (λ r. refl) a b h k
one_status_for (a_stop c stop) files a b h k = status_by (CommandOutcome c files) (stop_answer stop) (command_agree c files) (λ r. refl) a b h k
one_status_for (a_rest c state) files a b h k = status_by (RestOutcome c state files) rest_answer (rest_agree c state files) (λ r. refl) a b h k
one_status_for (a_writing w) files a b h k = status_by (WritingOutcome w files) (writing_answer w.out) (writing_agree w files) (λ r. refl) a b h k
one_status_for (the_bounds d) files a b h k = settle_status_agrees h.0 k.0 a b (design_agree d files h.0 k.0 h.1 k.1) h.2 k.2
one_status_for (a_case stages) files a b h k = status_by (CaseOutcome stages) (case_answer stages) (case_agree stages) (λ r. refl) a b h k

one_status_to : (o : Option Asked) (files : List File) (a b : Answer) → IsAnswerTo o files a → IsAnswerTo o files b → a.status ≡ b.status
one_status_to None files a b h k = ap (λ x. x.status) (h ∙ sym k)
one_status_to (Some asked) files a b h k = one_status_for asked files a b h k

pub one_status : (ws : List (List ℕ)) (files : List File) (a b : Answer) → IsAnswer ws files a → IsAnswer ws files b → a.status ≡ b.status
one_status ws files a b h k = one_status_to (asked_of ws) files a b h k

one_made_for : (asked : Asked) (files : List File) (a b : Answer) → IsAnswerFor asked files a → IsAnswerFor asked files b → a.made ≡ b.made
one_made_for (a_run c) files a b h k = made_by (CommandOutcome c files) answer_of (command_agree c files) (λ r. refl) a b h k
one_made_for (a_stop c stop) files a b h k = made_by (CommandOutcome c files) (stop_answer stop) (command_agree c files) (λ r. refl) a b h k
one_made_for (a_rest c state) files a b h k = made_by (RestOutcome c state files) rest_answer (rest_agree c state files) (λ r. refl) a b h k
one_made_for (a_writing w) files a b h k = made_by (WritingOutcome w files) (writing_answer w.out) (writing_agree w files) (λ r. refl) a b h k
one_made_for (the_bounds d) files a b h k = nothing_settled h.0 a h.2 ∙ sym (nothing_settled k.0 b k.2)
one_made_for (a_case stages) files a b h k = made_by (CaseOutcome stages) (case_answer stages) (case_agree stages) (λ r. refl) a b h k

one_made_to : (o : Option Asked) (files : List File) (a b : Answer) → IsAnswerTo o files a → IsAnswerTo o files b → a.made ≡ b.made
one_made_to None files a b h k = ap (λ x. x.made) (h ∙ sym k)
one_made_to (Some asked) files a b h k = one_made_for asked files a b h k

pub one_made : (ws : List (List ℕ)) (files : List File) (a b : Answer) → IsAnswer ws files a → IsAnswer ws files b → a.made ≡ b.made
one_made ws files a b h k = one_made_to (asked_of ws) files a b h k

same_answer : {A : Type 0} (answer : Result A Refusal → Answer) (o : Result A Refusal) (x : A) (a : Answer) → Agree o (Ok x) → a ≡ answer o → a ≡ answer (Ok x)
same_answer answer (Ok y) x a same h = h ∙ ap (λ z. answer (Ok z)) same
same_answer answer (Err r) x a same h = absurd same

-- Where the files of a run are accepted there is one right answer: that of the run.
pub one_run : (ws : List (List ℕ)) (c : Command) (files : List File) (task : Task) (a : Answer) → asked_of ws ≡ Some (a_run c) → CommandOutcome c files (Ok task) → IsAnswer ws files a → a ≡ answer_of (Ok task)
one_run ws c files task a e accepted h =
    let own : IsAnswerFor (a_run c) files a = subst (λ q. IsAnswerTo q files a) e h in
    same_answer answer_of own.0 task a (command_agree c files own.0 (Ok task) own.1 accepted) own.2

-- So there is where those of the rest of a run are.
pub one_rest : (ws : List (List ℕ)) (c : Command) (state : List ℕ) (files : List File) (rest : Rest) (a : Answer) → asked_of ws ≡ Some (a_rest c state) → RestOutcome c state files (Ok rest) → IsAnswer ws files a
    → a ≡ rest_answer (Ok rest)
one_rest ws c state files rest a e accepted h =
    let own : IsAnswerFor (a_rest c state) files a = subst (λ q. IsAnswerTo q files a) e h in
    same_answer rest_answer own.0 rest a (rest_agree c state files own.0 (Ok rest) own.1 accepted) own.2
