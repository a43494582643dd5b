-- A run that goes on from the save of a stopped one: both dumps are that of the whole run, and so are the violations.
use Rattle.std.proofs.Common.{◌≡◌, ◌∙◌, refl, sym, ap, subst, List, [], ◌∷◌, ◌++◌, ℕ, ◌<◌, ◌≤◌, ◌^◌, All, drop, length, append_assoc, Bool, true, false, arith}
use Rattle.std.proofs.lemmas.Bool.{ltb-false}
use Rattle.std.proofs.lemmas.List.{take_all}
use Rattle.std.specs.Prelude.{Some, None, Ok, nat_lt}
use Rattle.sg_io.specs.Files.{File, bytes_of}
use Rattle.sg_circuit.specs.Circuit.{Circuit}
use Rattle.sg_circuit.specs.Closed.{IsClosed}
use Rattle.sg_model.specs.Machine.{Snapshot}
use Rattle.sg_model.specs.Run.{Finished, lasts}
use Rattle.sg_stimulus.specs.Applied.{IsApplied}
use Rattle.sim_times.specs.Times.{count_shown}
use Rattle.time_checks.proofs.LaterLaws.{same-violations, same-latest}
use Rattle.sim_rounds.proofs.MomentsFit.{moments_fit}
use Rattle.sim_rounds.specs.Moments.{Fits, Moment, moment_after, snapshot_of}
use Rattle.sim_save.proofs.ReadLaws.{is_power, numbers_of}
use Rattle.sim_save.specs.Faults.{AreNumbers, most_bytes}
use Rattle.written_reading.specs.Named.{IsTick}
use Rattle.run_words.specs.Words.{a_rest, Command, Stop, asked_of}
use Rattle.wave_out.specs.Scopes.{variables_of}
use Rattle.wave_out.specs.Vcd.{dump, dump_text, end_line, ending, first_block, header, vcd_begun, vcd_body, vcd_rest, vcd_text}
use Rattle.wave_out.proofs.RestLaws.{rest_makes_whole}
use Rattle.run_report.specs.Report.{Unmatched}
use Rattle.rest_laws.proofs.RestLaws.{rest_is_the_rest}
use Rattle.rest_laws.specs.Rests.{IsRest}
use Rattle.signoff_top.specs.Answer.{Answer, IsAnswer, begun_dump, dump_of, rest_dump, rest_of, run_of, saved_answer, saved_of, stop_answer, stopped_of}
use Rattle.signoff_top.specs.Phases.{CommandOutcome, Rest, RestOutcome, Task, save_limit}
use Rattle.signoff_phases.specs.Phases.{FileWithin, goes_on}
use Rattle.signoff_top.specs.Promises.{MakesWhole, ResumesWhole}
use Rattle.signoff_top.specs.Tasks.{IsSound}
use Rattle.signoff_top.proofs.OneAnswer.{one_rest}
use Rattle.signoff_top.proofs.Stopped.{stop_reached}
use Rattle.signoff_top.proofs.Ticks.{command_tick}

-- The dumps of a run up to a stop and of its rest are the dump of the whole.
pub whole_dump : (circuit : Circuit) (end : ℕ) (last : Snapshot) (later older : List Snapshot) (whole begun rest : Finished) → whole.spent ≡ None → rest.spent ≡ None → lasts whole.run.snapshots ≡ later ++ last ∷ older
    → lasts begun.run.snapshots ≡ last ∷ older → lasts rest.run.snapshots ≡ later ++ last ∷ [] → All (λ s. last.time < s.time) later → All (λ s. s.time ≤ last.time) older → last.time < end
    → vcd_begun circuit begun ++ vcd_rest circuit end last rest ≡ vcd_text circuit end whole
unfolding vcd_text
whole_dump circuit end last later older whole begun rest none unspent w b r after before l =
    let xs = variables_of circuit in
    let front = dump_text (dump xs (last ∷ older)) in
    let all = later ++ last ∷ older in
    let new = later ++ last ∷ [] in
    let behind = drop (length (first_block xs last)) (dump_text (dump xs new) ++ end_line end (dump xs new)) in
    let whole_body : vcd_body xs end whole ≡ dump_text (dump xs all) ++ end_line end (dump xs all) =
    ap (λ ss. dump_text (dump xs ss) ++ ending end (dump xs ss) whole.spent) w ∙ ap (λ o. dump_text (dump xs all) ++ ending end (dump xs all) o) none in
    let rest_body : vcd_body xs end rest ≡ dump_text (dump xs new) ++ end_line end (dump xs new) =
    ap (λ ss. dump_text (dump xs ss) ++ ending end (dump xs ss) rest.spent) r ∙ ap (λ o. dump_text (dump xs new) ++ ending end (dump xs new) o) unspent in
    ap (λ ss. (header circuit ++ dump_text (dump xs ss)) ++ vcd_rest circuit end last rest) b
    ∙ (ap (λ t. (header circuit ++ front) ++ drop (length (first_block xs last)) t) rest_body
    ∙ (append_assoc (header circuit) front behind ∙ ap (λ t. header circuit ++ t) (sym (rest_makes_whole xs end later last older after before l) ∙ sym whole_body)))

-- the dump was made and the save too, where more than one file was
dump_and_save : (task : Task) (s : Stop) (file : File) (made : List File) (too_large : Bool) → nat_lt most_bytes (length (saved_of task s)) ≡ too_large → (saved_answer too_large task s).made ≡ file ∷ made → (made ≡ [] → ⊥)
    → (file ≡ begun_dump task s) × (length (saved_of task s) ≤ most_bytes)
dump_and_save task s file made true e is some = let none : [] ≡ made = cc in absurd (some (sym none))
dump_and_save task s file made false e is some = let same : begun_dump task s ≡ file = cc in (sym same, ltb-false most_bytes (length (saved_of task s)) e)

within_limit : (n : ℕ) → n ≤ most_bytes → n ≤ save_limit
within_limit n l = omega (arith, l)

-- the moment at a stop, and what goes on from it
abbrev moment_at : Task → Stop → Moment
moment_at task s = moment_after task.circuit s.time (stopped_of task s)

abbrev rest_at : Task → Stop → Rest
rest_at task s = record { task = task; moment = moment_at task s }

-- Of a task, and a stop before its end.
module _ (task : Task) (s : Stop) (closed : IsClosed task.circuit) (applied : IsApplied task.circuit task.input) (before : s.time < task.input.end) (unspent : (run_of task).spent ≡ None) where
  law : IsRest task.circuit task.rounds task.input s.time (moment_at task s)
  law = rest_is_the_rest (record { violations = same-violations; latest = same-latest }) moments_fit task.circuit task.rounds task.input s.time closed applied before unspent

  fits : Fits task.circuit (moment_at task s)
  fits = (moments_fit.of_runs task.circuit task.input task.rounds s.time (count_shown (stopped_of task s).evaluations) closed applied before law.stopped).fits

  numbers : IsTick task.circuit.tick → AreNumbers task.circuit.tick (length task.circuit.elements) (moment_at task s)
  numbers tick =
      let shown : count_shown (stopped_of task s).evaluations < 2 ^ 64 = omega arith in
      let time : s.time < 2 ^ 64 = omega (arith, before, applied.fits) in
      numbers_of task.circuit (moment_at task s) closed (is_power task.circuit.tick tick.least tick.greatest) fits time shown

  -- the save is read as the moment
  rest_read : (c : Command) (state : List ℕ) (files : List File) → CommandOutcome c files (Ok task) → bytes_of state files ≡ Some (saved_of task s) → length (saved_of task s) ≤ most_bytes → RestOutcome c state files (Ok (rest_at task s))
  rest_read c state files accepted held small =
      let read : FileWithin save_limit state (bytes_of state files) (Ok (saved_of task s)) =
      subst (λ o. FileWithin save_limit state o (Ok (saved_of task s))) (sym held) (ap Ok (sym (take_all save_limit (saved_of task s) (within_limit (length (saved_of task s)) small)))) in
      goes_on task (Ok (rest_at task s)) accepted (goes_on (saved_of task s) (Ok (rest_at task s)) read (goes_on (moment_at task s) (Ok (rest_at task s)) (record { small = small; text = refl; fits = fits; before = before; numbers = numbers (command_tick c files (Ok task) accepted) }) refl))

  both_dumps : vcd_begun task.circuit (stopped_of task s) ++ rest_dump (rest_at task s) ≡ dump_of task
  both_dumps =
      whole_dump task.circuit task.input.end (snapshot_of (moment_at task s)) law.later law.older (run_of task) (stopped_of task s) (rest_of (rest_at task s)) unspent law.unspent law.whole law.begun law.rest law.after law.before before

-- a task of the same run, with other names for its files
abbrev earlier_of : Task → List Unmatched → List ℕ → Task
earlier_of task unmatched vcd = record { circuit = task.circuit; unmatched = unmatched; rounds = task.rounds; input = task.input; vcd = vcd }

makes_whole : (ws : List (List ℕ)) (files : List File) (c : Command) (state : List ℕ) (task : Task) (us : List Unmatched) (vcd : List ℕ) (s : Stop) (file : File) (made : List File) (answer : Answer)
    → asked_of ws ≡ Some (a_rest c state) → CommandOutcome c files (Ok task) → IsClosed task.circuit → IsApplied task.circuit task.input → (run_of task).spent ≡ None → s.time < task.input.end
    → (stop_answer s (Ok (earlier_of task us vcd))).made ≡ file ∷ made → (made ≡ [] → ⊥) → bytes_of state files ≡ Some (saved_of task s) → IsAnswer ws files answer → MakesWhole task file (stopped_of task s).run.violations answer
makes_whole ws files c state task us vcd s file made answer asked accepted closed applied unspent before is some held right =
    let l = law task s closed applied before unspent in
    let first = earlier_of task us vcd in
    let found = dump_and_save first s file made (nat_lt most_bytes (length (saved_of first s))) refl (sym (ap (λ a. a.made) (stop_reached first s before l.stopped)) ∙ is) some in
    record {
      rest = rest_at task s;
      answered = one_rest ws c state files (rest_at task s) answer asked (rest_read task s closed applied before unspent c state files accepted held found.1) right;
      dumps = ap (λ f. f.bytes ++ rest_dump (rest_at task s)) found.0 ∙ both_dumps task s closed applied before unspent;
      violations = sym l.violations;
    }

pub resumes_whole : (ws : List (List ℕ)) (files : List File) → ((c : Command) (state : List ℕ) (task : Task) → asked_of ws ≡ Some (a_rest c state) → CommandOutcome c files (Ok task) → IsSound task) → ResumesWhole ws files
resumes_whole ws files sound c state task file asked accepted unspent from answer right =
    let made : IsSound task = sound c state task asked accepted in
    let first = from.first in
    let s = from.stop in
    let same : first ≡ earlier_of task first.unmatched first.vcd =
    ap (λ x. record { circuit = x; unmatched = first.unmatched; rounds = first.rounds; input = first.input; vcd = first.vcd }) from.circuit
    ∙ (ap (λ n. record { circuit = task.circuit; unmatched = first.unmatched; rounds = n; input = first.input; vcd = first.vcd }) from.rounds
    ∙ ap (λ i. record { circuit = task.circuit; unmatched = first.unmatched; rounds = task.rounds; input = i; vcd = first.vcd }) from.input) in
    subst (λ t. MakesWhole task file (stopped_of t s).run.violations answer) (sym same)
    (makes_whole ws files c state task first.unmatched first.vcd s file from.made answer asked accepted made.0 made.1 unspent from.before
    (subst (λ t. (stop_answer s (Ok t)).made ≡ file ∷ from.made) same from.answer) from.was_saved (subst (λ t. bytes_of state files ≡ Some (saved_of t s)) same from.save) right)
