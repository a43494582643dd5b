use Rattle.std.proofs.Common.{map, refl, subst, sym}
use Rattle.std.specs.Prelude.{Ok, string_bytes}
use Rattle.std.proofs.lemmas.Result.{err_from_is_err_and}
use Rattle.run_words.specs.Words.{a_rest, a_writing}
use Rattle.run_words.specs.WordsSeen.{asked_seen, command_seen, writing_seen}
use Rattle.run_words.specs.declared.words.Asked.TheVariants.{Run, Stop, Rest, Writing, Bounds, Case}
use Rattle.signoff_top.specs.Phases.{CommandOutcome}
use Rattle.signoff_top.specs.Tasks.{IsSound}
use Rattle.signoff_top.specs.Work.{LeavesDelays, WorkLeaves}
use Rattle.signoff_top.specs.declared.work.Done.{Done}
use Rattle.signoff_phases.proofs.Putting.{both_same}
use Rattle.signoff_top.proofs.Worked.{asked_is, delays_stopped, words_spared, words_stopped}
use Rattle.signoff_top.proofs.Sound.{asked_rest, asked_writing, not_refused, one_asked, other_asked}
use Rattle.signoff_top.proofs.work.work.Goals as goal

pub returns-in_err-command-clause-left : goal.returns-in_err-command-clause-left
returns-in_err-command-clause-left g c =
    let p = err_from_is_err_and c.from_residual.result c.from_residual.ensures.1 in
    rw (p.1, p.2) (words_stopped (map (λ w. string_bytes w) c.args.words.now) c.in_err-command.field-0.0 _ _ c.in_err-command.ensures.gives refl)

pub returns-in-Run-clause-left : goal.returns-in-Run-clause-left
returns-in-Run-clause-left g c =
    let ws = map (λ w. string_bytes w) c.args.words.now in c.run_command.ensures.left ws (asked_is ws c.in_ok-command.field-0 (Run c.in-Run.command) c.in_ok-command.ensures.words c.in-Run.is)

pub returns-in-Run-clause-named : goal.returns-in-Run-clause-named
returns-in-Run-clause-named g c =
    let ws = map (λ w. string_bytes w) c.args.words.now in c.run_command.ensures.named ws (asked_is ws c.in_ok-command.field-0 (Run c.in-Run.command) c.in_ok-command.ensures.words c.in-Run.is)

pub returns-in-Run-clause-words : goal.returns-in-Run-clause-words
returns-in-Run-clause-words g c = words_spared Done (map (λ w. string_bytes w) c.args.words.now) c.in_ok-command.field-0 c.run_command.result c.in_ok-command.ensures.words c.run_command.ensures.words

pub returns-in-Stop-clause-left : goal.returns-in-Stop-clause-left
returns-in-Stop-clause-left g c =
    let ws = map (λ w. string_bytes w) c.args.words.now in c.run_stopped.ensures.left ws (asked_is ws c.in_ok-command.field-0 (Stop c.in-Stop.command c.in-Stop.stop) c.in_ok-command.ensures.words c.in-Stop.is)

pub returns-in-Stop-clause-named : goal.returns-in-Stop-clause-named
returns-in-Stop-clause-named g c =
    let ws = map (λ w. string_bytes w) c.args.words.now in c.run_stopped.ensures.named ws (asked_is ws c.in_ok-command.field-0 (Stop c.in-Stop.command c.in-Stop.stop) c.in_ok-command.ensures.words c.in-Stop.is)

pub returns-in-Stop-clause-words : goal.returns-in-Stop-clause-words
returns-in-Stop-clause-words g c = words_spared Done (map (λ w. string_bytes w) c.args.words.now) c.in_ok-command.field-0 c.run_stopped.result c.in_ok-command.ensures.words c.run_stopped.ensures.words

pub returns-in-Rest-clause-left : goal.returns-in-Rest-clause-left
returns-in-Rest-clause-left g c =
    let ws = map (λ w. string_bytes w) c.args.words.now in c.run_rest.ensures.left ws (asked_is ws c.in_ok-command.field-0 (Rest c.in-Rest.command c.in-Rest.state) c.in_ok-command.ensures.words c.in-Rest.is)

pub returns-in-Rest-clause-named : goal.returns-in-Rest-clause-named
returns-in-Rest-clause-named g c =
    let ws = map (λ w. string_bytes w) c.args.words.now in c.run_rest.ensures.named ws (asked_is ws c.in_ok-command.field-0 (Rest c.in-Rest.command c.in-Rest.state) c.in_ok-command.ensures.words c.in-Rest.is)

pub returns-in-Rest-clause-words : goal.returns-in-Rest-clause-words
returns-in-Rest-clause-words g c = words_spared Done (map (λ w. string_bytes w) c.args.words.now) c.in_ok-command.field-0 c.run_rest.result c.in_ok-command.ensures.words c.run_rest.ensures.words

pub returns-in-Writing-clause-left : goal.returns-in-Writing-clause-left
returns-in-Writing-clause-left g c =
    let ws = map (λ w. string_bytes w) c.args.words.now in c.write_delays.ensures.left ws (asked_is ws c.in_ok-command.field-0 (Writing c.in-Writing.writing) c.in_ok-command.ensures.words c.in-Writing.is)

pub returns-in-Writing-clause-named : goal.returns-in-Writing-clause-named
returns-in-Writing-clause-named g c =
    let ws = map (λ w. string_bytes w) c.args.words.now in c.write_delays.ensures.named ws (asked_is ws c.in_ok-command.field-0 (Writing c.in-Writing.writing) c.in_ok-command.ensures.words c.in-Writing.is)

pub returns-in-Writing-clause-words : goal.returns-in-Writing-clause-words
returns-in-Writing-clause-words g c = words_spared Done (map (λ w. string_bytes w) c.args.words.now) c.in_ok-command.field-0 c.write_delays.result c.in_ok-command.ensures.words c.write_delays.ensures.words

pub returns-in-Bounds-clause-left : goal.returns-in-Bounds-clause-left
returns-in-Bounds-clause-left g c =
    let ws = map (λ w. string_bytes w) c.args.words.now in c.find_bounds.ensures.left ws (asked_is ws c.in_ok-command.field-0 (Bounds c.in-Bounds.design) c.in_ok-command.ensures.words c.in-Bounds.is)

pub returns-in-Bounds-clause-named : goal.returns-in-Bounds-clause-named
returns-in-Bounds-clause-named g c =
    let ws = map (λ w. string_bytes w) c.args.words.now in c.find_bounds.ensures.named ws (asked_is ws c.in_ok-command.field-0 (Bounds c.in-Bounds.design) c.in_ok-command.ensures.words c.in-Bounds.is)

pub returns-in-Bounds-clause-words : goal.returns-in-Bounds-clause-words
returns-in-Bounds-clause-words g c = words_spared Done (map (λ w. string_bytes w) c.args.words.now) c.in_ok-command.field-0 c.find_bounds.result c.in_ok-command.ensures.words c.find_bounds.ensures.words

pub returns-in-Case-clause-left : goal.returns-in-Case-clause-left
returns-in-Case-clause-left g c =
    let ws = map (λ w. string_bytes w) c.args.words.now in
    both_same (WorkLeaves ws c.run_case.result) _ _ refl (λ files _. c.run_case.ensures.left ws files (asked_is ws c.in_ok-command.field-0 (Case c.in-Case.stages) c.in_ok-command.ensures.words c.in-Case.is))

pub returns-in-Case-clause-words : goal.returns-in-Case-clause-words
returns-in-Case-clause-words g c = words_spared Done (map (λ w. string_bytes w) c.args.words.now) c.in_ok-command.field-0 c.run_case.result c.in_ok-command.ensures.words c.run_case.ensures.words

pub returns-in_err-command-clause-sound : goal.returns-in_err-command-clause-sound
returns-in_err-command-clause-sound g c =
    let p = err_from_is_err_and c.from_residual.result c.from_residual.ensures.1 in
    λ files d state task e asked k. rw (p.1, p.2) (not_refused Done (λ x. asked_seen x) (IsSound task) _ (a_rest d state) c.in_err-command.field-0.0 asked c.in_err-command.ensures.gives)

pub returns-in-Run-clause-sound : goal.returns-in-Run-clause-sound
returns-in-Run-clause-sound g c =
    let ws = map (λ w. string_bytes w) c.args.words.now in
    λ files d state task e asked k. other_asked _ _ (asked_seen (Run c.in-Run.command)) (a_rest d state) (asked_is ws c.in_ok-command.field-0 (Run c.in-Run.command) c.in_ok-command.ensures.words c.in-Run.is) asked (λ e. cc)

pub returns-in-Stop-clause-sound : goal.returns-in-Stop-clause-sound
returns-in-Stop-clause-sound g c =
    let ws = map (λ w. string_bytes w) c.args.words.now in
    λ files d state task e asked k. other_asked _ _ (asked_seen (Stop c.in-Stop.command c.in-Stop.stop)) (a_rest d state) (asked_is ws c.in_ok-command.field-0 (Stop c.in-Stop.command c.in-Stop.stop) c.in_ok-command.ensures.words c.in-Stop.is) asked (λ e. cc)

pub returns-in-Writing-clause-sound : goal.returns-in-Writing-clause-sound
returns-in-Writing-clause-sound g c =
    let ws = map (λ w. string_bytes w) c.args.words.now in
    λ files d state task e asked k. other_asked _ _ (asked_seen (Writing c.in-Writing.writing)) (a_rest d state) (asked_is ws c.in_ok-command.field-0 (Writing c.in-Writing.writing) c.in_ok-command.ensures.words c.in-Writing.is) asked (λ e. cc)

pub returns-in-Bounds-clause-sound : goal.returns-in-Bounds-clause-sound
returns-in-Bounds-clause-sound g c =
    let ws = map (λ w. string_bytes w) c.args.words.now in
    λ files d state task e asked k. other_asked _ _ (asked_seen (Bounds c.in-Bounds.design)) (a_rest d state) (asked_is ws c.in_ok-command.field-0 (Bounds c.in-Bounds.design) c.in_ok-command.ensures.words c.in-Bounds.is) asked (λ e. cc)

pub returns-in-Case-clause-sound : goal.returns-in-Case-clause-sound
returns-in-Case-clause-sound g c =
    let ws = map (λ w. string_bytes w) c.args.words.now in
    λ files d state task e asked k. other_asked _ _ (asked_seen (Case c.in-Case.stages)) (a_rest d state) (asked_is ws c.in_ok-command.field-0 (Case c.in-Case.stages) c.in_ok-command.ensures.words c.in-Case.is) asked (λ e. cc)

pub returns-in-Rest-clause-sound : goal.returns-in-Rest-clause-sound
returns-in-Rest-clause-sound g c =
    let ws = map (λ w. string_bytes w) c.args.words.now in
    let own = command_seen c.in-Rest.command in
    λ files d state task e asked k.
    let is = one_asked _ (a_rest own c.in-Rest.state.now) (a_rest d state) (asked_is ws c.in_ok-command.field-0 (Rest c.in-Rest.command c.in-Rest.state) c.in_ok-command.ensures.words c.in-Rest.is) asked in
    c.run_rest.ensures.sound files task e (subst (λ x. CommandOutcome x files (Ok task)) (sym (asked_rest own d c.in-Rest.state.now state is).0) k)

pub returns-in_err-command-clause-begun : goal.returns-in_err-command-clause-begun
returns-in_err-command-clause-begun g c =
    let p = err_from_is_err_and c.from_residual.result c.from_residual.ensures.1 in
    λ w asked. rw (p.1, p.2) (delays_stopped w.out c.in_err-command.field-0.0 _ _ refl)

pub returns-in-Run-clause-begun : goal.returns-in-Run-clause-begun
returns-in-Run-clause-begun g c =
    let ws = map (λ w. string_bytes w) c.args.words.now in
    λ w asked. other_asked _ _ (asked_seen (Run c.in-Run.command)) (a_writing w) (asked_is ws c.in_ok-command.field-0 (Run c.in-Run.command) c.in_ok-command.ensures.words c.in-Run.is) asked (λ e. cc)

pub returns-in-Stop-clause-begun : goal.returns-in-Stop-clause-begun
returns-in-Stop-clause-begun g c =
    let ws = map (λ w. string_bytes w) c.args.words.now in
    λ w asked. other_asked _ _ (asked_seen (Stop c.in-Stop.command c.in-Stop.stop)) (a_writing w) (asked_is ws c.in_ok-command.field-0 (Stop c.in-Stop.command c.in-Stop.stop) c.in_ok-command.ensures.words c.in-Stop.is) asked (λ e. cc)

pub returns-in-Rest-clause-begun : goal.returns-in-Rest-clause-begun
returns-in-Rest-clause-begun g c =
    let ws = map (λ w. string_bytes w) c.args.words.now in
    λ w asked. other_asked _ _ (asked_seen (Rest c.in-Rest.command c.in-Rest.state)) (a_writing w) (asked_is ws c.in_ok-command.field-0 (Rest c.in-Rest.command c.in-Rest.state) c.in_ok-command.ensures.words c.in-Rest.is) asked (λ e. cc)

pub returns-in-Bounds-clause-begun : goal.returns-in-Bounds-clause-begun
returns-in-Bounds-clause-begun g c =
    let ws = map (λ w. string_bytes w) c.args.words.now in
    λ w asked. other_asked _ _ (asked_seen (Bounds c.in-Bounds.design)) (a_writing w) (asked_is ws c.in_ok-command.field-0 (Bounds c.in-Bounds.design) c.in_ok-command.ensures.words c.in-Bounds.is) asked (λ e. cc)

pub returns-in-Case-clause-begun : goal.returns-in-Case-clause-begun
returns-in-Case-clause-begun g c =
    let ws = map (λ w. string_bytes w) c.args.words.now in
    λ w asked. other_asked _ _ (asked_seen (Case c.in-Case.stages)) (a_writing w) (asked_is ws c.in_ok-command.field-0 (Case c.in-Case.stages) c.in_ok-command.ensures.words c.in-Case.is) asked (λ e. cc)

pub returns-in-Writing-clause-begun : goal.returns-in-Writing-clause-begun
returns-in-Writing-clause-begun g c =
    let ws = map (λ w. string_bytes w) c.args.words.now in
    let own = writing_seen c.in-Writing.writing in
    λ w asked.
    let is = one_asked _ (a_writing own) (a_writing w) (asked_is ws c.in_ok-command.field-0 (Writing c.in-Writing.writing) c.in_ok-command.ensures.words c.in-Writing.is) asked in
    subst (λ v. LeavesDelays v.out c.write_delays.result (g.S.Shelf.files c.args.shelf.now) (g.S.Shelf.files c.write_delays.new.shelf)) (asked_writing own w is) c.write_delays.ensures.begun
