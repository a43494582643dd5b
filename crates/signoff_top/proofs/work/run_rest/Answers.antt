use Rattle.std.proofs.lemmas.Result.{err_from_is_err_and}
use Rattle.std.proofs.Common.{[], refl}
use Rattle.run_words.specs.Words.{a_rest}
use Rattle.run_words.specs.WordsSeen.{command_seen}
use Rattle.signoff_top.specs.Answer.{rest_dump, rest_of}
use Rattle.signoff_top.specs.Tasks.{IsSound, rest_seen}
use Rattle.signoff_top.specs.declared.stopping.Rest.{Rest}
use Rattle.signoff_top.specs.declared.work.Done.{Done}
use Rattle.signoff_top.proofs.Failures.{dump_among}
use Rattle.signoff_phases.proofs.Composed.{failed_again}
use Rattle.signoff_top.proofs.Stopped.{rest_file, rest_gives, rest_stopped}
use Rattle.signoff_top.proofs.Worked.{failed_at_made, made_fails, made_wants, none_yet, run_leaves}
use Rattle.signoff_top.proofs.Sound.{cut_again}
use Rattle.signoff_top.proofs.work.run_rest.Goals as goal

pub returns-in_err-rest-clause-left : goal.returns-in_err-rest-clause-left
returns-in_err-rest-clause-left g c =
    let p = err_from_is_err_and c.from_residual.result c.from_residual.ensures.1 in
    λ ws e. rw (p.1, p.2) (rest_stopped ws (command_seen c.args.command.now) c.args.state.now c.in_err-rest.field-0.0 _ _ e c.in_err-rest.ensures.gives c.in_err-rest.ensures.held)

pub returns-in_err-rest-clause-named : goal.returns-in_err-rest-clause-named
returns-in_err-rest-clause-named g c =
    let p = err_from_is_err_and c.from_residual.result c.from_residual.ensures.1 in
    λ ws e. rw (p.1, p.2) (failed_again Rest Done _ _ c.in_err-rest.field-0.0 (λ x. x) (c.in_err-rest.ensures.named ws e))

pub returns-in-Ok-clause-left : goal.returns-in-Ok-clause-left
returns-in-Ok-clause-left g c =
    let rest = rest_seen c.in_ok-rest.rest in
    λ ws e. run_leaves ws (record { task = c.in_ok-rest.rest.task; end = c.in-Ok.end }) (rest_of rest) (rest_dump rest) _ _ _ (rest_gives ws (command_seen c.args.command.now) c.args.state.now c.in_ok-rest.rest _ e c.in_ok-rest.ensures.gives)
    c.in_ok-rest.ensures.held c.in-Ok.ensures.file c.in-Ok.ensures.spent c.in-Ok.ensures.violations

pub returns-in-Err-Failed-clause-left : goal.returns-in-Err-Failed-clause-left
returns-in-Err-Failed-clause-left g c =
    λ ws e. made_fails ws _ [] (rest_file c.in_ok-rest.rest) [] _ _ _ (rest_gives ws (command_seen c.args.command.now) c.args.state.now c.in_ok-rest.rest _ e c.in_ok-rest.ensures.gives) refl
    (none_yet _ _ c.in_ok-rest.ensures.held) c.in-Err-Failed.ensures.file

pub returns-in-Err-Failed-clause-named : goal.returns-in-Err-Failed-clause-named
returns-in-Err-Failed-clause-named g c =
    let command = command_seen c.args.command.now in
    let named = rw c.in-Err-Failed.field-0-is at c.in-Err-Failed.ensures.named in
    λ ws e. failed_at_made ws _ [] (rest_file c.in_ok-rest.rest) [] _ _ _ (rest_gives ws command c.args.state.now c.in_ok-rest.rest _ e c.in_ok-rest.ensures.gives) refl (none_yet _ _ c.in_ok-rest.ensures.held) c.in-Err-Failed.ensures.file
    (a_rest command c.args.state.now) _ e (dump_among (a_rest command c.args.state.now) command _ refl c.in_ok-rest.ensures.vcd) named

pub returns-clause-left : goal.returns-clause-left
returns-clause-left g c =
    λ ws e. made_wants ws _ [] (rest_file c.in_ok-rest.rest) [] _ _ _ (rest_gives ws (command_seen c.args.command.now) c.args.state.now c.in_ok-rest.rest _ e c.in_ok-rest.ensures.gives) refl
    (none_yet _ _ c.in_ok-rest.ensures.held) c.in-Err-NoMemory.ensures.file

pub returns-in_err-rest-clause-sound : goal.returns-in_err-rest-clause-sound
returns-in_err-rest-clause-sound g c =
    let p = err_from_is_err_and c.from_residual.result c.from_residual.ensures.1 in
    λ files task e k. rw (p.1, p.2) (cut_again Rest Done (IsSound task) c.in_err-rest.field-0.0 (c.in_err-rest.ensures.sound files task e k))

pub returns-in-Ok-clause-sound : goal.returns-in-Ok-clause-sound
returns-in-Ok-clause-sound g c = λ files task e k. c.in_ok-rest.ensures.sound files task e k
