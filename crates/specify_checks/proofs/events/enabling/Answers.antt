-- A condition that is read is the event's own.
use Rattle.std.specs.Prelude.{map}
use Rattle.std.proofs.lemmas.Result.{err_from_is_err_and}
use Rattle.vl_tree.specs.Seen.{view_event, view_word}
use Rattle.specify_model.specs.CheckFaults.{event_condition_faults}
use Rattle.specify_model.specs.Conditions.{tokens}
use Rattle.specify_values.proofs.InTurn.{exit}
use Rattle.specify_paths.proofs.Stating.{read-own}
use Rattle.specify_checks.proofs.Enabling.{own-refused, own-faultless, own-enabled}
use Rattle.specify_checks.proofs.events.enabling.Goals as goal

pub returns-in_err-condition_of-in-Some-clause-told : goal.returns-in_err-condition_of-in-Some-clause-told
returns-in_err-condition_of-in-Some-clause-told c =
    exit c.from_residual.result (event_condition_faults c.args.table.now (view_event c.args.event.now)) c.in_err-condition_of-in-Some.field-0.0 (err_from_is_err_and c.from_residual.result c.from_residual.ensures.1)
    (own-refused c.args.table.now c.args.event.now c.in-Some.words c.deref.result.now c.in-Some.is c.deref.ensures.value c.in_err-condition_of-in-Some.field-0.0 c.in_err-condition_of-in-Some.ensures.told)

pub returns-in_ok-condition_of-in-Some-clause-condition : goal.returns-in_ok-condition_of-in-Some-clause-condition
returns-in_ok-condition_of-in-Some-clause-condition c =
    own-enabled c.args.table.now c.args.event.now c.in-Some.words c.deref.result.now c.in-Some.is c.deref.ensures.value c.in_ok-condition_of-in-Some.field-0 c.in_ok-condition_of-in-Some.ensures.condition

pub returns-in_ok-condition_of-in-Some-clause-spelled : goal.returns-in_ok-condition_of-in-Some-clause-spelled
returns-in_ok-condition_of-in-Some-clause-spelled c = read-own (tokens (map view_word c.deref.result.now)) c.in_ok-condition_of-in-Some.field-0 c.in_ok-condition_of-in-Some.ensures.condition

pub returns-in_ok-condition_of-in-Some-clause-told : goal.returns-in_ok-condition_of-in-Some-clause-told
returns-in_ok-condition_of-in-Some-clause-told c =
    own-faultless c.args.table.now c.args.event.now c.in-Some.words c.deref.result.now c.in-Some.is c.deref.ensures.value c.in_ok-condition_of-in-Some.ensures.told
