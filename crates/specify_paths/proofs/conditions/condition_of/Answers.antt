-- Operands first, then the condition that is read.
use Rattle.std.specs.Prelude.{map}
use Rattle.std.proofs.Common.{sym, ◌∙◌, ap, subst}
use Rattle.std.proofs.lemmas.Result.{err_from_is_err_and}
use Rattle.vl_tree.specs.Seen.{view_word}
use Rattle.elab_model.specs.Faults.{RefusesOneOf}
use Rattle.specify_model.specs.Faults.{condition_faults}
use Rattle.specify_values.proofs.InTurn.{exit}
use Rattle.specify_paths.specs.Words.{refusal_of}
use Rattle.specify_paths.proofs.ReadConditions.{condition-read, condition-faultless, operands-told, condition-told}
use Rattle.specify_paths.proofs.conditions.condition_of.Goals as goal

pub returns-in_err-check_operands-clause-told : goal.returns-in_err-check_operands-clause-told
returns-in_err-check_operands-clause-told c =
    exit c.from_residual.result (condition_faults c.args.table.now c.args.place (map view_word c.args.words.now)) c.in_err-check_operands.field-0.0
    (err_from_is_err_and c.from_residual.result c.from_residual.ensures.1)
    (operands-told c.args.table.now c.args.place (map view_word c.args.words.now) c.in_err-check_operands.field-0.0 c.in_err-check_operands.ensures)

pub returns-in-Ok-clause-condition : goal.returns-in-Ok-clause-condition
returns-in-Ok-clause-condition c =
    condition-read (map view_word c.args.words.now) c.deref.result.now c.in-Ok.condition (c.deref.ensures.value ∙ c.in_ok-tokens.ensures) c.in-Ok.ensures.found

pub returns-in-Ok-clause-told : goal.returns-in-Ok-clause-told
returns-in-Ok-clause-told c =
    condition-faultless c.args.table.now c.args.place (map view_word c.args.words.now) c.in-Ok.condition c.in_ok-check_operands.ensures
    (condition-read (map view_word c.args.words.now) c.deref.result.now c.in-Ok.condition (c.deref.ensures.value ∙ c.in_ok-tokens.ensures) c.in-Ok.ensures.found)

pub returns-clause-told : goal.returns-clause-told
returns-clause-told c =
    subst (RefusesOneOf (condition_faults c.args.table.now c.args.place (map view_word c.args.words.now))) (sym (c.refusal_of.ensures ∙ ap (refusal_of c.in-Err.fault) c.first_place.ensures))
    (condition-told c.args.table.now c.args.place (map view_word c.args.words.now) c.deref.result.now c.in-Err.fault (c.deref.ensures.value ∙ c.in_ok-tokens.ensures) c.in-Err.ensures.only)
