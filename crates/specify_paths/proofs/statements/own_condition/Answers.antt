-- A condition that is read is the path's own.
use Rattle.std.specs.Prelude.{flat_map, map}
use Rattle.std.proofs.lemmas.Result.{err_from_is_err_and}
use Rattle.vl_tree.specs.Seen.{view_path_condition, view_word}
use Rattle.specify_model.specs.Conditions.{tokens}
use Rattle.specify_model.specs.Faults.{condition_faults, own_condition}
use Rattle.specify_values.proofs.InTurn.{exit}
use Rattle.specify_paths.proofs.Stating.{own-refused, own-faultless, own-bound, read-own}
use Rattle.specify_paths.proofs.statements.own_condition.Goals as goal

pub returns-in_err-condition_of-in-If-clause-told : goal.returns-in_err-condition_of-in-If-clause-told
returns-in_err-condition_of-in-If-clause-told c =
    exit c.from_residual.result (flat_map (condition_faults c.args.table.now c.args.place) (own_condition (view_path_condition c.args.condition.now))) c.in_err-condition_of-in-If.field-0.0
    (err_from_is_err_and c.from_residual.result c.from_residual.ensures.1)
    (own-refused c.args.table.now c.args.place c.args.condition.now c.in-If.words c.deref.result.now c.in-If.is c.deref.ensures.value c.in_err-condition_of-in-If.field-0.0 c.in_err-condition_of-in-If.ensures.told)

pub returns-in_ok-condition_of-in-If-clause-condition : goal.returns-in_ok-condition_of-in-If-clause-condition
returns-in_ok-condition_of-in-If-clause-condition c =
    own-bound c.args.table.now c.args.place c.args.condition.now c.in-If.words c.deref.result.now c.in-If.is c.deref.ensures.value c.in_ok-condition_of-in-If.field-0 c.in_ok-condition_of-in-If.ensures.condition

pub returns-in_ok-condition_of-in-If-clause-told : goal.returns-in_ok-condition_of-in-If-clause-told
returns-in_ok-condition_of-in-If-clause-told c =
    own-faultless c.args.table.now c.args.place c.args.condition.now c.in-If.words c.deref.result.now c.in-If.is c.deref.ensures.value c.in_ok-condition_of-in-If.ensures.told

pub returns-in_ok-condition_of-in-If-clause-spelled : goal.returns-in_ok-condition_of-in-If-clause-spelled
returns-in_ok-condition_of-in-If-clause-spelled c = read-own (tokens (map view_word c.deref.result.now)) c.in_ok-condition_of-in-If.field-0 c.in_ok-condition_of-in-If.ensures.condition
