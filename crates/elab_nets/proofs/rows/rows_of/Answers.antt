-- Each instance has its turn.
use Rattle.std.proofs.Common.{◌≡◌, ◌∙◌, arith, length}
use Rattle.std.proofs.lemmas.Result.{err_from_is_err_and}
use Rattle.elab_model.specs.Hierarchy.{instances}
use Rattle.elab_nets.specs.Turns.{IsGiven}
use Rattle.elab_nets.proofs.Counts.{handed-on}
use Rattle.elab_nets.proofs.AllRows.{have-rows}
use Rattle.elab_nets.proofs.Placings.{placed-count}
use Rattle.elab_nets.proofs.rows.rows_of.Goals as goal

pub loop-number-init : goal.loop-number-init
loop-number-init c = record { few = c.in_ok-rows.ensures.none; up_to = λ top corner given. c.in_ok-rows.ensures.rows c.args.definitions.now top corner given }

pub loop-number-preserved : goal.loop-number-preserved
loop-number-preserved c = record {
  few = c.add_instance.ensures.few;
  up_to = λ top corner given. c.in_ok-add_instance.ensures.done top corner given (c.loop-number.invariant.up_to top corner given);
}

pub returns-in_err-add_instance-clause-refused : goal.returns-in_err-add_instance-clause-refused
returns-in_err-add_instance-clause-refused c =
    handed-on c.from_residual-in_err-add_instance.result _ c.in_err-add_instance.field-0.0 (err_from_is_err_and c.from_residual-in_err-add_instance.result c.from_residual-in_err-add_instance.ensures.1)
    (λ top corner placed library tree.
    let given : IsGiven c.args.definitions.now top corner c.args.library.now c.args.instances.now = record { instances_are = placed; ready = library; tree = tree } in
    c.in_err-add_instance.ensures.refused top corner given (c.loop-number.invariant.up_to top corner given))

pub returns-clause-rows : goal.returns-clause-rows
returns-clause-rows c = λ top corner placed library tree.
    let given : IsGiven c.args.definitions.now top corner c.args.library.now c.args.instances.now = record { instances_are = placed; ready = library; tree = tree } in
    let n : length c.args.instances.now ≡ length (instances c.args.definitions.now top) = placed-count c.args.definitions.now c.args.instances.now (instances c.args.definitions.now top) placed in
    let k : c.loop-number.number ≡ length c.args.instances.now = omega arith in
    have-rows c.args.definitions.now top c.loop-number.rows c.loop-number.number (k ∙ n) (c.loop-number.invariant.up_to top corner given) c.loop-number.invariant.few
