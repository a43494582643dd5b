-- Its ticks, or what is told of it.
use Rattle.std.specs.Prelude.{◌+◌, flat_map, option_to_list}
use Rattle.std.specs.Option.{option_map}
use Rattle.std.proofs.Common.{◌∙◌}
use Rattle.std.proofs.lemmas.Result.{err_from_is_err_and}
use Rattle.vl_tree.specs.Seen.{view_limit}
use Rattle.specify_model.specs.CheckFaults.{limit_faults}
use Rattle.specify_model.specs.Checks.{limit_ticks}
use Rattle.specify_values.specs.Seen.{measured, values_of}
use Rattle.specify_values.proofs.InTurn.{exit}
use Rattle.specify_checks.proofs.Seconds.{own-number, second-told, second-faultless, second-written}
use Rattle.specify_checks.proofs.checks.second_ticks.Goals as goal

pub returns-in_err-limit_ticks-in-Some-clause-told : goal.returns-in_err-limit_ticks-in-Some-clause-told
returns-in_err-limit_ticks-in-Some-clause-told c =
    let faults = limit_faults (c.args.signals + 1) (measured c.args.by) (values_of c.args.parameters.now) in
    let r = c.in_err-limit_ticks-in-Some.field-0.0 in
    exit c.from_residual.result (flat_map faults (option_to_list (option_map view_limit c.args.limit.now))) r (err_from_is_err_and c.from_residual.result c.from_residual.ensures.1)
    (second-told c.args.limit.now c.in-Some.second c.in-Some.is faults r c.in_err-limit_ticks-in-Some.ensures.told)

pub returns-in_ok-limit_ticks-in-Some-clause-ticks : goal.returns-in_ok-limit_ticks-in-Some-clause-ticks
returns-in_ok-limit_ticks-in-Some-clause-ticks c =
    second-written c.args.limit.now c.in-Some.second c.in-Some.is (limit_ticks (measured c.args.by) (values_of c.args.parameters.now)) _
    (own-number c.in_ok-limit_ticks-in-Some.field-0 c.in_ok-limit_ticks-in-Some.ensures.fits ∙ c.in_ok-limit_ticks-in-Some.ensures.ticks)

pub returns-in_ok-limit_ticks-in-Some-clause-told : goal.returns-in_ok-limit_ticks-in-Some-clause-told
returns-in_ok-limit_ticks-in-Some-clause-told c =
    second-faultless c.args.limit.now c.in-Some.second c.in-Some.is (limit_faults (c.args.signals + 1) (measured c.args.by) (values_of c.args.parameters.now)) c.in_ok-limit_ticks-in-Some.ensures.told
