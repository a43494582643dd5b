-- The first limit, then the second.
use Rattle.std.specs.Prelude.{◌+◌, ◌∷◌, ◌++◌, flat_map, option_to_list}
use Rattle.std.specs.Option.{option_map}
use Rattle.std.proofs.Common.{◌∙◌, ap}
use Rattle.std.proofs.lemmas.Result.{err_from_is_err_and}
use Rattle.vl_tree.specs.Seen.{view_limit}
use Rattle.elab_declared.proofs.Refusals.{refused-left, refused-right}
use Rattle.specify_model.specs.CheckFaults.{limit_faults}
use Rattle.specify_model.specs.Checks.{limit_ticks}
use Rattle.specify_values.specs.Seen.{measured, values_of}
use Rattle.specify_values.proofs.InTurn.{exit}
use Rattle.specify_checks.proofs.Seconds.{own-number}
use Rattle.specify_checks.proofs.checks.limits_of.Goals as goal

pub returns-in_err-first-clause-told : goal.returns-in_err-first-clause-told
returns-in_err-first-clause-told c =
    let faults = limit_faults (c.args.signals + 1) (measured c.args.by) (values_of c.args.parameters.now) in
    let rest = option_to_list (option_map view_limit c.args.second.now) in
    exit c.from_residual.result (flat_map faults (view_limit c.args.first.now ∷ rest)) c.in_err-first.field-0.0 (err_from_is_err_and c.from_residual.result c.from_residual.ensures.1)
    (refused-left (faults (view_limit c.args.first.now)) (flat_map faults rest) c.in_err-first.field-0.0 c.in_err-first.ensures.told)

pub returns-in_err-second-clause-told : goal.returns-in_err-second-clause-told
returns-in_err-second-clause-told c =
    let faults = limit_faults (c.args.signals + 1) (measured c.args.by) (values_of c.args.parameters.now) in
    let rest = option_to_list (option_map view_limit c.args.second.now) in
    exit c.from_residual-in_err-second.result (flat_map faults (view_limit c.args.first.now ∷ rest)) c.in_err-second.field-0.0
    (err_from_is_err_and c.from_residual-in_err-second.result c.from_residual-in_err-second.ensures.1)
    (refused-right (faults (view_limit c.args.first.now)) (flat_map faults rest) c.in_err-second.field-0.0 c.in_err-second.ensures.told)

pub returns-clause-ticks : goal.returns-clause-ticks
returns-clause-ticks c =
    let limit = limit_ticks (measured c.args.by) (values_of c.args.parameters.now) in
    ap (λ n. n ∷ option_to_list c.in_ok-second.second) (own-number c.in_ok-first.first c.in_ok-first.ensures.fits ∙ c.in_ok-first.ensures.ticks)
    ∙ ap (λ ns. limit (view_limit c.args.first.now) ∷ ns) c.in_ok-second.ensures.ticks

pub returns-clause-told : goal.returns-clause-told
returns-clause-told c =
    let faults = limit_faults (c.args.signals + 1) (measured c.args.by) (values_of c.args.parameters.now) in
    let rest = option_to_list (option_map view_limit c.args.second.now) in
    ap (λ fs. fs ++ flat_map faults rest) c.in_ok-first.ensures.told ∙ c.in_ok-second.ensures.told
