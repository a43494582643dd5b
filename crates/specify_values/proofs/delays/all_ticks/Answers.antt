-- The first delay that has a fault is refused.
use Rattle.std.specs.Prelude.{flat_map, map}
use Rattle.std.proofs.lemmas.Result.{err_from_is_err_and}
use Rattle.vl_tree.specs.Seen.{view_amounts}
use Rattle.specify_model.specs.Faults.{delay_faults}
use Rattle.specify_values.specs.Seen.{measured, values_of}
use Rattle.specify_values.proofs.InTurn.{exit, this-refused}
use Rattle.specify_values.proofs.delays.all_ticks.Goals as goal

pub returns-in_err-delay_ticks-clause-told : goal.returns-in_err-delay_ticks-clause-told
returns-in_err-delay_ticks-clause-told c =
    exit c.from_residual.result (flat_map (delay_faults (measured c.args.by) (values_of c.args.parameters.now)) (map view_amounts c.args.delays.now)) c.in_err-delay_ticks.field-0.0
    (err_from_is_err_and c.from_residual.result c.from_residual.ensures.1)
    (this-refused view_amounts (delay_faults (measured c.args.by) (values_of c.args.parameters.now)) c.args.delays.now c.loop-delay.delay-index c.delay-item.result c.in_err-delay_ticks.field-0.0
    c.loop-delay-test.true c.delay-item.is c.loop-delay.invariant.1 c.in_err-delay_ticks.ensures.told)
