-- What is refused of the delays is refused.
use Rattle.std.proofs.Common.{option_map}
use Rattle.std.proofs.lemmas.Result.{err_from_is_err_and}
use Rattle.vl_tree.specs.Seen.{view_delay}
use Rattle.elab_model.specs.TerminalFaults.{delay_faults}
use Rattle.elab_modules.proofs.InTurn.{exit}
use Rattle.elab_modules.proofs.delays.add_delays.Goals as goal

pub returns-in_err-delays-clause-told : goal.returns-in_err-delays-clause-told
returns-in_err-delays-clause-told c = λ m e.
    exit c.from_residual.result (delay_faults c.args.most c.args.corner c.args.tick.power m (option_map view_delay c.args.delay.now)) c.in_err-delays.field-0.0
    (err_from_is_err_and c.from_residual.result c.from_residual.ensures.1) (c.in_err-delays.ensures.refused m e)
