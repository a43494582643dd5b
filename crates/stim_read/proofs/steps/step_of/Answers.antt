-- The step that sets make.
use Rattle.std.proofs.Common.{ap, map}
use Rattle.std.specs.Prelude.{flat_map}
use Rattle.std.proofs.lemmas.Result.{err_from_is_err_and}
use Rattle.stim_read.specs.Faults.{set_faults}
use Rattle.stim_read.specs.Seen.{set_seen}
use Rattle.stim_read.proofs.Refusals.{exit-match}
use Rattle.stim_read.proofs.steps.step_of.Goals as goal

pub returns-in_err-sets : goal.returns-in_err-sets
returns-in_err-sets c =
    exit-match _ (flat_map (set_faults c.args.inputs.now.circuit.now c.args.byte) (map (λ s. set_seen s) c.args.sets.now)) c.from_residual.result c.in_err-sets.field-0.0 (err_from_is_err_and c.from_residual.result c.from_residual.ensures.1) c.in_err-sets.ensures.refused

pub returns : goal.returns
returns c = (ap (λ l. record { time = c.args.ticks; sets = l }) c.in_ok-sets.ensures.bits, c.in_ok-sets.ensures.faultless)
