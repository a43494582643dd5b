-- An `end` isn't before the last `at`.
use Rattle.std.proofs.Common.{sym, ◌∙◌}
use Rattle.std.proofs.lemmas.Result.{err_from_is_err_and}
use Rattle.sg_time.specs.Seen.{number}
use Rattle.stim_read.specs.Meant.{scale_seen}
use Rattle.stim_read.specs.Faults.{end_faults}
use Rattle.stim_read.proofs.Refusals.{exit-match}
use Rattle.stim_read.proofs.StepLaws.{end-err, end-early, end-fine}
use Rattle.stim_read.proofs.steps.end_ticks.Goals as goal

pub returns-in_err-ticks : goal.returns-in_err-ticks
returns-in_err-ticks c =
    λ before h. exit-match _ (end_faults (scale_seen c.args.scale) c.args.byte before (number c.args.time.now)) c.from_residual.result c.in_err-ticks.field-0.0 (err_from_is_err_and c.from_residual.result c.from_residual.ensures.1)
    (end-err (scale_seen c.args.scale) c.args.byte (number c.args.time.now) before c.in_err-ticks.field-0.0 c.in_err-ticks.ensures)

pub returns-then-is_early : goal.returns-then-is_early
returns-then-is_early c =
    λ before h. rw c.fault.ensures (end-early (scale_seen c.args.scale) c.args.byte c.args.last before (number c.args.time.now) c.in_ok-ticks.ticks h c.in_ok-ticks.ensures (sym c.if-is_early.true ∙ c.is_early.ensures))

pub returns : goal.returns
returns c = λ before h. end-fine (scale_seen c.args.scale) c.args.byte c.args.last before (number c.args.time.now) c.in_ok-ticks.ticks h c.in_ok-ticks.ensures (sym c.if-is_early.false ∙ c.is_early.ensures)
