-- The first pair of a driver is at the place that was found.
use Rattle.std.proofs.Common.{ap, sym, ◌∙◌}
use Rattle.sg_model.specs.Pending.{first_of}
use Rattle.pulse_list.proofs.LatestLaws.{found_first, nothing_found}
use Rattle.pulse_list.proofs.plain.latest.Goals as goal

pub returns-in_err-latest : goal.returns-in_err-latest
returns-in_err-latest c = c.from_residual.ensures ∙ sym (ap first_of (nothing_found c.args.driver c.args.pending.now (sym c.place_of_latest.ensures ∙ c.in_err-latest.was)))

pub returns : goal.returns
returns c = sym (found_first c.args.driver c.args.pending.now c.in_ok-latest.field-0 _ (sym c.place_of_latest.ensures ∙ c.in_ok-latest.was))
