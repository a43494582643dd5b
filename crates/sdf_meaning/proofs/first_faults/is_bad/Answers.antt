-- A word is no number where reading it is refused.
use Rattle.std.proofs.Common.{ap, ◌∙◌}
use Rattle.std.specs.Result.{is_err}
use Rattle.sdf_meaning.proofs.Decimals.{same_refused}
use Rattle.sdf_meaning.proofs.first_faults.is_bad.Goals as goal

pub returns : goal.returns
returns c = c.is_err.ensures.value ∙ (same_refused c.decimal_of.result ∙ ap (λ r. is_err r) c.decimal_of.ensures)
