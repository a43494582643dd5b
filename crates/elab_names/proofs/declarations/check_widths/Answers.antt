-- A range is too wide, or none is.
use Rattle.std.proofs.Common.{sym, ◌∙◌}
use Rattle.elab_names.proofs.WideRanges.{none-wide, some-wide}
use Rattle.elab_names.proofs.declarations.check_widths.Goals as goal

pub returns-in-Some-clause-refused : goal.returns-in-Some-clause-refused
returns-in-Some-clause-refused c = some-wide c.args.ranges.now c.in-Some.place (sym c.in-Some.is ∙ c.first_too_wide.ensures)

pub returns-in-None-clause-faultless : goal.returns-in-None-clause-faultless
returns-in-None-clause-faultless c = none-wide c.args.ranges.now (sym c.in-None.is ∙ c.first_too_wide.ensures)
