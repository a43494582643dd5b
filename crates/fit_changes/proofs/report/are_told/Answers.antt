-- The lines as the code has them tell what they stand for.
use Rattle.std.proofs.Common.{◌∙◌}
use Rattle.fit_changes.proofs.LineLaws.{any-seen}
use Rattle.fit_changes.proofs.report.are_told.Goals as goal

pub returns : goal.returns
returns c = c.tell_any.ensures ∙ any-seen c.args.lines.now
