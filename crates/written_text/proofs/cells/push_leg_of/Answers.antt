use Rattle.written_text.proofs.CellLaws.{no_leg}
use Rattle.written_text.proofs.cells.push_leg_of.Goals as goal

pub returns-in_default : goal.returns-in_default
returns-in_default c = no_leg c.args.page.now c.args.element.now c.args.text.now.items c.in_default.not-Leg
