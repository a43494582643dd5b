-- A module that isn't marked as a cell.
use Rattle.fit_inside.proofs.FlatLaws.{unmarked}
use Rattle.fit_inside.proofs.flat.is_cell.Goals as goal

pub returns-else-module : goal.returns-else-module
returns-else-module c = unmarked c.args.module.now c.deref.result.now c.any_specify.result c.if-module.false c.deref.ensures.value c.any_specify.ensures
