-- A cell.
use Rattle.fit_inside.specs.Seen.{is_kept}
use Rattle.fit_inside.proofs.FlatLaws.{of-cell}
use Rattle.fit_inside.proofs.flat.is_flat_part.Goals as goal

pub returns-else-not-is_cell : goal.returns-else-not-is_cell
returns-else-not-is_cell c =
    of-cell (λ n. is_kept n c.args.modules.now.keys) c.args.part.now c.in-Module.module c.deref.result.now c.is_cell.result c.all_leaves.result c.in-Module.is c.is_cell.ensures c.if-not-is_cell.false
    c.deref.ensures.value c.all_leaves.ensures
