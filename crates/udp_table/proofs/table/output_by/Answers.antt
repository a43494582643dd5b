use Rattle.std.proofs.Common.{arith}
use Rattle.udp_table.proofs.TableLaws.{whole-below}
use Rattle.udp_table.proofs.table.output_by.Goals as goal

pub bounds-cells-place : goal.bounds-cells-place
bounds-cells-place c =
    let below = whole-below c.args.new.now c.args.inputs in
    omega (arith, below, c.code_of-place.ensures, c.requires.cells)
