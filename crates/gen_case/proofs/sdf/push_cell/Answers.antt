use Rattle.std.proofs.Common.{◌+◌, ◌*◌, ◌%◌}
use Rattle.std.specs.Prelude.{codes, decimal}
use Rattle.gen_case.proofs.Texts.{add_seven}
use Rattle.gen_case.proofs.sdf.push_cell.Goals as goal

pub returns : goal.returns
returns c =
    add_seven c.args.text.now.items (codes "(CELL (CELLTYPE \"INV\") (INSTANCE u") (decimal c.args.stage) (codes ") (DELAY (ABSOLUTE (IOPATH A Y (")
    (decimal (100 + 10 * (c.args.stage % 7))) (codes ") (") (decimal (100 + 10 * (c.args.stage % 5))) (codes ")))))\n")
    c.in_ok-extend_from_slice.ensures.items c.in_ok-push_number.ensures c.in_ok-extend_from_slice-2.ensures.items c.in_ok-push_number-2.ensures c.in_ok-extend_from_slice-3.ensures.items c.in_ok-push_number-3.ensures c.in_ok-extend_from_slice-4.ensures.items
