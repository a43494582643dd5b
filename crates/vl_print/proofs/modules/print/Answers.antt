-- What was put behind no tokens spells the tree.
use Rattle.vl_print.proofs.WholePrinted.{whole_printed}
use Rattle.vl_print.proofs.modules.print.Goals as goal

pub returns : goal.returns
returns c = λ spelled. whole_printed c.args.source.now.parts.items c.as_slice.result.now c.new-out.result.items c.print_many.new.out.items spelled c.as_slice.ensures.value c.new-out.ensures.items c.in_ok-print_many.ensures
