-- More constants than there may be elements are too many.
use Rattle.std.proofs.Common.{◌-◌}
use Rattle.elab_elements.proofs.Inputs.{too-many_constants}
use Rattle.elab_elements.proofs.gates.next_number.Goals as goal

pub returns-then-next-first-ge-MOST_ELEMENTS-clause-refused : goal.returns-then-next-first-ge-MOST_ELEMENTS-clause-refused
returns-then-next-first-ge-MOST_ELEMENTS-clause-refused c =
    too-many_constants c.args.bit c.in-Constant.place c.in-Constant.value (c.args.next - c.args.first) c.too_many.result c.in-Constant.is c.if-next-first-ge-MOST_ELEMENTS.true c.too_many.ensures
