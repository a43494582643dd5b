-- A real value is told where an input has it.
use Rattle.std.proofs.Common.{sym, ◌∙◌}
use Rattle.vcd_stim.proofs.CodeLaws.{none-real, some-real}
use Rattle.vcd_stim.proofs.items.no_input.Goals as goal

pub returns-then-is_empty : goal.returns-then-is_empty
returns-then-is_empty c = none-real c.args.byte c.args.list.now (sym c.is_empty.ensures ∙ c.if-is_empty.true)

pub returns : goal.returns
returns c = rw c.fault.ensures (some-real c.args.byte c.args.list.now (sym c.is_empty.ensures ∙ c.if-is_empty.false))
