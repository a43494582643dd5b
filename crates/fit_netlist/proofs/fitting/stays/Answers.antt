-- No option asks for a change, and the files are inside.
use Rattle.std.proofs.Common.{◌∙◌, sym}
use Rattle.fit_netlist.proofs.fitting.stays.Goals as goal

pub returns-then-not-asks_nothing-clause-only : goal.returns-then-not-asks_nothing-clause-only
returns-then-not-asks_nothing-clause-only c = λ a i. sym c.if-not-asks_nothing.true ∙ c.asks_nothing.ensures ∙ a

pub returns-clause-only : goal.returns-clause-only
returns-clause-only c = λ a i. c.is_inside.ensures.only i
