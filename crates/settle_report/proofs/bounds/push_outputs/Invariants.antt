use Rattle.std.proofs.Common.{◌≡◌, ◌++◌, take}
use Rattle.settle_report.specs.Texts.{bound_line}
use Rattle.settle_report.proofs.Outputs.{of_outputs}
use Rattle.settle_report.proofs.bounds.push_outputs.Given as goal

-- the lines of the variables so far
abbrev pub invariant-loop-variable : goal.invariant-loop-variable
invariant-loop-variable l = l.text.items ≡ l.fn.text.items ++ of_outputs (bound_line l.circuit l.bounds) (take l.variable-index l.variables)
