-- None of the variables so far has the net.
use Rattle.std.proofs.Common.{◌≡◌, drop}
use Rattle.why_text.specs.Pins.{named_in}
use Rattle.why_text.proofs.PinLaws.{seen}
use Rattle.why_text.proofs.pins.push_named.Given as goal

abbrev pub invariant-loop-variable : goal.invariant-loop-variable
invariant-loop-variable l = (l.text.items ≡ l.fn.text.items) × (named_in (seen l.variables) l.net ≡ named_in (seen (drop l.variable-index l.variables)) l.net)
