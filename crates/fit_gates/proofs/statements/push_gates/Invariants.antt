-- The text so far and that of the rest.
use Rattle.std.specs.Prelude.{◌≡◌, ◌++◌, length, map}
use Rattle.fit_gates.specs.Text as spelled
use Rattle.fit_gates.specs.Gates.{seen}
use Rattle.fit_gates.proofs.statements.push_gates.Given as goal

abbrev pub invariant-loop-rest : goal.invariant-loop-rest
invariant-loop-rest l = l.text.items ++ spelled.gates_text l.naming l.delay l.place (map seen l.rest) ≡ l.fn.text.items ++ spelled.gates_text l.naming l.delay 0 (map seen l.gates)

abbrev pub decreases-loop-rest : goal.decreases-loop-rest
decreases-loop-rest l = length l.rest
