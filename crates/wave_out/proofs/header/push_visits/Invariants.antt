use Rattle.std.proofs.Common.{◌≡◌, ◌++◌, drop}
use Rattle.sg_circuit.specs.Seen.{circuit_seen}
use Rattle.wave_out.specs.Vcd.{visit_lines}
use Rattle.wave_out.proofs.header.push_visits.Given as goal

-- the lines of the visits that are left complete the text
abbrev pub invariant-loop-visit : goal.invariant-loop-visit
invariant-loop-visit l = l.text.items ++ visit_lines (circuit_seen l.parts) l.k (drop l.visit-index l.visits) ≡ l.fn.text.items ++ visit_lines (circuit_seen l.parts) 0 l.visits
