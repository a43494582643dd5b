use Rattle.std.proofs.Common.{◌≡◌, ◌++◌, map, drop}
use Rattle.sim_save.specs.Lines.{udp_line, joined}
use Rattle.sim_save.proofs.writing.push_udps.Given as goal

abbrev pub invariant-loop-state : goal.invariant-loop-state
invariant-loop-state l = l.text.items ++ joined (map udp_line (drop l.state-index l.udps)) ≡ l.fn.text.items ++ joined (map udp_line l.udps)
