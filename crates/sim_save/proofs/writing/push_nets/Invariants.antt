use Rattle.std.proofs.Common.{◌≡◌, ◌++◌, map, drop}
use Rattle.sim_rounds.specs.MomentsSeen.{change_seen}
use Rattle.sim_save.specs.Lines.{joined, net_lines}
use Rattle.sim_save.proofs.writing.push_nets.Given as goal

abbrev pub invariant-loop-net : goal.invariant-loop-net
invariant-loop-net l =
    l.text.items ++ joined (net_lines (drop l.net l.nets) (map change_seen (drop l.net l.changes))) ≡ l.fn.text.items ++ joined (net_lines l.nets (map change_seen l.changes))
