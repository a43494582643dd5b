use Rattle.std.proofs.Common.{◌≡◌, ◌++◌, flat_map, take}
use Rattle.settle_report.specs.Texts.{through_line}
use Rattle.settle_report.proofs.cycles.push_hops.Given as goal

-- the lines of the hops so far
abbrev pub invariant-loop-hop : goal.invariant-loop-hop
invariant-loop-hop l = l.text.items ≡ l.fn.text.items ++ flat_map (through_line l.circuit) (take l.hop-index l.hops)
