use Rattle.std.proofs.Common.{◌≡◌, ◌++◌, flat_map, take}
use Rattle.settle_report.specs.Texts.{bound_line}
use Rattle.settle_report.proofs.bounds.push_bits.Given as goal

-- the lines of the bits so far
abbrev pub invariant-loop-net : goal.invariant-loop-net
invariant-loop-net l = l.text.items ≡ l.fn.text.items ++ flat_map (bound_line l.circuit l.bounds) (take l.net-index l.bits)
