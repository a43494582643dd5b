use Rattle.std.proofs.Common.{◌≡◌, ◌++◌, map, take}
use Rattle.wave_out.specs.Vcd.{value_letter, values_at}
use Rattle.wave_out.proofs.lines.push_letters.Given as goal

-- the letters of the bits so far
abbrev pub invariant-loop-net : goal.invariant-loop-net
invariant-loop-net g l = l.text.items ≡ l.fn.text.items ++ map value_letter (values_at (take l.net-index l.bits) (g.N.Nets.values l.nets))
