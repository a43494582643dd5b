use Rattle.std.proofs.Common.{◌≡◌, ◌++◌, take}
use Rattle.wave_out.specs.Walk.{bit_pins}
use Rattle.wave_out.proofs.variables.push_bits.Given as goal

abbrev pub invariant-loop-net : goal.invariant-loop-net
invariant-loop-net l = l.pins.items ≡ l.fn.pins.items ++ bit_pins l.k (take l.net-index l.bits)
