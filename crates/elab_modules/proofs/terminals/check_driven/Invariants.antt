-- The constants that are left are all.
use Rattle.std.proofs.Common.{◌≡◌, List, flat_map, drop}
use Rattle.elab_model.specs.Names.{Variable}
use Rattle.elab_model.specs.TerminalFaults.{constant_fault}
use Rattle.elab_bits.specs.Seen.{view_bit}
use Rattle.elab_modules.proofs.terminals.check_driven.Given as goal

abbrev pub invariant-loop-bit : goal.invariant-loop-bit
invariant-loop-bit l = (vs : List Variable) → flat_map (λ b. constant_fault (view_bit vs b)) (drop l.bit-index l.bits) ≡ flat_map (λ b. constant_fault (view_bit vs b)) l.bits
