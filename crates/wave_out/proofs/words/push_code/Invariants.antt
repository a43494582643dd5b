use Rattle.std.proofs.Common.{◌≡◌, ◌++◌}
use Rattle.wave_out.specs.Vcd.{code}
use Rattle.wave_out.proofs.words.push_code.Given as goal

-- the code of the rest is what is left to write
abbrev pub invariant-loop-rest : goal.invariant-loop-rest
invariant-loop-rest l = l.text.items ++ code l.rest ≡ l.fn.text.items ++ code l.k

abbrev pub decreases-loop-rest : goal.decreases-loop-rest
decreases-loop-rest l = l.rest
