use Rattle.std.proofs.Common.{◌≡◌, ◌++◌, drop}
use Rattle.wave_out.specs.Lines.{bits_line}
use Rattle.wave_out.specs.Texts.{by_number}
use Rattle.wave_out.proofs.blocks.push_values.Given as goal

-- the values of the variables that are left complete the text
abbrev pub invariant-loop-k : goal.invariant-loop-k
invariant-loop-k g l =
    l.text.items ++ by_number (bits_line (g.N.Nets.values l.nets)) l.k (drop l.k l.variables)
    ≡ l.fn.text.items ++ by_number (bits_line (g.N.Nets.values l.nets)) 0 l.variables
