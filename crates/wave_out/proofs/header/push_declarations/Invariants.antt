use Rattle.std.proofs.Common.{◌≡◌, ◌+◌, ◌++◌, map, drop}
use Rattle.sg_circuit.specs.Seen.{variable_seen}
use Rattle.wave_out.specs.Texts.{by_number}
use Rattle.wave_out.specs.Vcd.{declaration}
use Rattle.wave_out.proofs.header.push_declarations.Given as goal

-- the declarations that are left complete the text
abbrev pub invariant-loop-i : goal.invariant-loop-i
invariant-loop-i l =
    l.text.items ++ by_number declaration (l.k + l.i) (drop l.i (map (λ v. variable_seen v) l.variables))
    ≡ l.fn.text.items ++ by_number declaration l.k (map (λ v. variable_seen v) l.variables)
