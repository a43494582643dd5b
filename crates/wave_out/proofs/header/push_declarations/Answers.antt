use Rattle.std.proofs.Common.{◌+◌, arith}
use Rattle.sg_circuit.specs.Seen.{variable_seen}
use Rattle.wave_out.specs.Vcd.{declaration}
use Rattle.wave_out.proofs.TextLaws.{numbered_next}
use Rattle.wave_out.proofs.header.push_declarations.Goals as goal

pub loop-i-preserved : goal.loop-i-preserved
loop-i-preserved c =
    numbered_next declaration (λ v. variable_seen v) c.loop-i.text.items c.push_declaration.new.text.items _ c.args.variables.now c.loop-i.i (c.args.k + c.loop-i.i) _ c.index-variables-i.result
    c.loop-i-test.true (omega arith) c.index-variables-i.is c.in_ok-push_declaration.ensures c.loop-i.invariant
