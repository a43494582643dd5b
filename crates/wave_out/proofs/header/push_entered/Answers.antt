use Rattle.std.proofs.Common.{map}
use Rattle.sg_circuit.specs.Seen.{variable_seen}
use Rattle.wave_out.specs.Texts.{by_number}
use Rattle.wave_out.specs.Vcd.{declaration, scope_line}
use Rattle.wave_out.proofs.TextLaws.{add_two}
use Rattle.wave_out.proofs.header.push_entered.Goals as goal

pub returns-clause-text : goal.returns-clause-text
returns-clause-text c =
    add_two c.args.text.now.items (scope_line c.args.scope.now.name) (by_number declaration c.args.k (map (λ v. variable_seen v) c.args.scope.now.variables.items))
    (rw c.bytes.ensures at c.in_ok-push_scope.ensures) (rw c.deref.ensures.value at c.in_ok-push_declarations.ensures)
