use Rattle.std.proofs.Common.{length}
use Rattle.std.proofs.lemmas.List.{length-map}
use Rattle.sg_circuit.specs.Seen.{circuit_seen, scope_seen, variable_seen}
use Rattle.wave_out.proofs.HeaderLaws.{entered_lines, scope_is}
use Rattle.wave_out.proofs.header.push_visit.Goals as goal

pub returns-in-Enters : goal.returns-in-Enters
returns-in-Enters c =
    rw c.in-Enters.is
    (entered_lines (circuit_seen c.args.parts.now) c.in-Enters.scope c.args.k (length c.index.result.now.variables.items) (scope_seen c.index.result.now) c.args.text.now.items c.push_entered.new.text.items c.push_entered.result
    (scope_is c.args.parts.now c.in-Enters.scope c.index.result.now (rw c.in-Enters.is at c.requires) c.index.ensures) (length-map c.index.result.now.variables.items (λ v. variable_seen v)) c.push_entered.ensures.text c.push_entered.ensures.count)
