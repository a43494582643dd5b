use Rattle.sg_circuit.specs.Seen.{circuit_seen}
use Rattle.why_causes.proofs.CauseLaws.{within-ok, through-within}
use Rattle.why_causes.proofs.causes.cause.Goals as goal

pub returns-clause-within : goal.returns-clause-within
returns-clause-within c =
    within-ok _ _ c.cause_through.result c.cause_through.ensures
    (through-within (circuit_seen c.parts-parts.result.now) c.args.trace.now c.in-Element.number c.change_of-change.result)
