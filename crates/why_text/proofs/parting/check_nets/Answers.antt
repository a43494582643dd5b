use Rattle.std.proofs.Common.{◌<◌, sym, subst, length}
use Rattle.time_checks.specs.Seen.{violation_seen}
use Rattle.why_text.proofs.ViolationLaws.{datum_within, refer_within}
use Rattle.why_text.proofs.parting.check_nets.Goals as goal

pub returns-clause-refer_within : goal.returns-clause-refer_within
returns-clause-refer_within c =
    subst (λ n. n < length c.args.circuit.now.nets) (sym c.nets_of.ensures.refer) (refer_within c.args.circuit.now (violation_seen c.args.violation.now) c.nets_of.ensures.closed c.requires.check)

pub returns-clause-datum_within : goal.returns-clause-datum_within
returns-clause-datum_within c =
    subst (λ n. n < length c.args.circuit.now.nets) (sym c.nets_of.ensures.datum) (datum_within c.args.circuit.now (violation_seen c.args.violation.now) c.nets_of.ensures.closed c.requires.check)
