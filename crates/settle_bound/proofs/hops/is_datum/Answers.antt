use Rattle.sg_circuit.specs.Seen.{circuit_seen}
use Rattle.time_checks.specs.Adjusted.{adjusted_checks}
use Rattle.time_checks.specs.Checking.{check_at}
use Rattle.settle_bound.proofs.TerminalLaws.{is-datum, no-datum}
use Rattle.settle_bound.proofs.hops.is_datum.Goals as goal

pub returns-in-Some : goal.returns-in-Some
returns-in-Some c = is-datum c.args.net (check_at (adjusted_checks (circuit_seen c.args.parts.now)) c.args.check).datum c.datum_net.result c.datum_net.ensures c.in-Some.datum c.in-Some.is

pub returns-in-None : goal.returns-in-None
returns-in-None c = no-datum c.args.net (check_at (adjusted_checks (circuit_seen c.args.parts.now)) c.args.check).datum c.datum_net.result c.datum_net.ensures c.in-None.is
