use Rattle.sg_circuit.specs.Seen.{circuit_seen}
use Rattle.settle_bound.proofs.HopLaws.{reads-exact}
use Rattle.settle_bound.proofs.hops.reads.Goals as goal

pub returns-in-Some : goal.returns-in-Some
returns-in-Some c = reads-exact (circuit_seen c.args.parts.now) c.args.before c.args.hop c.in-Some.net c.driven.result c.reads_net.result c.driven.ensures c.in-Some.is c.reads_net.ensures
