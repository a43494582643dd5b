use Rattle.settle_bound.proofs.TerminalLaws.{refer-late, refer-plain}
use Rattle.settle_bound.proofs.terminals.refer_net.Goals as goal

pub returns-in-Some : goal.returns-in-Some
returns-in-Some c = refer-late c.args.parts.now c.args.check c.index-timing.result.now c.in-Some.lates c.index.result.now c.requires.closed c.requires.check c.index-timing.ensures c.in-Some.is c.index.ensures

pub returns-in-None : goal.returns-in-None
returns-in-None c = refer-plain c.args.parts.now c.args.check c.index-timing.result.now c.requires.check c.index-timing.ensures c.in-None.is
