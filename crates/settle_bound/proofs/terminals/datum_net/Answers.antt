use Rattle.settle_bound.proofs.TerminalLaws.{datum-late, datum-plain, datum-none}
use Rattle.settle_bound.proofs.terminals.datum_net.Goals as goal

pub returns-in-Some-late : goal.returns-in-Some-late
returns-in-Some-late c =
    datum-late c.args.parts.now c.args.check c.index-timing.result.now c.in-Some.event c.in-Some-late.lates c.index.result.now c.requires.closed c.requires.check c.index-timing.ensures c.in-Some.is c.in-Some-late.is c.index.ensures

pub returns-in-None-late : goal.returns-in-None-late
returns-in-None-late c = datum-plain c.args.parts.now c.args.check c.index-timing.result.now c.in-Some.event c.requires.check c.index-timing.ensures c.in-Some.is c.in-None-late.is

pub returns-in-None : goal.returns-in-None
returns-in-None c = datum-none c.args.parts.now c.args.check c.index-timing.result.now c.requires.check c.index-timing.ensures c.in-None.is
