use Rattle.why_causes.proofs.ChainLaws.{fewer, ended, goes-on}
use Rattle.why_causes.proofs.chains.push_links.Goals as goal

pub returns-in_default : goal.returns-in_default
returns-in_default c =
    ended c.args.circuit.now c.args.trace.now c.args.event c.links.links.items c.links.seen c.links.last c.links.invariant c.in_ok-found.found c.in_ok-found.ensures.cause c.in_ok-found.ensures.within c.in_default.ensures

pub links-smaller : goal.links-smaller
links-smaller c = fewer c.args.circuit.now c.args.trace.now c.args.event c.links.links.items c.links.seen c.links.last c.links.invariant

pub links-preserved : goal.links-preserved
links-preserved c =
    goes-on c.args.circuit.now c.args.trace.now c.args.event c.links.links.items c.links.seen c.links.last c.links.invariant c.in_ok-found.found c.in-Some.link c.push.new.self.items c.in_ok-found.ensures.cause c.in_ok-found.ensures.within
    c.in-Some.ensures c.in_ok-push.ensures.items
