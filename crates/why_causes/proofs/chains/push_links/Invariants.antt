-- The chain so far, and its events marked.
use Rattle.why_causes.proofs.ChainLaws.{Going, unmarked}
use Rattle.why_causes.proofs.chains.push_links.Given as goal

abbrev pub invariant-links : goal.invariant-links
invariant-links l = Going l.circuit l.trace l.event l.links.items l.seen l.last

abbrev pub decreases-links : goal.decreases-links
decreases-links l = unmarked l.seen
