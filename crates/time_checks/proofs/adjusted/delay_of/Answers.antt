use Rattle.time_checks.proofs.AdjustedLaws.{late-small}
use Rattle.time_checks.proofs.adjusted.delay_of.Goals as goal

pub returns-in-Late-clause-small : goal.returns-in-Late-clause-small
returns-in-Late-clause-small c = late-small c.args.parts.now c.args.element c.in-Late.delay c.index.result.now c.requires.closed c.requires.within c.index.ensures c.in-Late.is
