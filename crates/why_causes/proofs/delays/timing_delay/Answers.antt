use Rattle.why_causes.proofs.DelayLaws.{between-delay}
use Rattle.why_causes.proofs.delays.timing_delay.Goals as goal

pub returns-in-Some : goal.returns-in-Some
returns-in-Some c =
    between-delay c.args.timing.now.delays.at c.args.timing.now.limits.at c.args.from c.args.to c.in-Some.place 0 c.requires c.in-Some.ensures.within c.in-Some.ensures.place
