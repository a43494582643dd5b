use Rattle.fit_words.specs.WordsSeen.{asked_seen}
use Rattle.fit_top.proofs.IncludingLaws.{more_sought}
use Rattle.fit_top.proofs.including.include.Goals as goal

pub returns-clause-sought : goal.returns-clause-sought
returns-clause-sought g c = more_sought (asked_seen c.args.asked.now) _ _ _ c.in_ok-push.ensures.items c.requires c.in_ok-found.ensures.found
