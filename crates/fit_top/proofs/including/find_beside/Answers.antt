use Rattle.fit_words.specs.WordsSeen.{asked_seen}
use Rattle.fit_top.proofs.IncludingLaws.{beside_path, fails_finding, gives_sought}
use Rattle.fit_top.proofs.including.find_beside.Goals as goal

pub returns-in-Ok-clause-found : goal.returns-in-Ok-clause-found
returns-in-Ok-clause-found g c =
    gives_sought (asked_seen c.args.asked.now) _ c.find_at.result
    (beside_path (asked_seen c.args.asked.now) c.args.file.now c.in-Ok.file.now c.parent_of.result.now c.args.name.now c.requires c.in-Ok.ensures.cases.0 c.parent_of.ensures)
    c.find_at.ensures.found

pub returns-in-Ok-clause-named : goal.returns-in-Ok-clause-named
returns-in-Ok-clause-named g c =
    fails_finding (asked_seen c.args.asked.now) _ _ c.find_at.result
    (beside_path (asked_seen c.args.asked.now) c.args.file.now c.in-Ok.file.now c.parent_of.result.now c.args.name.now c.requires c.in-Ok.ensures.cases.0 c.parent_of.ensures)
    c.find_at.ensures.named
