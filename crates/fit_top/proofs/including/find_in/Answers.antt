use Rattle.std.proofs.Common.{refl}
use Rattle.std.proofs.lemmas.Result.{err_from_is_err_and}
use Rattle.std.specs.Prelude.{Ok}
use Rattle.fit_words.specs.WordsSeen.{asked_seen}
use Rattle.fit_top.proofs.IncludingLaws.{fails_sought, gives_sought, in_one}
use Rattle.fit_top.proofs.including.find_in.Goals as goal

pub returns-in_err-found-clause-named : goal.returns-in_err-found-clause-named
returns-in_err-found-clause-named g c =
    let p = err_from_is_err_and c.from_residual.result c.from_residual.ensures.1 in
    rw (p.1, p.2)
    (fails_sought (Unit {0}) (Unit {0}) (asked_seen c.args.asked.now) _ _ c.in_err-found.field-0.0
    (in_one (asked_seen c.args.asked.now) c.args.asked.now.includes.items c.as_slice-folders.result.now c.loop-folder.folder-index _ c.args.name.now c.as_slice-folders.ensures.value refl c.loop-folder-test.true)
    c.in_err-found.ensures.named)

pub returns-then-is_some-clause-found : goal.returns-then-is_some-clause-found
returns-then-is_some-clause-found g c =
    gives_sought {E = Unit {0}} (asked_seen c.args.asked.now) _ (Ok c.in_ok-found.found)
    (in_one (asked_seen c.args.asked.now) c.args.asked.now.includes.items c.as_slice-folders.result.now c.loop-folder.folder-index _ c.args.name.now c.as_slice-folders.ensures.value refl c.loop-folder-test.true)
    c.in_ok-found.ensures.found
