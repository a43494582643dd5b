-- One check more, or all.
use Rattle.std.specs.Prelude.{◌≡◌, All, []}
use Rattle.std.proofs.Common.{◌∙◌, sym, subst}
use Rattle.std.proofs.lemmas.List.{map-id}
use Rattle.std.proofs.lemmas.Iterator.Adapters.{YieldsList-from_vec}
use Rattle.std.proofs.lemmas.Iterator.Consumers.{YieldsList-end}
use Rattle.specify_checks.specs.Seen.{IsSpelledCheck}
use Rattle.elab_paths.proofs.OnShelves.{grows-none}
use Rattle.elab_paths.proofs.SideBySide.{Each}
use Rattle.elab_checks.specs.Shelving.{IsShelvedCheck}
use Rattle.elab_checks.proofs.Shelved.{check-more, read-more, checks-ready, checks-named}
use Rattle.elab_checks.proofs.shelving.shelve.Goals.{After-drop-check-iterator-2}
use Rattle.elab_checks.proofs.shelving.shelve.Goals as goal

pub loop-check-init : goal.loop-check-init
loop-check-init c = (grows-none c.args.conditions.now.items, subst (Each (IsShelvedCheck c.args.conditions.now.items) []) (sym c.new-list.ensures.items) tt, λ all begun. begun)

pub loop-check-preserved : goal.loop-check-preserved
loop-check-preserved c =
    let more = check-more c.args.conditions.now.items c.loop-check.conditions.items c.shelve_check.new.conditions.items c.loop-check.yielded c.in-Some.check c.loop-check.list.items c.push.new.self.items
    c.in_ok-shelve_check.field-0 c.loop-check.invariant.0 c.in_ok-shelve_check.ensures.kept c.in_ok-shelve_check.ensures.check c.in_ok-push.ensures.items c.loop-check.invariant.1 in (
      more.0,
      more.1,
      read-more c.args.conditions.now.items c.loop-check.conditions.items c.shelve_check.new.conditions.items c.loop-check.yielded c.in-Some.check c.in_ok-shelve_check.ensures.read c.loop-check.invariant.2,
    )

pub returns-clause-kept : goal.returns-clause-kept
returns-clause-kept c = c.loop-check.invariant.0

-- all were yielded
all-yielded : (c : After-drop-check-iterator-2) → c.loop-check.yielded ≡ c.args.checks.items
all-yielded c =
    let b = c.into_iter-check-iterator.ensures.into_iter_gives in
    let t = YieldsList-end (YieldsList-from_vec {s = c.into_iter-check-iterator.result} _ b.0 (b.1 ∙ c.args.checks.ok.0)) c.loop-check.yielded
    c.loop-check.check-iterator c.loop-check.yielded_by c.next.result c.next.new.self c.in-None.is c.next.ensures.steps in
    sym (map-id c.loop-check.yielded) ∙ t.0

all-shelved : (c : After-drop-check-iterator-2) → Each (IsShelvedCheck c.loop-check.conditions.items) c.args.checks.items c.loop-check.list.items
all-shelved c = subst (λ cs. Each (IsShelvedCheck c.loop-check.conditions.items) cs c.loop-check.list.items) (all-yielded c) c.loop-check.invariant.1

pub returns-clause-checks : goal.returns-clause-checks
returns-clause-checks c = checks-ready c.loop-check.conditions.items c.args.checks.items c.loop-check.list.items (all-shelved c)

pub returns-clause-named : goal.returns-clause-named
returns-clause-named c = checks-named c.loop-check.conditions.items c.args.checks.items c.loop-check.list.items (all-shelved c)

pub returns-clause-read : goal.returns-clause-read
returns-clause-read c = λ all begun. c.loop-check.invariant.2 (subst (All IsSpelledCheck) (sym (all-yielded c)) all) begun
