-- One specify path more, or all.
use Rattle.std.specs.Prelude.{◌≡◌, All, []}
use Rattle.std.proofs.Common.{◌∙◌, sym, subst}
use Rattle.std.proofs.lemmas.List.{map-id}
use Rattle.std.proofs.lemmas.Iterator.Adapters.{YieldsList-from_vec}
use Rattle.std.proofs.lemmas.Iterator.Consumers.{YieldsList-end}
use Rattle.specify_paths.specs.Spelled.{IsSpelled}
use Rattle.elab_paths.proofs.OnShelves.{IsShelved, grows-none, statement-more, read-more, shelved-whole}
use Rattle.elab_paths.proofs.SideBySide.{Each}
use Rattle.elab_paths.proofs.shelving.shelve_statements.Goals.{After-drop-statement-iterator-2}
use Rattle.elab_paths.proofs.shelving.shelve_statements.Goals as goal

pub loop-statement-init : goal.loop-statement-init
loop-statement-init c =
    (grows-none c.args.conditions.now.items, subst (Each (IsShelved c.args.conditions.now.items) []) (sym c.new-shelved.ensures.items) tt, λ all begun. begun)

pub loop-statement-preserved : goal.loop-statement-preserved
loop-statement-preserved c =
    let more = statement-more c.args.conditions.now.items c.loop-statement.conditions.items c.shelve_condition.new.conditions.items c.loop-statement.yielded c.in-Some.statement
    c.in_ok-condition.condition c.loop-statement.shelved.items c.push.new.self.items c.loop-statement.invariant.0 c.in_ok-condition.ensures.kept c.in_ok-condition.ensures.condition
    c.in_ok-push.ensures.items c.loop-statement.invariant.1 in (
      more.0,
      more.1,
      read-more c.args.conditions.now.items c.loop-statement.conditions.items c.shelve_condition.new.conditions.items c.loop-statement.yielded c.in-Some.statement c.in_ok-condition.ensures.read
          c.loop-statement.invariant.2,
    )

pub returns-clause-kept : goal.returns-clause-kept
returns-clause-kept c = c.loop-statement.invariant.0

-- all were yielded
all-yielded : (c : After-drop-statement-iterator-2) → c.loop-statement.yielded ≡ c.args.statements.items
all-yielded c =
    let b = c.into_iter-statement-iterator.ensures.into_iter_gives in
    let t = YieldsList-end (YieldsList-from_vec {s = c.into_iter-statement-iterator.result} _ b.0 (b.1 ∙ c.args.statements.ok.0)) c.loop-statement.yielded
    c.loop-statement.statement-iterator c.loop-statement.yielded_by c.next.result c.next.new.self c.in-None.is c.next.ensures.steps in
    sym (map-id c.loop-statement.yielded) ∙ t.0

pub returns-clause-statements : goal.returns-clause-statements
returns-clause-statements c =
    shelved-whole c.loop-statement.conditions.items c.args.statements.items c.loop-statement.shelved.items
    (subst (λ ss. Each (IsShelved c.loop-statement.conditions.items) ss c.loop-statement.shelved.items) (all-yielded c) c.loop-statement.invariant.1)

pub returns-clause-read : goal.returns-clause-read
returns-clause-read c = λ all begun. c.loop-statement.invariant.2 (subst (All (λ s. IsSpelled s.condition)) (sym (all-yielded c)) all) begun
