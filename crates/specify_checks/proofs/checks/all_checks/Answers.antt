-- One check more, or the first that has a fault.
use Rattle.std.specs.Prelude.{◌≤◌, ◌∷◌, ◌++◌, [], flat_map, length}
use Rattle.std.proofs.Common.{arith}
use Rattle.std.proofs.lemmas.Iterator.Adapters.{YieldsList-from_vec}
use Rattle.std.proofs.lemmas.Iterator.Consumers.{YieldsList-end, YieldsList-turn}
use Rattle.std.proofs.lemmas.List.{length_push}
use Rattle.std.proofs.lemmas.Result.{err_from_is_err_and}
use Rattle.specify_model.specs.CheckFaults.{check_faults}
use Rattle.specify_values.specs.Seen.{measured, values_of, view_checks}
use Rattle.specify_values.proofs.InTurn.{exit, none-left, this-refused}
use Rattle.specify_checks.specs.Copies.{copies_seen}
use Rattle.specify_checks.proofs.NextCheck.{view, none-yet, next-check, all-checks, one-asked}
use Rattle.specify_checks.proofs.checks.all_checks.Goals.{After-drop-text-iterator-2}
use Rattle.specify_checks.proofs.checks.all_checks.Goals as goal

pub loop-text-init : goal.loop-text-init
loop-text-init c = none-yet (measured c.args.by) c.args.table.now (copies_seen c.args.table.now c.args.copies.now) (length c.args.copies.now.copies.items) c.args.copies.now.signals (values_of c.args.parameters.now) c.args.texts.items c.new-checks.result.items c.new-checks.ensures.items

-- a text that is yielded is one of the checks
pub check_of-requires : goal.check_of-requires
check_of-requires c =
    let texts = c.args.texts.items in
    let text = c.in-Some.text in
    let gives = c.into_iter-text-iterator.ensures.into_iter_gives in
    let turn = YieldsList-turn (YieldsList-from_vec texts gives.0 (omega (arith, gives.1, c.args.texts.ok.0))) c.loop-text.yielded c.loop-text.text-iterator c.loop-text.yielded_by
    c.next.result c.next.new.self text c.in-Some.is c.next.ensures.steps in
    record { asked = one-asked c.args.table.now c.args.copies.now texts (length c.loop-text.yielded) text turn.0 turn.1 c.requires.asked }

pub returns-in_err-check_of-clause-told : goal.returns-in_err-check_of-clause-told
returns-in_err-check_of-clause-told c =
    let faults = check_faults c.args.copies.now.signals (measured c.args.by) c.args.table.now (values_of c.args.parameters.now) in
    let texts = c.args.texts.items in
    let text = c.in-Some.text in
    let r = c.in_err-check_of.field-0.0 in
    let gives = c.into_iter-text-iterator.ensures.into_iter_gives in
    let turn = YieldsList-turn (YieldsList-from_vec texts gives.0 (omega (arith, gives.1, c.args.texts.ok.0))) c.loop-text.yielded c.loop-text.text-iterator c.loop-text.yielded_by
    c.next.result c.next.new.self text c.in-Some.is c.next.ensures.steps in
    exit c.from_residual.result (flat_map faults (view_checks texts)) r (err_from_is_err_and c.from_residual.result c.from_residual.ensures.1)
    (this-refused view faults texts (length c.loop-text.yielded) text r turn.0 turn.1 c.loop-text.invariant.left c.in_err-check_of.ensures.told)

pub loop-text-preserved : goal.loop-text-preserved
loop-text-preserved c =
    let texts = c.args.texts.items in
    let text = c.in-Some.text in
    let done = c.loop-text.yielded in
    let gives = c.into_iter-text-iterator.ensures.into_iter_gives in
    let turn = YieldsList-turn (YieldsList-from_vec texts gives.0 (omega (arith, gives.1, c.args.texts.ok.0))) done c.loop-text.text-iterator c.loop-text.yielded_by c.next.result
    c.next.new.self text c.in-Some.is c.next.ensures.steps in
    next-check (measured c.args.by) c.args.table.now (copies_seen c.args.table.now c.args.copies.now) (length c.args.copies.now.copies.items) c.args.copies.now.signals (values_of c.args.parameters.now) texts (length done) (length (done ++ text ∷ [])) text c.in_ok-check_of.field-0
    c.loop-text.checks.items c.push.new.self.items (omega (arith, length_push done text)) turn.0 turn.1 c.in_ok-push.ensures.items c.in_ok-check_of.ensures.check
    c.in_ok-check_of.ensures.fits c.in_ok-check_of.ensures.spelled c.in_ok-check_of.ensures.told c.loop-text.invariant

-- all were yielded
all-yielded : (c : After-drop-text-iterator-2) → length c.args.texts.items ≤ length c.loop-text.yielded
all-yielded c =
    let gives = c.into_iter-text-iterator.ensures.into_iter_gives in
    let end = YieldsList-end (YieldsList-from_vec {s = c.into_iter-text-iterator.result} c.args.texts.items gives.0 (omega (arith, gives.1, c.args.texts.ok.0)))
    c.loop-text.yielded c.loop-text.text-iterator c.loop-text.yielded_by c.next.result c.next.new.self c.in-None.is c.next.ensures.steps in
    omega (arith, end.1)

pub returns-clause-checks : goal.returns-clause-checks
returns-clause-checks c =
    all-checks (measured c.args.by) c.args.table.now (copies_seen c.args.table.now c.args.copies.now) (length c.args.copies.now.copies.items) c.args.copies.now.signals (values_of c.args.parameters.now) c.args.texts.items (length c.loop-text.yielded) c.loop-text.checks.items (all-yielded c)
    c.loop-text.invariant

pub returns-clause-fits : goal.returns-clause-fits
returns-clause-fits c = c.loop-text.invariant.fits

pub returns-clause-spelled : goal.returns-clause-spelled
returns-clause-spelled c = c.loop-text.invariant.spelled

pub returns-clause-told : goal.returns-clause-told
returns-clause-told c =
    none-left view (check_faults c.args.copies.now.signals (measured c.args.by) c.args.table.now (values_of c.args.parameters.now)) c.args.texts.items (length c.loop-text.yielded) (all-yielded c)
    c.loop-text.invariant.left
