-- One more specify path is there, or its fault is told.
use Rattle.std.specs.Prelude.{◌∷◌, ◌++◌, [], flat_map, length, map}
use Rattle.std.proofs.Common.{arith}
use Rattle.std.proofs.lemmas.Iterator.Adapters.{YieldsList-from_vec}
use Rattle.std.proofs.lemmas.Iterator.Consumers.{YieldsList-turn}
use Rattle.std.proofs.lemmas.List.{length_push}
use Rattle.std.proofs.lemmas.Result.{err_from_is_err_and}
use Rattle.specify_model.specs.Faults.{path_faults}
use Rattle.specify_values.specs.Seen.{limits_seen, measured, values_of}
use Rattle.specify_values.proofs.InTurn.{exit}
use Rattle.specify_paths.proofs.InOrder.{ends-told, path-faultless, statement-told}
use Rattle.specify_paths.proofs.InTurns.{next-refused, next-so_far, view}
use Rattle.specify_paths.proofs.outputs.all_paths.Goals as goal

pub returns-in_err-ends-clause-told : goal.returns-in_err-ends-clause-told
returns-in_err-ends-clause-told c =
    let by = measured c.args.by in
    let vs = c.args.table.now in
    let values = values_of c.args.parameters.now in
    let xs = c.args.paths.items in
    let x = c.in-Some.path in
    let r = c.in_err-ends.field-0.0 in
    let gives = c.into_iter-path-iterator.ensures.into_iter_gives in
    let turn = YieldsList-turn (YieldsList-from_vec xs gives.0 (omega (arith, gives.1, c.args.paths.ok.0))) c.loop-path.yielded c.loop-path.path-iterator c.loop-path.yielded_by c.next.result c.next.new.self x c.in-Some.is c.next.ensures.steps in
    exit c.from_residual.result (flat_map (path_faults by vs values) (map view xs)) r (err_from_is_err_and c.from_residual.result c.from_residual.ensures.1)
    (next-refused by vs values (limits_seen c.args.limits.now) xs (length c.loop-path.yielded) x c.loop-path.statements.items c.loop-path.list.items r c.loop-path.invariant turn.0 turn.1
    (ends-told by vs values (view x) r c.in_err-ends.ensures.told))

pub returns-in_err-statement-clause-told : goal.returns-in_err-statement-clause-told
returns-in_err-statement-clause-told c =
    let by = measured c.args.by in
    let vs = c.args.table.now in
    let values = values_of c.args.parameters.now in
    let xs = c.args.paths.items in
    let x = c.in-Some.path in
    let r = c.in_err-statement.field-0.0 in
    let gives = c.into_iter-path-iterator.ensures.into_iter_gives in
    let turn = YieldsList-turn (YieldsList-from_vec xs gives.0 (omega (arith, gives.1, c.args.paths.ok.0))) c.loop-path.yielded c.loop-path.path-iterator c.loop-path.yielded_by c.next.result c.next.new.self x c.in-Some.is c.next.ensures.steps in
    exit c.from_residual-in_err-statement.result (flat_map (path_faults by vs values) (map view xs)) r
    (err_from_is_err_and c.from_residual-in_err-statement.result c.from_residual-in_err-statement.ensures.1)
    (next-refused by vs values (limits_seen c.args.limits.now) xs (length c.loop-path.yielded) x c.loop-path.statements.items c.loop-path.list.items r c.loop-path.invariant turn.0 turn.1
    (statement-told by vs values (view x) r c.in_err-statement.ensures.told))

pub loop-path-preserved : goal.loop-path-preserved
loop-path-preserved c =
    let by = measured c.args.by in
    let vs = c.args.table.now in
    let values = values_of c.args.parameters.now in
    let xs = c.args.paths.items in
    let x = c.in-Some.path in
    let done = c.loop-path.yielded in
    let gives = c.into_iter-path-iterator.ensures.into_iter_gives in
    let turn = YieldsList-turn (YieldsList-from_vec xs gives.0 (omega (arith, gives.1, c.args.paths.ok.0))) done c.loop-path.path-iterator c.loop-path.yielded_by c.next.result c.next.new.self x c.in-Some.is c.next.ensures.steps in
    next-so_far by vs values (limits_seen c.args.limits.now) xs (length done) (length (done ++ x ∷ [])) c.len.result x c.in_ok-ends.ends c.in_ok-statement.statement c.loop-path.statements.items c.push.new.self.items
    c.loop-path.list.items c.add_paths.new.list.items (omega (arith, length_push done x)) c.loop-path.invariant turn.0 turn.1 (omega (arith, c.len.ensures, c.loop-path.statements.ok.0))
    c.in_ok-ends.ensures.ends c.in_ok-statement.ensures.said c.in_ok-statement.ensures.spelled (c.in_ok-add_paths.ensures.paths _) c.in_ok-add_paths.ensures.row c.in_ok-push.ensures.items
    (path-faultless by vs values (view x) c.in_ok-ends.ensures.told c.in_ok-statement.ensures.told)
