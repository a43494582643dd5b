-- One variable more.
use Rattle.std.proofs.Common.{◌<◌, ◌≤◌, ◌∙◌, ap, map, arith, length}
use Rattle.std.proofs.lemmas.List.{map_push, take_all}
use Rattle.sg_circuit.specs.Seen.{variable_seen}
use Rattle.elab_bits.proofs.InRow.{blank}
use Rattle.elab_model.specs.Scopes.{scope_variable}
use Rattle.elab_scopes.proofs.Steps.{maps-next}
use Rattle.elab_scopes.proofs.variables.variables_in.Goals as goal

pub loop-place-preserved : goal.loop-place-preserved
loop-place-preserved c = λ all source s is.
    let vs = c.args.here.now.prepared.now.table in
    let v = c.in_ok-variable_in.field-0 in
    let lt : c.loop-place.place < length vs = omega (arith, c.loop-place-test.true, c.len-place-end.ensures) in
    maps-next (λ v. variable_seen v) (scope_variable all source s) c.loop-place.list.items c.push.new.self.items (variable_seen v) vs c.loop-place.place blank lt
    (ap (map (λ v. variable_seen v)) c.in_ok-push.ensures.items ∙ map_push (λ v. variable_seen v) c.loop-place.list.items v)
    (c.in_ok-variable_in.ensures all source s is) (c.loop-place.invariant all source s is)

pub returns : goal.returns
returns c = λ all source s is.
    let vs = c.args.here.now.prepared.now.table in
    let le : length vs ≤ c.loop-place.place = omega (arith, c.loop-place-test.false, c.len-place-end.ensures) in
    c.loop-place.invariant all source s is ∙ ap (map (scope_variable all source s)) (take_all c.loop-place.place vs le ∙ is.prepared.table)
