-- One variable more.
use Rattle.std.proofs.Common.{◌≡◌, ◌<◌, ◌≤◌, ◌∙◌, ap, subst, length}
use Rattle.std.specs.Prelude.{flat_map}
use Rattle.std.proofs.lemmas.List.{take_all}
use Rattle.elab_model.specs.Drivers.{input_drives}
use Rattle.elab_scopes.specs.Driven.{AreDriven}
use Rattle.elab_scopes.proofs.InputDrives.{inputs-next}
use Rattle.elab_scopes.proofs.PortPlaces.{place-at}
use Rattle.elab_scopes.proofs.inputs.inputs_of.Goals as goal

pub loop-variable-preserved : goal.loop-variable-preserved
loop-variable-preserved c = λ all source s is top.
    let vs = c.args.here.now.prepared.now.table in
    let i = c.loop-variable.variable in
    let long : length c.deref-place-items.result.now ≡ length vs = ap length c.deref-place-items.ensures.value ∙ c.in_ok-places.ensures.same in
    let lt : i < length vs = subst (λ n. i < n) long c.loop-variable-test.true in
    let place = place-at s.step.definition vs c.deref-place-items.result.now i _ lt is.prepared.table
    (c.deref-place-items.ensures.value ∙ c.in_ok-places.ensures.places s.step.definition is.prepared) in
    inputs-next all source s vs i c.loop-variable.made c.add_input.new.made lt (c.in_ok-add_input.ensures all source s is top place) (c.loop-variable.invariant all source s is top)

pub returns : goal.returns
returns c = λ all source s is top.
    let vs = c.args.here.now.prepared.now.table in
    let i = c.loop-variable.variable in
    let long : length c.deref-place-items.result.now ≡ length vs = ap length c.deref-place-items.ensures.value ∙ c.in_ok-places.ensures.same in
    let le : length vs ≤ i = subst (λ n. n ≤ i) long c.loop-variable-test.false in
    subst (λ us. AreDriven all (flat_map (input_drives source s) us) c.loop-variable.made) (take_all i vs le ∙ is.prepared.table) (c.loop-variable.invariant all source s is top)
