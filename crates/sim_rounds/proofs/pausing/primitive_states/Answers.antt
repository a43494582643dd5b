use Rattle.std.proofs.Common.{◌≡◌, ◌<◌, ◌∙◌, length, sym, ap, map, subst}
use Rattle.std.specs.Prelude.{slice_index_or}
use Rattle.sg_circuit.specs.Seen.{element_seen}
use Rattle.sim_rounds.specs.Moments.{udp_states}
use Rattle.sim_rounds.proofs.PausingLaws.{state_taken, state_passed}
use Rattle.sim_rounds.proofs.pausing.primitive_states.Goals as goal
use Rattle.sim_rounds.proofs.pausing.primitive_states.Goals.{then-is_primitive+in_ok-push, else-is_primitive}

pub loop-number-preserved : goal.loop-number-preserved
loop-number-preserved c =
    let parts = c.args.parts.now in
    let elements = parts.elements.items in
    let i = c.loop-number.number in
    let e = c.element-item.result in
    let whole = udp_states (map (element_seen parts) elements) c.args.states.now in
    let l : i < length elements = subst (λ xs. i < length xs) c.deref-element-items.ensures.value c.loop-number-test.true in
    let is : e ≡ slice_index_or elements i e = c.element-item.is ∙ ap (λ xs. slice_index_or xs i e) c.deref-element-items.ensures.value in
    elim c.if-is_primitive.branch [
      | then-is_primitive+in_ok-push w ↦ state_taken parts elements c.args.states.now c.loop-number.kept.items whole i e _ c.if-is_primitive.kept.items l c.requires is c.loop-number.invariant (sym (c.is_primitive.ensures parts) ∙ w.if-is_primitive.true) (ap (λ v. v.items) w.kept-is ∙ w.in_ok-push.ensures.items)
      | else-is_primitive w ↦ state_passed parts elements c.args.states.now c.loop-number.kept.items whole i e c.if-is_primitive.kept.items l c.requires is c.loop-number.invariant (sym (c.is_primitive.ensures parts) ∙ w.if-is_primitive.false) (ap (λ v. v.items) w.kept-is)
    ]
