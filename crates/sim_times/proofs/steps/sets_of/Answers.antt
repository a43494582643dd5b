use Rattle.std.specs.Prelude.{◌≡◌, ℕ, ◌<◌, ◌≤◌, length, map, slice_index_or}
use Rattle.std.proofs.Common.{sym, ◌∙◌, ap, subst, arith}
use Rattle.std.proofs.lemmas.Bool.Decides.{nat_tests}
use Rattle.sg_stimulus.specs.declared.steps.StimStep.{StimStep}
use Rattle.sg_stimulus.specs.Seen.{set_seen}
use Rattle.sim_times.proofs.StepLaws.{Rising, rising, sets_found, sets_later, sets_none}
use Rattle.sim_times.proofs.steps.sets_of.Goals as goal
use Rattle.sim_times.proofs.steps.sets_of.Goals.{in_default-via-in-Some+else-step-now, in_default-via-in_default}

pub returns-in-Some : goal.returns-in-Some
returns-in-Some c =
    let steps = c.args.stimulus.now.steps.items in
    let n : ℕ = c.steps_before.result in
    let step : StimStep = c.in-Some.step.now in
    let r : Rising steps = rising steps c.requires in
    let l : n < length steps = subst (λ xs. n < length xs) c.deref.ensures.value c.in-Some.ensures.lookup.3.0 in
    let is : slice_index_or steps n step ≡ step = subst (λ xs. slice_index_or xs n step ≡ step) c.deref.ensures.value (sym (c.in-Some.ensures.lookup.3.1 step)) in
    ap (λ cs. map (λ x. set_seen x) cs) c.deref-in-Some.ensures.value ∙ sets_found steps c.args.now n step r l is c.if-step-now.true

pub returns-in_default : goal.returns-in_default
returns-in_default c =
    let steps = c.args.stimulus.now.steps.items in
    let n : ℕ = c.steps_before.result in
    let r : Rising steps = rising steps c.requires in
    elim c.in_default.branch [
      | in_default-via-in-Some+else-step-now w ↦ (let step : StimStep = w.in-Some.step.now in
          let l : n < length steps = subst (λ xs. n < length xs) c.deref.ensures.value w.in-Some.ensures.lookup.3.0 in
          let is : slice_index_or steps n step ≡ step = subst (λ xs. slice_index_or xs n step ≡ step) c.deref.ensures.value (sym (w.in-Some.ensures.lookup.3.1 step)) in
          let from : c.args.now ≤ step.time = subst (λ s. c.args.now ≤ s.time) is (c.steps_before.ensures.others n step (omega arith) l) in
          let other = w.if-step-now.false in
          let later : c.args.now < step.time = omega (arith, other) in
          sym (sets_later steps c.args.now n c.args.now step r c.steps_before.ensures l is (omega arith) later))
      | in_default-via-in_default w ↦ (let out = w.in_default.ensures.lookup.0 in
          let far : length c.deref.result.now ≤ n = grind (arith, nat_tests, out) in
          let l : length steps ≤ n = subst (λ xs. length xs ≤ n) c.deref.ensures.value far in
          sym (sets_none steps c.args.now n c.args.now c.steps_before.ensures l (omega arith)))
    ]
