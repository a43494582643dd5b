use Rattle.std.specs.Prelude.{◌≡◌, ℕ, ◌+◌, ◌≤◌, drop, length}
use Rattle.std.proofs.Common.{sym, ◌∙◌, ap, subst, arith}
use Rattle.sg_stimulus.specs.Seen.{stimulus_seen}
use Rattle.sg_stimulus.specs.Stimulus.{sets_at}
use Rattle.sim_times.proofs.StepLaws.{first_from, rising, sets_between, sets_first, sets_left}
use Rattle.sim_times.proofs.steps.next_step.Goals as goal

pub steps_behind-rest-requires : goal.steps_behind-rest-requires
steps_behind-rest-requires c = subst (λ xs. c.steps_before-from.result ≤ length xs) (sym c.deref.ensures.value) c.steps_before-from.ensures.within

pub returns-in-Some-clause-later : goal.returns-in-Some-clause-later
returns-in-Some-clause-later c =
    let steps = c.args.stimulus.now.steps.items in
    let n : ℕ = c.steps_before-from.result in
    let cut : c.steps_behind-rest.result.now ≡ drop n steps = c.steps_behind-rest.ensures ∙ ap (drop n) c.deref.ensures.value in
    let from : c.args.now + 1 ≤ c.in-Some.time = first_from steps c.steps_behind-rest.result.now (c.args.now + 1) n c.in-Some.time cut c.steps_before-from.ensures c.in-Some.ensures.some in
    omega (arith, from, c.min.ensures, c.requires.now)

pub returns-in-Some-clause-quiet : goal.returns-in-Some-clause-quiet
returns-in-Some-clause-quiet c =
    let steps = c.args.stimulus.now.steps.items in
    let n : ℕ = c.steps_before-from.result in
    let cut : c.steps_behind-rest.result.now ≡ drop n steps = c.steps_behind-rest.ensures ∙ ap (drop n) c.deref.ensures.value in
    λ t lo hi. sets_between steps c.steps_behind-rest.result.now (c.args.now + 1) n t c.in-Some.time cut (rising steps c.requires.rising) c.steps_before-from.ensures c.in-Some.ensures.some (omega arith) (omega (arith, hi, c.min.ensures))

pub returns-in-Some-clause-set : goal.returns-in-Some-clause-set
returns-in-Some-clause-set c =
    let steps = c.args.stimulus.now.steps.items in
    let n : ℕ = c.steps_before-from.result in
    let cut : c.steps_behind-rest.result.now ≡ drop n steps = c.steps_behind-rest.ensures ∙ ap (drop n) c.deref.ensures.value in
    λ l none.
    (let is : c.min.result ≡ c.in-Some.time = omega (arith, l, c.min.ensures) in
    sets_first steps c.steps_behind-rest.result.now n c.in-Some.time cut (rising steps c.requires.rising) c.in-Some.ensures.some (ap (sets_at (stimulus_seen c.args.stimulus.now).steps) (sym is) ∙ none))

pub returns-in-None-clause-set : goal.returns-in-None-clause-set
returns-in-None-clause-set c = λ l none. absurd (omega (arith, l))

pub returns-in-None-clause-quiet : goal.returns-in-None-clause-quiet
returns-in-None-clause-quiet c =
    let steps = c.args.stimulus.now.steps.items in
    let n : ℕ = c.steps_before-from.result in
    let cut : c.steps_behind-rest.result.now ≡ drop n steps = c.steps_behind-rest.ensures ∙ ap (drop n) c.deref.ensures.value in
    λ t lo hi. sets_left steps c.steps_behind-rest.result.now (c.args.now + 1) n t cut c.steps_before-from.ensures c.in-None.ensures.none (omega arith)
