use Rattle.std.proofs.Common.{◌<◌, length, slice_set, sym, ◌∙◌, subst, arith}
use Rattle.fan_round.specs.Nets.{AreChanged}
use Rattle.fan_round.proofs.NetLaws.{step_more, step_again, step_back}
use Rattle.fan_round.proofs.nets.set_value.Goals as goal

pub add-requires : goal.add-requires
add-requires c =
    let r = c.requires in
    let step = step_more _ _ _ c.args.net c.args.value _ r.changed r.net (sym c.same.ensures ∙ c.if-same.true) (sym c.same-then-same.ensures ∙ c.if-not-same.true) in
    let m : length c.args.changed.now.items < length c.args.before.now = step.1 in
    let many = r.changed.as_many in
    omega arith

pub returns-then-not-same-clause-changed : goal.returns-then-not-same-clause-changed
returns-then-not-same-clause-changed c =
    let r = c.requires in
    let step = step_more _ _ _ c.args.net c.args.value _ r.changed r.net (sym c.same.ensures ∙ c.if-same.true) (sym c.same-then-same.ensures ∙ c.if-not-same.true) in
    subst (λ xs. AreChanged c.args.before.now (slice_set c.args.values.now c.args.net c.args.value) xs) (sym c.add.ensures.items) step.0

pub returns-then-same-2-clause-changed : goal.returns-then-same-2-clause-changed
returns-then-same-2-clause-changed c =
    let r = c.requires in
    subst (λ xs. AreChanged c.args.before.now (slice_set c.args.values.now c.args.net c.args.value) xs) (sym c.remove.ensures.items)
    (step_back _ _ _ c.args.net c.args.value _ r.changed r.net (sym c.same.ensures ∙ c.if-same.false) (sym c.same-else-same.ensures ∙ c.if-same-2.true))

pub returns-else-same-2-clause-changed : goal.returns-else-same-2-clause-changed
returns-else-same-2-clause-changed c =
    let r = c.requires in
    step_again _ _ _ c.args.net c.args.value _ r.changed r.net (sym c.same.ensures ∙ c.if-same.false) (sym c.same-else-same.ensures ∙ c.if-same-2.false)
