use Rattle.std.proofs.Common.{◌≡◌, ◌∙◌, ℕ, List, ap, sym, subst, true, length, map}
use Rattle.std.specs.Vec.{with_items}
use Rattle.std.proofs.lemmas.List.{with_items_is}
use Rattle.sg_logic.specs.declared.values.Value.{Value}
use Rattle.sg_logic.specs.declared.values.Value.TheVariants.{X}
use Rattle.sg_model.specs.Machine as model
use Rattle.sg_model.specs.Values.{value_at}
use Rattle.fan_round.specs.Lists.{at_places}
use Rattle.time_checks.specs.declared.recent.Recent.{Recent}
use Rattle.time_checks.specs.declared.violations.Violation.{Violation}
use Rattle.time_checks.specs.Seen.{violation_seen}
use Rattle.time_checks.specs.AdjustedSeen.{all_seen}
use Rattle.time_checks.specs.Checking.{Kept, Sees, SeesChanges}
use Rattle.time_checks.proofs.CheckingLaws.{sees-first, sees-next}
use Rattle.time_checks.proofs.checker.Checker.see.Goals as goal

pub returns-then-not-self-clause-seen : goal.returns-then-not-self-clause-seen
returns-then-not-self-clause-seen c =
    let kept : Kept = record { checks = all_seen c.self.inside.checks.items; earlier = c.self.inside.earlier.now; seen = c.self.inside.seen; last = c.self.inside.last.items; latest = c.self.inside.latest.items } in
    let next : Kept = record { checks = all_seen c.self.inside.checks.items; earlier = c.self.inside.earlier.now; seen = true; last = c.copy_from_slice.new.self.items; latest = c.self.inside.latest.items } in
    let old : List model.Violation = map (λ (v : Violation). violation_seen v) c.args.violations.now.items in
    let is : kept ≡ c.args.self.now = c.self.view_is in
    subst (λ (k : Kept). Sees k next c.args.now c.args.changed.now c.args.values.now old old) is
    (sees-first kept next c.args.now c.args.changed.now c.args.values.now old c.if-not-self.true (ap (with_last kept) c.copy_from_slice.ensures.items))
  where
    with_last : Kept → List Value → Kept
    with_last k values = record k { seen = true; last = values }

pub returns-clause-seen : goal.returns-clause-seen
returns-clause-seen c =
    let kept : Kept = record { checks = all_seen c.self.inside.checks.items; earlier = c.self.inside.earlier.now; seen = c.self.inside.seen; last = c.self.inside.last.items; latest = c.self.inside.latest.items } in
    let next : Kept = record { checks = all_seen c.self.inside.checks.items; earlier = c.self.inside.earlier.now; seen = c.self.inside.seen; last = (with_items c.self.inside.last c.follow.new.last).items; latest = (with_items c.self.inside.latest c.see_changes.new.latest).items } in
    let changed : List ℕ = c.args.changed.now in
    let values : List Value = c.args.values.now in
    let old : List model.Violation = map (λ (v : Violation). violation_seen v) c.args.violations.now.items in
    let new : List model.Violation = map (λ (v : Violation). violation_seen v) c.see_changes.new.violations.items in
    let is : kept ≡ c.args.self.now = c.self.view_is in
    let many : length kept.last ≡ length values = ap (λ (k : Kept). length k.last) is ∙ sym c.requires.as_many in
    let last : next.last ≡ at_places (λ net before. value_at values net) X changed kept.last =
    with_items_is c.self.inside.last c.follow.new.last (c.follow.auto.last ∙ c.deref_mut-2.ensures.len) ∙ (c.follow.ensures ∙ ap (λ vs. at_places (λ net before. value_at values net) X changed vs) c.deref_mut-2.ensures.value) in
    let latest : next.latest ≡ c.see_changes.new.latest = with_items_is c.self.inside.latest c.see_changes.new.latest (c.see_changes.auto.latest ∙ c.deref_mut.ensures.len) in
    let made : SeesChanges kept.checks changed kept.last values c.args.now kept.latest c.see_changes.new.latest old new =
    subst (λ ls. SeesChanges kept.checks changed kept.last values c.args.now ls c.see_changes.new.latest old new) c.deref_mut.ensures.value
    (subst (λ vs. SeesChanges kept.checks changed vs values c.args.now c.deref_mut.result.now c.see_changes.new.latest old new) c.deref-3.ensures.value
    (subst (λ cs. SeesChanges (all_seen cs) changed c.deref-3.result.now values c.args.now c.deref_mut.result.now c.see_changes.new.latest old new) c.deref.ensures.value c.in_ok-see_changes.ensures.seen)) in
    subst (λ (k : Kept). Sees k next c.args.now changed values old new) is
    (sees-next kept next c.args.now changed values c.see_changes.new.latest old new c.if-not-self.false c.self.invariant.0.each_check many
    (ap (λ vs. with_both kept vs next.latest) last ∙ ap (with_both kept (at_places (λ net before. value_at values net) X changed kept.last)) latest) made)
  where
    with_both : Kept → List Value → List Recent → Kept
    with_both k values latest = record k { last = values; latest = latest }
