use Rattle.std.specs.Prelude.{IfSome, All, false, length, map, replicate}
use Rattle.std.specs.Vec.{with_items}
use Rattle.std.proofs.Common.{◌≡◌, ◌<◌, ◌∙◌, ap, sym, subst, arith}
use Rattle.std.proofs.lemmas.List.{length-replicate, with_items_is}
use Rattle.std.proofs.lemmas.Result.{on_ok_weaker}
use Rattle.sg_model.specs.Time.{toggles as toggles_of}
use Rattle.fan_round.proofs.WorkLaws.{marked-start}
use Rattle.fan_round.specs.Work.{AreMarked}
use Rattle.time_checks.specs.Seen.{violation_seen}
use Rattle.sim_machine.specs.Notifiers.{notifiers_of}
use Rattle.sim_rounds.proofs.NotifierLaws.{named_within}
use Rattle.sim_rounds.proofs.circuit_checks.toggle_notifiers.Goals as goal

pub sort_notifiers-requires-clause-notifiers : goal.sort_notifiers-requires-clause-notifiers
sort_notifiers-requires-clause-notifiers c =
    let n = length c.args.values.now in
    let many : length c.deref_mut.result.now ≡ n = ap length (c.deref_mut.ensures.value ∙ c.requires.idle.marks) ∙ length-replicate n false in
    subst (λ x. All (λ k. IfSome k.notifier (λ m. m < x)) c.args.checks.now) (sym many) c.requires.notifiers

pub sort_notifiers-requires-clause-room : goal.sort_notifiers-requires-clause-room
sort_notifiers-requires-clause-room c =
    let n = length c.args.values.now in
    let many : length c.deref_mut.result.now ≡ n = ap length (c.deref_mut.ensures.value ∙ c.requires.idle.marks) ∙ length-replicate n false in
    omega (arith, c.requires.idle.room)

pub sort_notifiers-requires-clause-none : goal.sort_notifiers-requires-clause-none
sort_notifiers-requires-clause-none c =
    let n = length c.args.values.now in
    let many : length c.deref_mut.result.now ≡ n = ap length (c.deref_mut.ensures.value ∙ c.requires.idle.marks) ∙ length-replicate n false in
    (c.deref_mut.ensures.value ∙ c.requires.idle.marks) ∙ ap (λ x. replicate x false) (sym many)

pub sort_notifiers-requires-clause-marked : goal.sort_notifiers-requires-clause-marked
sort_notifiers-requires-clause-marked c = marked-start c.deref_mut.result.now c.args.named.now.list.items (length c.args.values.now) (c.deref_mut.ensures.value ∙ c.requires.idle.marks) c.requires.idle.list

pub add_toggles-handed-requires-clause-nets : goal.add_toggles-handed-requires-clause-nets
add_toggles-handed-requires-clause-nets c =
    let n = length c.args.values.now in
    let many : length c.deref_mut.result.now ≡ n = ap length (c.deref_mut.ensures.value ∙ c.requires.idle.marks) ∙ length-replicate n false in
    named_within c.args.checks.now n (map (λ v. violation_seen v) c.args.violations.now) c.deref.result.now c.requires.notifiers
    (c.deref.ensures.value ∙ (c.sort_notifiers.ensures.list ∙ ap (λ x. notifiers_of c.args.checks.now x (map (λ v. violation_seen v) c.args.violations.now)) many))

pub clear_work-requires : goal.clear_work-requires
clear_work-requires c =
    subst (λ ms. AreMarked ms c.sort_notifiers.new.list.items) (sym (c.deref_mut-2.ensures.value ∙ with_items_is c.args.named.now.marks c.sort_notifiers.new.marks (c.sort_notifiers.auto.marks ∙ c.deref_mut.ensures.len)))
    c.sort_notifiers.ensures.marked

pub returns-clause-toggles : goal.returns-clause-toggles
returns-clause-toggles c =
    let n = length c.args.values.now in
    let many : length c.deref_mut.result.now ≡ n = ap length (c.deref_mut.ensures.value ∙ c.requires.idle.marks) ∙ length-replicate n false in
    on_ok_weaker c.add_toggles-handed.result
    (λ handed. handed ∙ ap (λ ns. toggles_of ns c.args.values.now) (c.deref.ensures.value ∙ (c.sort_notifiers.ensures.list ∙ ap (λ x. notifiers_of c.args.checks.now x (map (λ v. violation_seen v) c.args.violations.now)) many)))
    c.add_toggles-handed.ensures

pub returns-clause-idle : goal.returns-clause-idle
returns-clause-idle c =
    let n = length c.args.values.now in
    let many : length c.deref_mut.result.now ≡ n = ap length (c.deref_mut.ensures.value ∙ c.requires.idle.marks) ∙ length-replicate n false in
    let first : length c.sort_notifiers.new.marks ≡ length c.deref_mut.result.now = c.sort_notifiers.auto.marks in
    let second : length c.deref_mut-2.result.now ≡ n = ap length c.deref_mut-2.ensures.value ∙ (ap length (with_items_is c.args.named.now.marks c.sort_notifiers.new.marks (c.sort_notifiers.auto.marks ∙ c.deref_mut.ensures.len)) ∙ (first ∙ many)) in
    record {
      marks = with_items_is (with_items c.args.named.now.marks c.sort_notifiers.new.marks) c.clear_work.new.marks (c.clear_work.auto.marks ∙ c.deref_mut-2.ensures.len) ∙ (c.clear_work.ensures.marks ∙ ap (λ m. replicate m false) second);
      list = c.clear_work.ensures.work;
      room = omega (arith, c.requires.idle.room, c.sort_notifiers.ensures.capacity, c.clear_work.ensures.capacity);
    }
