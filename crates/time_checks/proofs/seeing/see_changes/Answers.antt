use Rattle.std.proofs.Common.{◌≡◌, ◌∙◌, All, ap, sym, subst, arith, length, map, false, replicate}
use Rattle.std.proofs.lemmas.List.{length-map, length-replicate, with_items_is}
use Rattle.sg_circuit.proofs.SeenLaws.{all-unmapped}
use Rattle.time_checks.specs.Adjusted.{AdjustedCheck}
use Rattle.time_checks.specs.AdjustedSeen.{adjusted_seen, all_seen}
use Rattle.fan_round.specs.States.{IsIdle}
use Rattle.fan_round.specs.Work.{with_readers}
use Rattle.fan_round.proofs.WorkLaws.{length-with_readers}
use Rattle.fan_round.proofs.WorkIsExact.{are_readers}
use Rattle.time_checks.specs.declared.violations.Violation.{Violation}
use Rattle.time_checks.specs.Seen.{violation_seen}
use Rattle.time_checks.specs.Watching.{taken_fan, watch_by}
use Rattle.time_checks.specs.Within.{terminals, IsCheckWithin}
use Rattle.time_checks.proofs.TouchLaws.{listed-within}
use Rattle.time_checks.proofs.SeeingLaws.{sees_changes_ok}
use Rattle.time_checks.proofs.seeing.see_changes.Goals as goal

pub list_touched-requires-clause-readers : goal.list_touched-requires-clause-readers
list_touched-requires-clause-readers c =
    are_readers (map (λ (k : AdjustedCheck). terminals k) (all_seen c.args.checks.now)) c.args.index.now (length c.args.watches.now) c.requires.ready.indexed
    (length-map (all_seen c.args.checks.now) (λ (k : AdjustedCheck). terminals k) ∙ sym (ap length c.requires.watches ∙ length-map (all_seen c.args.checks.now) (λ (k : AdjustedCheck). watch_by k)))

pub list_touched-requires-clause-idle : goal.list_touched-requires-clause-idle
list_touched-requires-clause-idle c =
    subst (λ n. IsIdle c.args.work.now n) (sym (ap length c.requires.watches ∙ length-map (all_seen c.args.checks.now) (λ (k : AdjustedCheck). watch_by k))) c.requires.ready.idle

pub see_checks-seen-requires-clause-work : goal.see_checks-seen-requires-clause-work
see_checks-seen-requires-clause-work c =
    let fan = taken_fan c.args.watches.now c.args.last.now c.args.values.now c.args.index.now in
    let watches : length c.args.watches.now ≡ length c.args.checks.now = ap length c.requires.watches ∙ (length-map (all_seen c.args.checks.now) (λ (k : AdjustedCheck). watch_by k) ∙ length-map c.args.checks.now adjusted_seen) in
    listed-within c.list_touched.new.work.marks.items c.list_touched.new.work.list.items c.deref.result.now (length c.args.checks.now) c.list_touched.ensures.marked
    (ap length c.list_touched.ensures.marks ∙ (length-with_readers fan c.args.changed.now (replicate (length c.args.watches.now) false) ∙ (length-replicate (length c.args.watches.now) false ∙ watches))) c.deref.ensures.value

pub returns-clause-idle : goal.returns-clause-idle
returns-clause-idle c =
    let n = length c.args.checks.now in
    let fan = taken_fan c.args.watches.now c.args.last.now c.args.values.now c.args.index.now in
    let watches : length c.args.watches.now ≡ n = ap length c.requires.watches ∙ (length-map (all_seen c.args.checks.now) (λ (k : AdjustedCheck). watch_by k) ∙ length-map c.args.checks.now adjusted_seen) in
    let many : length c.deref_mut.result.now ≡ n =
    ap length c.deref_mut.ensures.value ∙ (ap length c.list_touched.ensures.marks ∙ (length-with_readers fan c.args.changed.now (replicate (length c.args.watches.now) false) ∙ (length-replicate (length c.args.watches.now) false ∙ watches))) in
    record {
      marks = with_items_is c.list_touched.new.work.marks c.clear_work.new.marks (c.clear_work.auto.marks ∙ c.deref_mut.ensures.len) ∙ (c.clear_work.ensures.marks ∙ ap (λ m. replicate m false) many);
      list = c.clear_work.ensures.work;
      room = omega (arith, length-map c.args.checks.now adjusted_seen, c.requires.ready.idle.room, c.list_touched.ensures.capacity, c.clear_work.ensures.capacity);
    }

pub returns-clause-seen : goal.returns-clause-seen
returns-clause-seen c =
    let fan = taken_fan c.args.watches.now c.args.last.now c.args.values.now c.args.index.now in
    sees_changes_ok c.see_checks-seen.result (all_seen c.args.checks.now) c.args.watches.now c.args.index.now c.args.changed.now c.args.last.now c.args.values.now c.args.time c.args.latest.now c.see_checks-seen.new.latest
    (map (λ (v : Violation). violation_seen v) c.args.violations.now.items) (map (λ (v : Violation). violation_seen v) c.see_checks-seen.new.violations.items)
    c.list_touched.new.work.marks.items c.list_touched.new.work.list.items c.deref.result.now c.requires.watches c.requires.ready.indexed
    (subst (λ n. All (λ (k : AdjustedCheck). IsCheckWithin k n) (all_seen c.args.checks.now)) (sym c.requires.ready.each_net) c.requires.ready.within) c.requires.ready.each_check
    (c.list_touched.ensures.marks ∙ ap (λ n. with_readers fan c.args.changed.now (replicate n false)) (ap length c.requires.watches ∙ length-map (all_seen c.args.checks.now) (λ (k : AdjustedCheck). watch_by k)))
    c.list_touched.ensures.marked c.list_touched.ensures.sorted c.deref.ensures.value c.see_checks-seen.ensures.latest c.see_checks-seen.ensures.found

pub see_checks-seen-requires-clause-within : goal.see_checks-seen-requires-clause-within
see_checks-seen-requires-clause-within c = all-unmapped (λ (k : AdjustedCheck). IsCheckWithin k (length c.args.values.now)) adjusted_seen c.args.checks.now c.requires.ready.within
