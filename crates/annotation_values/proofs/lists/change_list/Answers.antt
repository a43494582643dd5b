-- One value more, or one that is too large.
use Rattle.std.specs.Prelude.{None}
use Rattle.std.proofs.Common.{◌≡◌, ◌<◌, ap, length, map, rules, slice_index_or, slice_set, subst, sym, true, false, ◌∙◌}
use Rattle.std.proofs.lemmas.List.{length-map}
use Rattle.std.proofs.lemmas.Result.{err_from_is_err_and}
use Rattle.sdf_tree.specs.declared.tree.DelayValue.{DelayValue}
use Rattle.sdf_meaning.specs.MeantSeen.{view_delay_value}
use Rattle.sg_circuit.specs.Timings.{Timing}
use Rattle.sg_circuit.specs.TimingsSeen.{timings_of}
use Rattle.annotation_model.specs.Applied as def
use Rattle.annotation_model.proofs.EntryLaws.{at-map}
use Rattle.annotation_values.specs.Seen.{grid_seen}
use Rattle.annotation_values.proofs.ListSteps.{changed_more, small_more, large_here, length_timings}
use Rattle.annotation_values.proofs.lists.change_list.Goals as goal

pub returns-in_err-change_at-clause-told : goal.returns-in_err-change_at-clause-told
returns-in_err-change_at-clause-told c =
    let F = (λ (v : DelayValue). def.change_of (grid_seen c.args.grid) (view_delay_value v)) in
    let cs = map F c.args.values.now in
    let old = timings_of c.args.delays.now c.args.limits.now in
    let now = timings_of c.loop-i.delays c.loop-i.limits in
    let x = c.index-values-i.result in
    let i = c.loop-i.i in
    let t : Timing = record { delay = 0; limits = None } in
    let within : i < length c.args.values.now = search rules in
    let in_cs : i < length cs = subst (λ n. i < n) (sym (length-map c.args.values.now F)) within in
    rw (err_from_is_err_and c.from_residual.result c.from_residual.ensures.1).1
    (large_here c.args.increment cs old now i (F x) t in_cs (length_timings c.args.delays.now c.args.limits.now i (search rules) (search rules)) c.loop-i.invariant.changed c.loop-i.invariant.small
    (subst (λ h. def.is_change_large c.args.increment h (slice_index_or now i t) ≡ true) (ap F c.index-values-i.is ∙ sym (at-map F c.args.values.now i x)) (c.in_err-change_at.ensures.told t)))

pub loop-i-preserved : goal.loop-i-preserved
loop-i-preserved c =
    let F = (λ (v : DelayValue). def.change_of (grid_seen c.args.grid) (view_delay_value v)) in
    let cs = map F c.args.values.now in
    let old = timings_of c.args.delays.now c.args.limits.now in
    let now = timings_of c.loop-i.delays c.loop-i.limits in
    let new = timings_of c.change_at.new.delays c.change_at.new.limits in
    let x = c.index-values-i.result in
    let i = c.loop-i.i in
    let t : Timing = record { delay = 0; limits = None } in
    let within : i < length c.args.values.now = search rules in
    let in_cs : i < length cs = subst (λ n. i < n) (sym (length-map c.args.values.now F)) within in
    record {
      changed = changed_more c.args.increment cs old now new i (F x) in_cs (length_timings c.args.delays.now c.args.limits.now i (search rules) (search rules)) c.loop-i.invariant.changed
          (λ u. subst (λ h. new ≡ slice_set now i (def.changed c.args.increment h (slice_index_or now i u)))
          (ap F c.index-values-i.is ∙ sym (at-map F c.args.values.now i x)) (c.in_ok-change_at.ensures.changed u)) t;
      small = small_more c.args.increment cs old now i (F x) t in_cs (length_timings c.args.delays.now c.args.limits.now i (search rules) (search rules)) c.loop-i.invariant.changed c.loop-i.invariant.small
          (subst (λ h. def.is_change_large c.args.increment h (slice_index_or now i t) ≡ false) (ap F c.index-values-i.is ∙ sym (at-map F c.args.values.now i x)) (c.in_ok-change_at.ensures.fine t));
    }
