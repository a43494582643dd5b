-- The circuit's own values.
use Rattle.std.proofs.Common.{◌≡◌, ◌∙◌, None, ap, map, refl, replicate}
use Rattle.sdf_meaning.specs.MeantSeen.{view_sdf}
use Rattle.sg_circuit.specs.declared.checks.CheckTiming.{CheckTiming}
use Rattle.annotation_model.specs.Spots.{spots}
use Rattle.std.specs.Prelude.{length}
use Rattle.sdf_annotate.specs.Seen.{circuit_of}
use Rattle.sdf_annotate.specs.Told.{told_seen}
use Rattle.sdf_annotate.specs.declared.values.NewValues.{NewValues}
use Rattle.sdf_annotate.proofs.WholeSteps.{values-sized}
use Rattle.sdf_annotate.proofs.streamed.new_annotator.Goals as goal

pub returns : goal.returns
returns c =
    let task = c.args.task in
    let circuit = circuit_of task in
    let old : NewValues = record { timings = c.in_ok-timings.timings; limits = c.in_ok-limits.limits; unmatched = c.new-unmatched.result } in
    let none : old.timings.items ≡ replicate (length (spots circuit)) None = c.in_ok-timings.ensures ∙ ap (λ n. replicate n None) (c.len.ensures ∙ (task.places.now.spots.ok.0 ∙ c.requires.places.rows.count)) in
    let limits : old.limits.items ≡ map (λ (t : CheckTiming). t.limits) circuit.check_timings = c.in_ok-limits.ensures ∙ ap (map (λ (t : CheckTiming). t.limits)) c.deref.ensures.value in
    record {
      is = refl;
      annotator = record { places = c.requires.places; signals = c.requires.signals; sized = values-sized circuit (view_sdf task.sdf.now) task.corner c.requires.places.closed old none limits; ready = c.in_ok-search.ensures };
      timings = none;
      limits = limits;
      none = ap told_seen c.new-unmatched.ensures.items;
    }
