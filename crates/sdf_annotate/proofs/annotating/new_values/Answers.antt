-- From the circuit's own values through all cells.
use Rattle.std.proofs.Common.{◌≡◌, ◌∙◌, None, ap, length, map, replicate}
use Rattle.std.proofs.lemmas.Result.{err_from_is_err_and}
use Rattle.sg_circuit.specs.declared.checks.CheckTiming.{CheckTiming}
use Rattle.sdf_meaning.specs.MeantSeen.{view_meant_cell, view_sdf}
use Rattle.annotation_model.specs.Spots.{spots}
use Rattle.sdf_annotate.specs.Seen.{circuit_of}
use Rattle.sdf_annotate.specs.Told.{IsTooLargeAt, told_seen}
use Rattle.sdf_annotate.specs.declared.values.NewValues.{NewValues}
use Rattle.sdf_annotate.proofs.EntrySteps.{exit_by}
use Rattle.sdf_annotate.proofs.WholeSteps.{values-after, values-sized, values-told}
use Rattle.sdf_annotate.proofs.annotating.new_values.Goals as goal

pub annotate_cells-requires-clause-sized : goal.annotate_cells-requires-clause-sized
annotate_cells-requires-clause-sized c =
    let circuit = circuit_of c.args.task.now in
    let sdf = view_sdf c.args.task.now.sdf.now in
    let corner = c.args.task.now.corner in
    let old : NewValues = record { timings = c.in_ok-no_timings.field-0; limits = c.in_ok-limits_of.field-0; unmatched = c.new-2.result } in
    let none : old.timings.items ≡ replicate (length (spots circuit)) None = c.in_ok-no_timings.ensures ∙ ap (λ n. replicate n None) (c.len.ensures ∙ (c.args.task.now.places.now.spots.ok.0 ∙ c.requires.places.rows.count)) in
    let limits : old.limits.items ≡ map (λ (t : CheckTiming). t.limits) circuit.check_timings = c.in_ok-limits_of.ensures ∙ ap (map (λ (t : CheckTiming). t.limits)) c.deref.ensures.value in
    values-sized circuit sdf corner c.requires.places.closed old none limits

pub returns-in_err-annotate_cells-clause-told : goal.returns-in_err-annotate_cells-clause-told
returns-in_err-annotate_cells-clause-told c =
    let circuit = circuit_of c.args.task.now in
    let sdf = view_sdf c.args.task.now.sdf.now in
    let corner = c.args.task.now.corner in
    let old : NewValues = record { timings = c.in_ok-no_timings.field-0; limits = c.in_ok-limits_of.field-0; unmatched = c.new-2.result } in
    let none : old.timings.items ≡ replicate (length (spots circuit)) None = c.in_ok-no_timings.ensures ∙ ap (λ n. replicate n None) (c.len.ensures ∙ (c.args.task.now.places.now.spots.ok.0 ∙ c.requires.places.rows.count)) in
    let limits : old.limits.items ≡ map (λ (t : CheckTiming). t.limits) circuit.check_timings = c.in_ok-limits_of.ensures ∙ ap (map (λ (t : CheckTiming). t.limits)) c.deref.ensures.value in
    exit_by (IsTooLargeAt circuit sdf corner) c.from_residual-in_err-annotate_cells.result c.in_err-annotate_cells.field-0.0
    (err_from_is_err_and c.from_residual-in_err-annotate_cells.result c.from_residual-in_err-annotate_cells.ensures.1)
    (values-told circuit sdf corner c.requires.places.closed old none limits c.deref-2.result.now (ap (map view_meant_cell) c.deref-2.ensures.value) c.in_err-annotate_cells.field-0.0 c.in_err-annotate_cells.ensures.stopped)

pub returns-clause-after : goal.returns-clause-after
returns-clause-after c =
    let circuit = circuit_of c.args.task.now in
    let sdf = view_sdf c.args.task.now.sdf.now in
    let corner = c.args.task.now.corner in
    let old : NewValues = record { timings = c.in_ok-no_timings.field-0; limits = c.in_ok-limits_of.field-0; unmatched = c.new-2.result } in
    let none : old.timings.items ≡ replicate (length (spots circuit)) None = c.in_ok-no_timings.ensures ∙ ap (λ n. replicate n None) (c.len.ensures ∙ (c.args.task.now.places.now.spots.ok.0 ∙ c.requires.places.rows.count)) in
    let limits : old.limits.items ≡ map (λ (t : CheckTiming). t.limits) circuit.check_timings = c.in_ok-limits_of.ensures ∙ ap (map (λ (t : CheckTiming). t.limits)) c.deref.ensures.value in
    values-after circuit sdf corner c.requires.places.closed old none limits c.deref-2.result.now (ap (map view_meant_cell) c.deref-2.ensures.value) c.annotate_cells.new.values (ap told_seen c.new-2.ensures.items)
    c.in_ok-annotate_cells.ensures.came
