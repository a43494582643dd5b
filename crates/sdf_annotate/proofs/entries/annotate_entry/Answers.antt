-- Both passes went through, or one of them met what is too large.
use Rattle.std.proofs.Common.{◌∙◌, [], ◌∷◌, ap, length, sym}
use Rattle.std.proofs.lemmas.List.{with_items_is}
use Rattle.std.proofs.lemmas.Result.{err_from_is_err_and}
use Rattle.sdf_meaning.specs.MeantSeen.{view_sdf}
use Rattle.annotation_finder.specs.Finding.{given_seen}
use Rattle.annotation_model.specs.Spots.{all_checked, spots}
use Rattle.sdf_annotate.specs.Progress.{StoppedAt}
use Rattle.sdf_annotate.specs.Seen.{circuit_of}
use Rattle.sdf_annotate.proofs.CheckLaws.{check-count}
use Rattle.sdf_annotate.proofs.EntrySteps.{came-lent, exit_by, stopped-lent_checks, stopped-lent_spots}
use Rattle.sdf_annotate.proofs.FoundPlaces.{below-lent, checks-below, spots-below}
use Rattle.sdf_annotate.proofs.entries.annotate_entry.Goals as goal

pub apply_to_spots-requires-clause-found : goal.apply_to_spots-requires-clause-found
apply_to_spots-requires-clause-found c =
    below-lent (length (spots (circuit_of c.args.task.now))) c.in_ok-found.found.spots.items c.deref.result.now c.args.values.now.timings.items c.deref_mut.result.now c.deref.ensures.value c.deref_mut.ensures.value c.requires.sized.timings
    (spots-below (circuit_of c.args.task.now) (view_sdf c.args.task.now.sdf.now) (given_seen c.args.cell.now c.args.entry.now) c.in_ok-found.found.spots.items c.in_ok-found.ensures.spots)

pub returns-in_err-apply_to_spots-clause-stopped : goal.returns-in_err-apply_to_spots-clause-stopped
returns-in_err-apply_to_spots-clause-stopped c =
    let circuit = circuit_of c.args.task.now in
    let sdf = view_sdf c.args.task.now.sdf.now in
    let corner = c.args.task.now.corner in
    let g = given_seen c.args.cell.now c.args.entry.now in
    exit_by (StoppedAt circuit sdf corner (g ∷ []) c.args.values.now) c.from_residual-in_err-apply_to_spots.result c.in_err-apply_to_spots.field-0.0
    (err_from_is_err_and c.from_residual-in_err-apply_to_spots.result c.from_residual-in_err-apply_to_spots.ensures.1)
    (stopped-lent_spots circuit sdf corner g c.in_ok-found.found.spots.items c.in_ok-found.found.checks.items c.in_ok-found.ensures.spots c.in_ok-found.ensures.checks c.args.values.now c.deref.result.now c.deref_mut.result.now c.deref.ensures.value c.deref_mut.ensures.value
    c.in_err-apply_to_spots.field-0.0 c.in_err-apply_to_spots.ensures.told)

pub apply_to_checks-requires-clause-limits_of_each : goal.apply_to_checks-requires-clause-limits_of_each
apply_to_checks-requires-clause-limits_of_each c = ap length c.deref_mut-2.ensures.value ∙ (c.requires.sized.limits ∙ check-count (circuit_of c.args.task.now) c.requires.places.closed)

pub apply_to_checks-requires-clause-found : goal.apply_to_checks-requires-clause-found
apply_to_checks-requires-clause-found c =
    below-lent (length (all_checked (circuit_of c.args.task.now))) c.in_ok-found.found.checks.items c.deref-2.result.now c.args.values.now.limits.items c.deref_mut-2.result.now c.deref-2.ensures.value c.deref_mut-2.ensures.value c.requires.sized.limits
    (checks-below (circuit_of c.args.task.now) (view_sdf c.args.task.now.sdf.now) (given_seen c.args.cell.now c.args.entry.now) c.in_ok-found.found.checks.items c.in_ok-found.ensures.checks)

pub returns-in_err-apply_to_checks-clause-stopped : goal.returns-in_err-apply_to_checks-clause-stopped
returns-in_err-apply_to_checks-clause-stopped c =
    let circuit = circuit_of c.args.task.now in
    let sdf = view_sdf c.args.task.now.sdf.now in
    let corner = c.args.task.now.corner in
    let g = given_seen c.args.cell.now c.args.entry.now in
    exit_by (StoppedAt circuit sdf corner (g ∷ []) c.args.values.now) c.from_residual-in_err-apply_to_checks.result c.in_err-apply_to_checks.field-0.0
    (err_from_is_err_and c.from_residual-in_err-apply_to_checks.result c.from_residual-in_err-apply_to_checks.ensures.1)
    (stopped-lent_checks circuit sdf corner g c.in_ok-found.found.spots.items c.in_ok-found.found.checks.items c.in_ok-found.ensures.spots c.in_ok-found.ensures.checks c.args.values.now c.deref-2.result.now c.deref_mut-2.result.now c.deref-2.ensures.value c.deref_mut-2.ensures.value
    c.in_err-apply_to_checks.field-0.0 c.in_err-apply_to_checks.ensures.told)

pub returns-clause-came : goal.returns-clause-came
returns-clause-came c =
    let circuit = circuit_of c.args.task.now in
    let sdf = view_sdf c.args.task.now.sdf.now in
    let corner = c.args.task.now.corner in
    let g = given_seen c.args.cell.now c.args.entry.now in
    came-lent circuit sdf corner g c.in_ok-found.found.spots.items c.in_ok-found.found.checks.items c.in_ok-found.ensures.spots c.in_ok-found.ensures.checks c.args.values.now _
    c.deref.result.now c.deref_mut.result.now c.apply_to_spots.new.timings c.deref-2.result.now c.deref_mut-2.result.now c.apply_to_checks.new.limits
    c.deref.ensures.value c.deref_mut.ensures.value c.deref-2.ensures.value c.deref_mut-2.ensures.value c.apply_to_spots.auto.timings c.apply_to_checks.auto.limits
    (with_items_is c.args.values.now.timings c.apply_to_spots.new.timings (c.apply_to_spots.auto.timings ∙ (ap length c.deref_mut.ensures.value ∙ sym c.args.values.now.timings.ok.0)))
    (with_items_is c.args.values.now.limits c.apply_to_checks.new.limits (c.apply_to_checks.auto.limits ∙ (ap length c.deref_mut-2.ensures.value ∙ sym c.args.values.now.limits.ok.0)))
    c.in_ok-apply_to_spots.ensures.fine c.in_ok-apply_to_checks.ensures.fine c.in_ok-apply_to_spots.ensures.written c.in_ok-apply_to_checks.ensures.written
    c.is_empty.result c.is_empty.ensures c.in_ok-note.ensures c.requires.sized
