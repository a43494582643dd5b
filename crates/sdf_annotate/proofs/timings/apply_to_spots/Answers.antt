-- One place more, and one that is too large.
use Rattle.std.proofs.Common.{◌≡◌, ◌<◌, ◌∙◌, [], length, refl, slice_index_or, subst, sym, true}
use Rattle.std.proofs.lemmas.Result.{err_from_is_err_and}
use Rattle.sdf_meaning.specs.MeantSeen.{view_meant, view_sdf}
use Rattle.annotation_model.specs.Passes.{meets_large}
use Rattle.annotation_model.specs.Spots.{spots}
use Rattle.annotation_setting.specs.Table.{timings_seen}
use Rattle.sdf_annotate.specs.Seen.{Told, circuit_of, is_spot_large, spot_with}
use Rattle.sdf_annotate.proofs.EntrySteps.{exit_by, told_by}
use Rattle.sdf_annotate.proofs.TableSteps.{spot_large, spot_more}
use Rattle.sdf_annotate.proofs.timings.apply_to_spots.Goals as goal

pub returns-in_err-apply_to_spot-clause-told : goal.returns-in_err-apply_to_spot-clause-told
returns-in_err-apply_to_spot-clause-told c =
    let circuit = circuit_of c.args.task.now in
    let sdf = view_sdf c.args.task.now.sdf.now in
    let corner = c.args.task.now.corner in
    let entry = view_meant c.args.entry.now in
    let i = c.loop-number.number-index in
    let k = slice_index_or c.args.found.now i 0 in
    let now = c.loop-number.timings in
    let old = timings_seen (spots circuit) c.args.timings.now in
    let below : k < length now = subst (λ n. k < n) (sym c.loop-number.auto.timings) (c.requires.found i 0 c.loop-number-test.true) in
    exit_by (λ e. Told (meets_large (is_spot_large circuit sdf corner entry) (spot_with circuit sdf corner entry) [] c.args.found.now old ≡ true) c.args.entry.now.place e)
    c.from_residual.result c.in_err-apply_to_spot.field-0.0 (err_from_is_err_and c.from_residual.result c.from_residual.ensures.1)
    (told_by
    (λ big. spot_large circuit sdf corner entry c.args.task.now.places.now.spots.items c.requires.places.rows c.args.found.now old i 0 now (c.loop-number.auto.timings ∙ c.requires.timing_of_each) c.index-row.result.now
    c.index-timings-number.result c.loop-number-test.true below c.index-row.result.now c.index-row.ensures (slice_index_or now k c.index-timings-number.result) refl big c.loop-number.invariant)
    c.args.entry.now.place c.in_err-apply_to_spot.field-0.0 c.in_err-apply_to_spot.ensures.told)

pub loop-number-preserved : goal.loop-number-preserved
loop-number-preserved c =
    let circuit = circuit_of c.args.task.now in
    let sdf = view_sdf c.args.task.now.sdf.now in
    let corner = c.args.task.now.corner in
    let entry = view_meant c.args.entry.now in
    let i = c.loop-number.number-index in
    let k = slice_index_or c.args.found.now i 0 in
    let now = c.loop-number.timings in
    let old = timings_seen (spots circuit) c.args.timings.now in
    let below : k < length now = subst (λ n. k < n) (sym c.loop-number.auto.timings) (c.requires.found i 0 c.loop-number-test.true) in
    spot_more circuit sdf corner entry c.args.task.now.places.now.spots.items c.requires.places.rows c.args.found.now old i 0 now (c.loop-number.auto.timings ∙ c.requires.timing_of_each) c.index-row.result.now
    c.index-timings-number.result c.loop-number-test.true below c.index-row.result.now c.index-row.ensures (slice_index_or now k c.index-timings-number.result) c.apply_to_spot.new.new refl
    c.in_ok-apply_to_spot.ensures.fine c.in_ok-apply_to_spot.ensures.applied _ refl c.loop-number.invariant
