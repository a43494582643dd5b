-- What is known of the check by its number.
use Rattle.std.proofs.Common.{◌∙◌, refl, sym}
use Rattle.sdf_meaning.specs.MeantSeen.{view_cell_check, view_sdf}
use Rattle.annotation_values.specs.Limits.{bounds_seen}
use Rattle.annotation_values.specs.Seen.{grid_seen}
use Rattle.sdf_annotate.specs.Seen.{circuit_of}
use Rattle.sdf_annotate.proofs.CheckLaws.{known-large, known-with}
use Rattle.sdf_annotate.proofs.ScopeLaws.{count-of-check, count-within}
use Rattle.sdf_annotate.proofs.limits.apply_to_check.Goals as goal

pub bounds-task-scope : goal.bounds-task-scope
bounds-task-scope c = count-within c.args.task.now.places.now.parts.now c.args.task.now.signals.now c.requires.signals c.args.number c.index.result.now c.requires.places.closed c.requires.number c.index.ensures

pub returns-in_default-clause-told : goal.returns-in_default-clause-told
returns-in_default-clause-told c =
    let circuit = circuit_of c.args.task.now in
    let k = c.index.result.now in
    let count = count-of-check c.args.task.now.places.now.parts.now c.args.task.now.signals.now c.requires.signals c.args.number k c.requires.places.closed c.requires.number c.index.ensures in (
      sym (known-large circuit (view_sdf c.args.task.now.sdf.now) c.args.task.now.corner c.requires.places.closed c.args.number c.requires.number (view_cell_check c.args.check.now) (bounds_seen c.of-bounds.result)
          (grid_seen c.grid_of-grid.result) c.index-2.result.now.kind k c.index-2.result.now c.args.limits.now (c.of-bounds.ensures circuit k.scope count) c.grid_of-grid.ensures refl c.index.ensures c.index-2.ensures) ∙ c.in_default.ensures,
      refl,
    )

pub returns-clause-fine : goal.returns-clause-fine
returns-clause-fine c =
    let circuit = circuit_of c.args.task.now in
    let k = c.index.result.now in
    let count = count-of-check c.args.task.now.places.now.parts.now c.args.task.now.signals.now c.requires.signals c.args.number k c.requires.places.closed c.requires.number c.index.ensures in
    sym (known-large circuit (view_sdf c.args.task.now.sdf.now) c.args.task.now.corner c.requires.places.closed c.args.number c.requires.number (view_cell_check c.args.check.now) (bounds_seen c.of-bounds.result)
    (grid_seen c.grid_of-grid.result) c.index-2.result.now.kind k c.index-2.result.now c.args.limits.now (c.of-bounds.ensures circuit k.scope count) c.grid_of-grid.ensures refl c.index.ensures c.index-2.ensures) ∙ c.in-Ok.ensures.0

pub returns-clause-applied : goal.returns-clause-applied
returns-clause-applied c =
    let circuit = circuit_of c.args.task.now in
    let k = c.index.result.now in
    let count = count-of-check c.args.task.now.places.now.parts.now c.args.task.now.signals.now c.requires.signals c.args.number k c.requires.places.closed c.requires.number c.index.ensures in
    c.in-Ok.ensures.1 ∙ known-with circuit (view_sdf c.args.task.now.sdf.now) c.args.task.now.corner c.requires.places.closed c.args.number c.requires.number (view_cell_check c.args.check.now) (bounds_seen c.of-bounds.result)
    (grid_seen c.grid_of-grid.result) c.index-2.result.now.kind k c.index-2.result.now c.args.limits.now (c.of-bounds.ensures circuit k.scope count) c.grid_of-grid.ensures refl c.index.ensures c.index-2.ensures
