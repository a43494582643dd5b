-- What the three tables have at the place fits.
use Rattle.std.proofs.Common.{length}
use Rattle.sdf_meaning.specs.MeantSeen.{view_cell_check}
use Rattle.annotation_finder.specs.Checks.{terminals_seen}
use Rattle.annotation_finder.proofs.CheckLaws.{check_scope, place_passes, unmarked, marked}
use Rattle.annotation_finder.proofs.checks.CheckTestTest.passes.Goals as goal

pub returns-then-not-index : goal.returns-then-not-index
returns-then-not-index c =
    unmarked _ _ c.args.self.now.cell.now.marks.items (length c.args.self.now.places.now.parts.now.scopes.items) c.index-check.result.now.scope c.index.result.now c.requires.ready.1.count
    (check_scope c.args.self.now.places.now.parts.now c.requires.ready.0.closed c.args.place c.requires.within c.index-check.result.now c.index-check.ensures) c.index.ensures
    (place_passes c.args.self.now.places.now.parts.now c.requires.ready.0.closed c.args.place c.requires.within c.args.self.now.cell.now.marks.items (view_cell_check c.args.self.now.check.now)
    (terminals_seen c.args.self.now.terminals.now) c.index-check.result.now c.index-timing.result.now c.index-written.result.now c.index-check.ensures c.index-timing.ensures c.index-written.ensures)
    c.if-not-index.true

pub returns : goal.returns
returns c =
    marked _ _ c.fits_check.result c.args.self.now.cell.now.marks.items (length c.args.self.now.places.now.parts.now.scopes.items) c.index-check.result.now.scope c.index.result.now c.requires.ready.1.count
    (check_scope c.args.self.now.places.now.parts.now c.requires.ready.0.closed c.args.place c.requires.within c.index-check.result.now c.index-check.ensures) c.index.ensures
    (place_passes c.args.self.now.places.now.parts.now c.requires.ready.0.closed c.args.place c.requires.within c.args.self.now.cell.now.marks.items (view_cell_check c.args.self.now.check.now)
    (terminals_seen c.args.self.now.terminals.now) c.index-check.result.now c.index-timing.result.now c.index-written.result.now c.index-check.ensures c.index-timing.ensures c.index-written.ensures)
    c.if-not-index.false c.fits_check.ensures
