-- The row of the number fits.
use Rattle.sg_circuit.specs.Seen.{circuit_seen}
use Rattle.annotation_places.specs.Places.{lookups_of}
use Rattle.annotation_finder.specs.Sought.{sought_seen}
use Rattle.annotation_finder.proofs.SpotLaws.{row_passes}
use Rattle.annotation_finder.proofs.spots.SpotTestTest.passes.Goals as goal

pub returns : goal.returns
returns c =
    row_passes (circuit_seen c.args.self.now.places.now.parts.now) (lookups_of c.args.self.now.places.now) c.args.self.now.cell.now.marks.items (sought_seen c.args.self.now.sought.now)
    c.args.self.now.places.now.spots.items c.args.place c.index.result.now c.fits.result c.requires.ready.0.rows c.requires.within c.index.ensures c.fits.ensures
