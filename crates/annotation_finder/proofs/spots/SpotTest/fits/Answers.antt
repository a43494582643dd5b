-- A leg or a path of the spot's element.
use Rattle.annotation_places.specs.Places.{lookups_of}
use Rattle.annotation_finder.specs.Finding.{is_marked}
use Rattle.annotation_finder.specs.Sought.{sought_seen}
use Rattle.annotation_finder.proofs.SpotLaws.{path_case}
use Rattle.annotation_finder.proofs.spots.SpotTest.fits.Goals as goal

pub returns-in-Path : goal.returns-in-Path
returns-in-Path c =
    path_case c.args.self.now.places.now.parts.now c.args.spot c.requires.spot c.index-element.result.now c.index-element.ensures c.in-Path.paths c.in-Path.style c.in-Path.is
    (lookups_of c.args.self.now.places.now) (is_marked c.args.self.now.cell.now.marks.items) (sought_seen c.args.self.now.sought.now) c.paths_in.result.now c.index-paths_in-spot.result c.fits_path_of.result
    c.paths_in.ensures c.index-paths_in-spot.is c.fits_path_of.ensures
