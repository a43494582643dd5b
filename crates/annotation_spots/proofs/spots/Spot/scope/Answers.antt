-- The scope of its element.
use Rattle.annotation_spots.proofs.CountLaws.{scope-seen}
use Rattle.annotation_spots.proofs.spots.Spot.scope.Goals as goal

pub returns : goal.returns
returns c = scope-seen c.args.parts.now c.args.self.now c.index.result.now c.requires.row c.index.ensures
