-- The scope is a leaf, or not.
use Rattle.annotation_finder.proofs.LegLaws.{not_leaf, of_leaf}
use Rattle.annotation_finder.proofs.legs.is_of_leaf.Goals as goal

pub returns-then-not-index : goal.returns-then-not-index
returns-then-not-index c = not_leaf c.args.places.now.parts.now c.args.scope c.index.result.now _ c.requires.scope c.index.ensures c.if-not-index.true

pub returns : goal.returns
returns c = of_leaf c.args.places.now.parts.now c.args.scope c.index.result.now c.has_net.result _ c.requires.scope c.index.ensures c.if-not-index.false c.has_net.ensures
