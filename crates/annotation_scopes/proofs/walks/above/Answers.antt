-- A scope's parent is a scope.
use Rattle.annotation_scopes.proofs.WalkLaws.{parent_within}
use Rattle.annotation_scopes.proofs.walks.above.Goals as goal

pub returns-clause-within : goal.returns-clause-within
returns-clause-within c =
    parent_within c.args.places.now.parts.now c.args.scope c.index-scope.result.now c.index-scope.result.now c.index-scope.ensures c.requires.places.closed c.requires.scope
