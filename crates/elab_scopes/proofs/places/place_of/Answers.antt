-- The place is one of the table.
use Rattle.elab_scopes.proofs.PortPlaces.{place-within}
use Rattle.elab_scopes.proofs.places.place_of.Goals as goal

pub returns-clause-within : goal.returns-clause-within
returns-clause-within c = place-within c.args.table.now c.args.name.now c.find.result c.find.ensures
