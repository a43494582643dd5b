-- What the variables of the name give, by their places.
use Rattle.std.proofs.Common.{ap, ◌∙◌}
use Rattle.annotation_model.specs.Ports.{has}
use Rattle.annotation_places.specs.Places.{role_seen}
use Rattle.annotation_places.proofs.Meant.{meant_in, places_within}
use Rattle.annotation_places.proofs.places.Places.has_net.Goals as goal

pub returns : goal.returns
returns c =
    c.has_meant.ensures
    ∙ ap (has c.args.net)
    (meant_in c.args.self.now.parts.now c.args.scope (role_seen c.args.role) c.args.name.now c.args.bit c.index.result.now c.deref.result.now c.variables_named.result.now
    c.requires.scope c.index.ensures c.deref.ensures.value c.variables_named.ensures)

pub has_meant-requires : goal.has_meant-requires
has_meant-requires c =
    places_within c.args.self.now.parts.now c.args.scope c.args.name.now c.index.result.now c.deref.result.now c.variables_named.result.now
    c.requires.scope c.index.ensures c.deref.ensures.value c.variables_named.ensures
