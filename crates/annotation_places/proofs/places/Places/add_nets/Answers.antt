-- What the variables of the name give, by their places.
use Rattle.std.proofs.Common.{◌≡◌, ◌++◌, OnOk, subst}
use Rattle.annotation_places.specs.Places.{role_seen}
use Rattle.annotation_places.proofs.Meant.{meant_in, places_within}
use Rattle.annotation_places.proofs.places.Places.add_nets.Goals as goal

pub returns : goal.returns
returns c =
    subst (λ xs. OnOk c.add_meant.result (c.add_meant.new.nets.items ≡ c.args.nets.now.items ++ xs))
    (meant_in c.args.self.now.parts.now c.args.scope (role_seen c.args.role) c.args.name.now c.args.bit c.index.result.now c.deref.result.now c.variables_named.result.now
    c.requires.scope c.index.ensures c.deref.ensures.value c.variables_named.ensures)
    c.add_meant.ensures

pub add_meant-requires : goal.add_meant-requires
add_meant-requires c =
    places_within c.args.self.now.parts.now c.args.scope c.args.name.now c.index.result.now c.deref.result.now c.variables_named.result.now
    c.requires.scope c.index.ensures c.deref.ensures.value c.variables_named.ensures
