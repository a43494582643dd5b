-- Where a port has no declaration, the module's name stands.
use Rattle.std.proofs.Common.{◌≡◌, ◌∙◌, ap, arith, length, map}
use Rattle.std.proofs.lemmas.List.{with_items_is}
use Rattle.vl_tree.specs.Seen.{view_module, view_port_declaration}
use Rattle.elab_model.specs.Names.{variables}
use Rattle.elab_scopes.proofs.PortPlaces.{all-one, places-declared}
use Rattle.elab_scopes.proofs.places.port_places.Goals as goal

pub returns-clause-places : goal.returns-clause-places
returns-clause-places c = λ m is.
    let k = view_module c.args.prepared.now.definition.now in
    let long : length c.note_ports.new.places ≡ c.in_ok-places.places.len = omega (arith, c.note_ports.auto.places, c.deref_mut.ensures.len, c.in_ok-places.places.ok.0) in
    let new = c.note_ports.ensures m (λ v. k.name.place) is.table
    (c.deref_mut.ensures.value ∙ c.in_ok-places.ensures.items_if_clones_equal (λ y e. e) ∙ all-one k.name.place (variables m) c.len.result (c.len.ensures ∙ ap (λ vs. length vs) is.table)) in
    with_items_is c.in_ok-places.places c.note_ports.new.places long
    ∙ places-declared m k (map view_port_declaration c.deref.result.now) c.note_ports.new.places is.definition (ap (map view_port_declaration) c.deref.ensures.value ∙ c.in_ok-declarations.ensures) new
