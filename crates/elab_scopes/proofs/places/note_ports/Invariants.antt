-- Those behind are noted.
use Rattle.std.proofs.Common.{◌≡◌, map, drop}
use Rattle.sg_text.specs.declared.places.Place.{Place}
use Rattle.vl_tree.specs.Seen.{view_port_declaration}
use Rattle.vl_tree.specs.Tree.{Module}
use Rattle.elab_model.specs.Names.{Variable, variables}
use Rattle.elab_scopes.specs.Driven.{place_in}
use Rattle.elab_scopes.proofs.places.note_ports.Given as goal

abbrev pub invariant-loop-i : goal.invariant-loop-i
invariant-loop-i l =
    (m : Module) (f : Variable → Place) → l.table ≡ variables m → l.initial.places ≡ map f (variables m)
    → l.places ≡ map (place_in (map view_port_declaration (drop l.i l.declarations)) f) (variables m)
