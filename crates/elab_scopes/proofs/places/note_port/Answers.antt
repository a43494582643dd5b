-- One declaration is noted.
use Rattle.std.proofs.Common.{refl, sym}
use Rattle.vl_tree.specs.Seen.{view_port_declaration}
use Rattle.elab_scopes.proofs.PortPlaces.{note-hit, note-passed}
use Rattle.elab_scopes.proofs.places.note_port.Goals as goal

pub returns-in-Some : goal.returns-in-Some
returns-in-Some c = λ m f t o.
    note-hit (view_port_declaration c.args.declaration.now) f m c.args.table.now c.in-Some.variable c.args.places.now _ (sym c.in-Some.ensures.place) refl t o

pub returns-in_default : goal.returns-in_default
returns-in_default c = λ m f t o. note-passed (view_port_declaration c.args.declaration.now) f m c.args.table.now c.args.places.now (sym c.in_default.ensures.place) t o
