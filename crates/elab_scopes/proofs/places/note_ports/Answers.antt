-- One declaration more.
use Rattle.std.proofs.Common.{map, drop}
use Rattle.vl_tree.specs.Seen.{view_port_declaration}
use Rattle.elab_scopes.specs.Driven.{place_in}
use Rattle.elab_scopes.proofs.PortPlaces.{notes-next}
use Rattle.elab_scopes.proofs.places.note_ports.Goals as goal

pub loop-i-preserved : goal.loop-i-preserved
loop-i-preserved c = λ m f t o.
    let n = c.note_port.ensures m (place_in (map view_port_declaration (drop c.loop-i.i c.args.declarations.now)) f) t (c.loop-i.invariant m f t o) in
    notes-next c.args.declarations.now c.loop-i.i _ f m c.note_port.new.places c.loop-i-test.true c.loop-i.auto.i n
