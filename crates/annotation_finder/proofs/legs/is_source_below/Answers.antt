-- Inside the scope, by the names of the path.
use Rattle.std.proofs.Common.{◌∙◌}
use Rattle.sg_circuit.specs.Seen.{circuit_seen}
use Rattle.annotation_places.specs.Places.{lookups_of}
use Rattle.annotation_finder.proofs.LegLaws.{below_named}
use Rattle.annotation_finder.proofs.legs.is_source_below.Goals as goal

pub returns : goal.returns
returns c =
    c.is_source_inside.ensures
    ∙ below_named (circuit_seen c.args.places.now.parts.now) (lookups_of c.args.places.now) c.args.port.now.bit c.args.net c.args.scope c.args.port.now.name.items c.deref-2.result.now c.args.port.now.path.items c.deref.result.now
    c.deref-2.ensures.value c.deref.ensures.value
