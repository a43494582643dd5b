-- The net is among what a variable gives, or among what is left.
use Rattle.annotation_places.specs.Places.{role_seen}
use Rattle.annotation_places.specs.Nets.{meant_at}
use Rattle.annotation_places.proofs.Meant.{tested}
use Rattle.annotation_places.proofs.Turns.{found, not_found}
use Rattle.annotation_places.proofs.nets.has_meant.Goals as goal

pub returns-then-is_among : goal.returns-then-is_among
returns-then-is_among c =
    found (meant_at (role_seen c.args.role) c.args.bit c.args.variables.now) c.args.places.now c.loop-place.place-index 0 c.args.net _ c.loop-place-test.true
    (tested (role_seen c.args.role) c.args.bit c.args.variables.now _ c.args.net c.index-variables-place.result c.meant_of.result.now c.is_among.result _
    (c.requires c.loop-place.place-index 0 c.loop-place-test.true) c.index-variables-place.is c.meant_of.ensures c.is_among.ensures c.if-is_among.true)
    c.loop-place.invariant

pub loop-place-preserved : goal.loop-place-preserved
loop-place-preserved c =
    not_found (meant_at (role_seen c.args.role) c.args.bit c.args.variables.now) c.args.places.now c.loop-place.place-index 0 c.args.net _ c.loop-place-test.true
    (tested (role_seen c.args.role) c.args.bit c.args.variables.now _ c.args.net c.index-variables-place.result c.meant_of.result.now c.is_among.result _
    (c.requires c.loop-place.place-index 0 c.loop-place-test.true) c.index-variables-place.is c.meant_of.ensures c.is_among.ensures c.if-is_among.false)
    c.loop-place.invariant
