-- What is there, followed by what is left, is the whole.
use Rattle.std.proofs.Common.{◌≡◌, ◌++◌, drop}
use Rattle.std.specs.List.{flat_map}
use Rattle.annotation_places.specs.Places.{role_seen}
use Rattle.annotation_places.specs.Nets.{meant_at}
use Rattle.annotation_places.proofs.nets.add_meant.Given as goal

abbrev pub invariant-loop-place : goal.invariant-loop-place
invariant-loop-place l =
    l.nets.items ++ flat_map (meant_at (role_seen l.role) l.bit l.variables) (drop l.place-index l.places)
    ≡ l.initial.nets.items ++ flat_map (meant_at (role_seen l.role) l.bit l.variables) l.places
