-- The first nets have their drivers.
use Rattle.std.specs.Prelude.{◌≡◌}
use Rattle.vl_elab.proofs.OneByOne.{driven_first}
use Rattle.vl_elab.proofs.driving.drive.Given as goal

abbrev pub invariant-loop-place : goal.invariant-loop-place
invariant-loop-place l = l.nets.items ≡ driven_first l.place l.initial.nets.items l.initial.drivers
