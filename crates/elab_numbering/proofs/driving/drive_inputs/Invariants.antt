-- The table stands for the drives so far.
use Rattle.std.proofs.Common.{◌≡◌, ◌++◌, List, map, take, length}
use Rattle.elab_numbering.specs.Driving.{NumberedDrive, StandsFor, by_stimulus}
use Rattle.elab_numbering.proofs.driving.drive_inputs.Given as goal

abbrev pub invariant-loop-place : goal.invariant-loop-place
invariant-loop-place l = record {
  nets : length l.drivers.items ≡ length l.initial.drivers.items;
  so_far : (ds : List NumberedDrive) → StandsFor l.initial.drivers.items ds → StandsFor l.drivers.items (ds ++ map by_stimulus (take l.place l.inputs));
}
