-- Timing checks drive the nets so far.
use Rattle.std.proofs.Common.{◌≡◌, List, take, length}
use Rattle.elab_numbering.specs.Driving.{NumberedDrive, StandsFor, DrivesRegs}
use Rattle.elab_numbering.proofs.driving.drive_regs.Given as goal

abbrev pub invariant-loop-reg : goal.invariant-loop-reg
invariant-loop-reg l = record {
  nets : length l.drivers.items ≡ length l.initial.drivers.items;
  so_far : (ds : List NumberedDrive) → StandsFor l.initial.drivers.items ds → DrivesRegs l.drivers.items ds (take l.reg-index l.regs);
}
