-- The table stands for those so far; the faults of the others are those of all.
use Rattle.std.proofs.Common.{map, take}
use Rattle.specify_model.specs.Faults.{pulse_faults}
use Rattle.specify_values.specs.Seen.{measured, view_pulse}
use Rattle.specify_values.proofs.InTurn.{left_from}
use Rattle.specify_values.proofs.Latest.{StandsFor}
use Rattle.specify_values.proofs.limits.pulse_limits.Given as goal

abbrev pub invariant-loop-pulse : goal.invariant-loop-pulse
invariant-loop-pulse l =
    StandsFor (measured l.by) l.table l.limits (map view_pulse (take l.pulse-index l.list)) × left_from view_pulse (pulse_faults (measured l.by) l.table) l.list l.pulse-index
