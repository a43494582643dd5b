-- The delays that are left, and their faults, complete all.
use Rattle.std.proofs.Common.{◌≡◌, ◌++◌, map, drop}
use Rattle.vl_tree.specs.Seen.{view_amounts}
use Rattle.specify_model.specs.Faults.{delay_faults}
use Rattle.specify_model.specs.Values.{delay_ticks}
use Rattle.specify_values.specs.Seen.{measured, values_of}
use Rattle.specify_values.proofs.InTurn.{left_from}
use Rattle.specify_values.proofs.delays.all_ticks.Given as goal

abbrev pub invariant-loop-delay : goal.invariant-loop-delay
invariant-loop-delay l =
    (l.list.items ++ map (delay_ticks (measured l.by) (values_of l.parameters)) (map view_amounts (drop l.delay-index l.delays))
    ≡ map (delay_ticks (measured l.by) (values_of l.parameters)) (map view_amounts l.delays))
    × left_from view_amounts (delay_faults (measured l.by) (values_of l.parameters)) l.delays l.delay-index
