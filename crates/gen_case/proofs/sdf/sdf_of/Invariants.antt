use Rattle.std.proofs.Common.{◌≡◌, ◌++◌, ◌+◌, ◌-◌, flat_map}
use Rattle.std.specs.Prelude.{codes}
use Rattle.std.specs.List.{range_with_len}
use Rattle.gen_case.specs.Case.{cell_line}
use Rattle.gen_case.proofs.sdf.sdf_of.Given as goal

-- the stages that are left complete the cells
abbrev pub invariant-loop-stage : goal.invariant-loop-stage
invariant-loop-stage l =
    l.text.items ++ flat_map cell_line (range_with_len l.stage (l.stages + 1 - l.stage))
    ≡ codes "(DELAYFILE (TIMESCALE 1ps)\n" ++ flat_map cell_line (range_with_len 1 l.stages)
