use Rattle.std.proofs.Common.{◌≡◌, ◌++◌, ◌+◌, ◌-◌, flat_map}
use Rattle.std.specs.List.{range_with_len}
use Rattle.gen_case.specs.Case.{inverter_line, netlist_head}
use Rattle.gen_case.proofs.netlist.netlist_of.Given as goal

-- the stages that are left complete the chain
abbrev pub invariant-loop-stage : goal.invariant-loop-stage
invariant-loop-stage l =
    l.text.items ++ flat_map (inverter_line l.stages) (range_with_len l.stage (l.stages + 1 - l.stage))
    ≡ netlist_head ++ flat_map (inverter_line l.stages) (range_with_len 1 l.stages)
