-- What is so of the code's paths, where it is so of the paths that they stand for.
use Rattle.std.specs.Prelude.{ℕ, List}
use Rattle.cond_expr.specs.Condition.{Condition}
use Rattle.sg_circuit.specs.Closed.{ReadsNets, IsPathOf}
use Rattle.sg_circuit.specs.PathFitting.{IsConditionWithin, IsOfNets}
use Rattle.sg_circuit.specs.PathsSeen.{condition_seen, path_seen}
use Rattle.sg_circuit.specs.declared.elements.LegTiming.{LegTiming}
use Rattle.sg_circuit.specs.declared.paths.Path.{Path}
use Rattle.sg_circuit.specs.declared.paths.PathCondition.{PathCondition}
use Rattle.sg_circuit.specs.declared.paths.PathCondition.TheVariants.{Always, If, IfNone}

-- the nets of a condition
condition_was : (conditions : List Condition) (nets : ℕ) (c : PathCondition) → ReadsNets nets (condition_seen conditions c) → IsConditionWithin nets c
condition_was conditions nets Always h = h
condition_was conditions nets (If written bound) h = h
condition_was conditions nets IfNone h = h

pub path_was : (conditions : List Condition) (timings : List LegTiming) (nets : ℕ) (p : Path) → IsPathOf nets (path_seen conditions timings p) → IsOfNets nets p
path_was conditions timings nets p h = record { input = h.input; condition = condition_was conditions nets p.condition h.condition }
