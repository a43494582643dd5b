-- The nets that the code's paths name are among so many.
use Rattle.std.specs.Prelude.{ℕ, ◌<◌}
use Rattle.cond_expr.specs.Values.{AreBelow}
use Rattle.sg_circuit.specs.declared.paths.Path.{Path}
use Rattle.sg_circuit.specs.declared.paths.PathCondition.{PathCondition}
use Rattle.sg_circuit.specs.declared.paths.PathCondition.TheVariants.{Always, If, IfNone}

-- the nets of a condition are among so many
abbrev pub IsConditionWithin : ℕ → PathCondition → Type 0
IsConditionWithin nets Always = Unit {0}
IsConditionWithin nets (If written bound) = AreBelow nets bound
IsConditionWithin nets IfNone = Unit {0}

-- and so is the input
pub record IsOfNets (nets : ℕ) (p : Path) : Type 0 where
  pub input : p.input < nets
  pub condition : IsConditionWithin nets p.condition
