-- The specify paths to an output's bit (IEEE 1364-2005, clause 14).
use Rattle.std.specs.Prelude.{ℕ, List, Option}
use Rattle.sg_logic.specs.declared.edges.Edge.{Edge}
use Rattle.cond_expr.specs.Token.{Tok}
use Rattle.cond_expr.specs.Tree.{Cond}
use Rattle.sg_circuit.specs.Timings.{Timing}

-- when a path may be taken (14.2.4)
pub data PathCondition : Type 0 where
  Always : PathCondition
  -- by a condition: as its module's text spells it, and over nets
  If : (written : List Tok) (bound : Cond ℕ) → PathCondition
  -- where none that has a condition may be
  IfNone : PathCondition

-- a path: the net that is its input, the changes of it that the path is for, and a timing for each of the twelve transitions
-- of the output (14.2, 14.3)
pub record Path : Type 0 where
  pub input : ℕ
  pub edge : Option Edge
  pub condition : PathCondition
  pub timings : List Timing
