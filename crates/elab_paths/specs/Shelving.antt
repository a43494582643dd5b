-- Tables that grow, and what stands in them.
use Rattle.std.specs.Prelude.{◌≡◌, ℕ, ◌<◌, All, List, ◌++◌, length, map}
use Rattle.cond_expr.specs.Condition.{Condition}
use Rattle.sg_circuit.specs.declared.elements.LegTiming.{LegTiming}
use Rattle.elab_model.specs.Names.{Variable}
use Rattle.specify_paths.specs.Seen.{Said, IsRead, condition_seen, said_by, path_seen, output_seen}
use Rattle.specify_paths.specs.declared.grouping.PathOutput.{PathOutput}
use Rattle.specify_paths.specs.declared.pairs.ModulePath.{ModulePath}
use Rattle.specify_paths.specs.declared.statements.ModuleCondition.{ModuleCondition}
use Rattle.specify_paths.specs.declared.statements.Statement.{Statement}
use Rattle.elab_paths.specs.Ready.{condition_ready, path_ready, output_ready, IsWrittenBelow, IsReadyOutput}
use Rattle.elab_paths.specs.declared.shelving.ReadyCondition.{ReadyCondition}
use Rattle.elab_paths.specs.declared.shelving.ReadyOutput.{ReadyOutput}
use Rattle.elab_paths.specs.declared.shelving.ReadyPath.{ReadyPath}
use Rattle.elab_paths.specs.declared.shelving.Shelved.{Shelved}
use Rattle.elab_paths.specs.declared.shelving.Shelves.{Shelves}

-- what was there stays, and more comes behind it
abbrev pub ListGrows : {A : Type 0} → List A → List A → Type 0
ListGrows {A} old new = (more : List A) × (new ≡ old ++ more)

pub record IsLonger (old new : Shelves) : Type 0 where
  pub timings : List LegTiming
  pub timings_are : new.timings.items ≡ old.timings.items ++ timings
  pub conditions : List Condition
  pub conditions_are : new.conditions.items ≡ old.conditions.items ++ conditions

-- each condition is what its tokens spell
abbrev pub AreRead : List Condition → Type 0
AreRead conditions = All (λ c. IsRead c.tokens c) conditions

-- a condition stands in the table, whatever comes behind it
pub record IsShelvedCondition (conditions : List Condition) (c : ModuleCondition) (r : ReadyCondition) : Type 0 where
  pub seen : (more : List Condition) (vs : List Variable) → condition_ready (conditions ++ more) vs r ≡ condition_seen vs c
  pub below : IsWrittenBelow (length conditions) r

-- what specify paths say, of conditions in the table
abbrev pub said_in : List Condition → List Variable → Shelved → Said
said_in conditions vs s = record { edge = s.edge; condition = condition_ready conditions vs s.condition; delays = s.delays.at }

abbrev pub AreWrittenBelow : ℕ → List Shelved → Type 0
AreWrittenBelow conditions shelved = All (λ s. IsWrittenBelow conditions s.condition) shelved

pub record AreShelved (conditions : List Condition) (statements : List Statement) (shelved : List Shelved) : Type 0 where
  pub said : (more : List Condition) (vs : List Variable) → map (said_in (conditions ++ more) vs) shelved ≡ map (said_by vs) statements
  pub named : AreWrittenBelow (length conditions) shelved

-- the timings of a path stand in the table, whatever comes behind them
pub record IsShelvedPath (timings : List LegTiming) (shelved : List Shelved) (p : ModulePath) (r : ReadyPath) : Type 0 where
  pub path : (more : List LegTiming) (conditions : List Condition) (vs : List Variable) → path_ready (timings ++ more) conditions vs r ≡ path_seen vs (map (said_in conditions vs) shelved) p
  pub input : r.input ≡ p.input
  pub timing : r.timing < length timings
  pub condition : (conditions : ℕ) → AreWrittenBelow conditions shelved → IsWrittenBelow conditions r.condition

-- and those of an output's paths
pub record IsShelvedOutput (timings : List LegTiming) (shelved : List Shelved) (o : PathOutput) (r : ReadyOutput) : Type 0 where
  pub output : (more : List LegTiming) (conditions : List Condition) (vs : List Variable) → output_ready (timings ++ more) conditions vs r ≡ output_seen vs (map (said_in conditions vs) shelved) o
  pub named : (bits conditions : ℕ) → o.output < bits → All (λ p. p.input < bits) o.paths.items → AreWrittenBelow conditions shelved → IsReadyOutput bits (length timings) conditions r
