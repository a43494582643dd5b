-- The paths of modules made ready for instances, as the definitions see them.
use Rattle.std.specs.Prelude.{◌≡◌, ℕ, ◌<◌, All, List, [], Option, Some, None, length, map, slice_get}
use Rattle.std.specs.List.{AllByRecursion}
use Rattle.std.specs.Option.{option_and_then, option_map}
use Rattle.cond_expr.specs.Condition.{Condition}
use Rattle.sg_circuit.specs.TimingsSeen.{timings_at}
use Rattle.sg_circuit.specs.declared.elements.LegTiming.{LegTiming}
use Rattle.sg_delay.specs.declared.corners.Corner.{Corner}
use Rattle.vl_tree.specs.Tree.{Module, Source}
use Rattle.elab_model.specs.Delays.{tick_of}
use Rattle.elab_model.specs.Hierarchy.{Instance, instances}
use Rattle.elab_model.specs.Names.{Variable, variables}
use Rattle.specify_model.specs.Conditions.{ModuleCondition, Always, If, IfNone, over, operand_bit}
use Rattle.specify_model.specs.Outputs.{PathOutput, path_outputs}
use Rattle.specify_model.specs.Paths.{ModulePath}
use Rattle.circuit_model.specs.Faults.{path_faults}
use Rattle.elab_laws.specs.Handing.{all_bits}
use Rattle.elab_hierarchy.specs.Tops.{StandsAt}
use Rattle.elab_ends.specs.Seen.{bit_seen}
use Rattle.specify_paths.specs.Seen.{IsRead}
use Rattle.elab_paths.specs.declared.modules.ModulePaths.{ModulePaths}
use Rattle.elab_paths.specs.declared.shelving.ReadyCondition.{ReadyCondition}
use Rattle.elab_paths.specs.declared.shelving.ReadyCondition.TheVariants as ready
use Rattle.elab_paths.specs.declared.shelving.ReadyOutput.{ReadyOutput}
use Rattle.elab_paths.specs.declared.shelving.ReadyPath.{ReadyPath}

-- a condition by its place in the table; past the end none
abbrev pub written_condition : List Variable → Option Condition → ModuleCondition
written_condition vs None = Always
written_condition vs (Some c) = If c.tokens (over (operand_bit vs c.tokens) c.tree)

abbrev pub condition_ready : List Condition → List Variable → ReadyCondition → ModuleCondition
condition_ready conditions vs ready.Always = Always
condition_ready conditions vs (ready.If written) = written_condition vs (slice_get conditions written)
condition_ready conditions vs ready.IfNone = IfNone

abbrev pub path_ready : List LegTiming → List Condition → List Variable → ReadyPath → ModulePath
path_ready timings conditions vs p =
    record { input = bit_seen vs p.input; edge = p.edge; condition = condition_ready conditions vs p.condition; timings = timings_at timings p.timing }

abbrev pub output_ready : List LegTiming → List Condition → List Variable → ReadyOutput → PathOutput
output_ready timings conditions vs o =
    record { output = bit_seen vs o.output; place = o.place; style = o.style; paths = map (path_ready timings conditions vs) o.paths.items }

-- what a path names stands in the row of bits and in the tables
abbrev pub IsWrittenBelow : ℕ → ReadyCondition → Type 0
IsWrittenBelow conditions ready.Always = Unit {0}
IsWrittenBelow conditions (ready.If written) = written < conditions
IsWrittenBelow conditions ready.IfNone = Unit {0}

pub record IsReadyPath (bits timings conditions : ℕ) (p : ReadyPath) : Type 0 where
  pub input : p.input < bits
  pub timing : p.timing < timings
  pub condition : IsWrittenBelow conditions p.condition

pub record IsReadyOutput (bits timings conditions : ℕ) (o : ReadyOutput) : Type 0 where
  pub output : o.output < bits
  pub paths : All (IsReadyPath bits timings conditions) o.paths.items

-- what stands ready of a module: its output bits to which paths lead
pub record IsReadyOf (corner : Corner) (m : Module) (source : Source) (top : Module) (made : ModulePaths) (list : List ReadyOutput) : Type 0 where
  pub outputs : map (output_ready made.timings.items made.conditions.items (variables m)) list ≡ path_outputs corner (tick_of source top) m
  pub named : All (IsReadyOutput (length (all_bits (variables m))) (length made.timings.items) (length made.conditions.items)) list

-- of each instance, wherever its module stands
abbrev pub HasPaths : Source → Module → Corner → ModulePaths → Instance → Type 0
HasPaths source top corner made s =
    (place : ℕ) → StandsAt source place s.step.definition
    → (list : List ReadyOutput) × ((option_and_then (λ o. option_map (λ v. v.items) o) (slice_get made.outputs.items place) ≡ Some list) × IsReadyOf corner s.step.definition source top made list)

-- so of all instances; no block has a fault, each condition is what its tokens spell, and the first timing is that of Legs
pub record HavePaths (source : Source) (top : Module) (corner : Corner) (legs : LegTiming) (made : ModulePaths) : Type 0 where
  pub each : AllByRecursion (HasPaths source top corner made) (instances source top)
  pub faultless : path_faults source top corner ≡ []
  pub read : All (λ c. IsRead c.tokens c) made.conditions.items
  pub first : slice_get made.timings.items 0 ≡ Some legs
