-- The timing checks of modules made ready for instances, as the definitions see them.
use Rattle.std.specs.Prelude.{◌≡◌, ℕ, ◌<◌, All, List, [], Option, Some, IfSome, length, map, slice_get}
use Rattle.std.specs.List.{AllByRecursion}
use Rattle.std.specs.Option.{option_and_then, option_map}
use Rattle.cond_expr.specs.Condition.{Condition}
use Rattle.cond_expr.specs.Token.{Tok}
use Rattle.cond_expr.specs.Tree.{Cond}
use Rattle.sg_delay.specs.declared.corners.Corner.{Corner}
use Rattle.vl_tree.specs.Tree.{Module, Source}
use Rattle.elab_model.specs.Delays.{tick_of}
use Rattle.elab_model.specs.Hierarchy.{Instance, instances}
use Rattle.elab_model.specs.Lates.{DelayedCopy, module_copies}
use Rattle.elab_model.specs.Names.{Variable, variables}
use Rattle.elab_model.specs.Terms.{NetBit}
use Rattle.specify_model.specs.Checks.{ModuleEvent, ModuleCheck, timing_checks}
use Rattle.circuit_model.specs.Faults.{check_faults}
use Rattle.elab_laws.specs.Handing.{all_bits}
use Rattle.elab_hierarchy.specs.Tops.{StandsAt}
use Rattle.elab_ends.specs.Seen.{bit_seen}
use Rattle.specify_checks.specs.SeenOfPaths.{IsRead}
use Rattle.specify_checks.specs.Copies.{both_at}
use Rattle.specify_checks.specs.Seen.{enabling_seen, limits_seen}
use Rattle.elab_checks.specs.declared.modules.ReadyChecks.{ReadyChecks}
use Rattle.elab_checks.specs.declared.shelving.ReadyCheck.{ReadyCheck}
use Rattle.elab_checks.specs.declared.shelving.ReadyEvent.{ReadyEvent}

-- a condition by its place in the table; past the end none
abbrev pub enabling_at : List Condition → List Variable → ℕ → Option (List Tok × Cond NetBit)
enabling_at conditions vs i = option_map (enabling_seen vs) (slice_get conditions i)

abbrev pub event_ready : List Condition → List Variable → ReadyEvent → ModuleEvent
event_ready conditions vs e = record { bit = bit_seen vs e.bit; index = e.index; edge = e.edge; condition = option_and_then (enabling_at conditions vs) e.condition }

abbrev pub check_ready : List Condition → List Variable → List DelayedCopy → ReadyCheck → ModuleCheck
check_ready conditions vs cs c = record {
  place = c.place;
  kind = c.kind;
  refer = event_ready conditions vs c.refer;
  datum = option_map (event_ready conditions vs) c.datum;
  limits = limits_seen c.limits;
  threshold = c.threshold;
  notifier = option_map (bit_seen vs) c.notifier;
  copies = option_map (both_at cs) c.copies;
}

-- what an event names stands in the row of bits and in the table of conditions
abbrev pub IsWritten : ℕ → ReadyEvent → Type 0
IsWritten conditions e = IfSome e.condition (λ i. i < conditions)

pub record IsReadyEvent (vs : List Variable) (conditions : ℕ) (e : ReadyEvent) : Type 0 where
  pub in_row : e.bit < length (all_bits vs)
  pub written : IsWritten conditions e

-- and so does what a check names, whose copies are among those of the module, which are so many
pub record IsReadyCheck (vs : List Variable) (conditions copies : ℕ) (c : ReadyCheck) : Type 0 where
  pub refer_stands : IsReadyEvent vs conditions c.refer
  pub datum_stands : IfSome c.datum (IsReadyEvent vs conditions)
  pub notifier_in_row : IfSome c.notifier (λ i. i < length (all_bits vs))
  pub copies_within : IfSome c.copies (λ places. All (λ p. p < copies) places)

-- the copies of a module, without the places that ask for them
abbrev pub copies_in : Module → List DelayedCopy
copies_in m = map (λ c. c.1) (module_copies m)

-- what stands ready of a module: its timing checks
pub record IsReadyOf (source : Source) (top : Module) (corner : Corner) (conditions : List Condition) (m : Module) (list : List ReadyCheck) : Type 0 where
  pub checks : map (check_ready conditions (variables m) (copies_in m)) list ≡ timing_checks corner (tick_of source top) m
  pub named : All (IsReadyCheck (variables m) (length conditions) (length (copies_in m))) list

-- of each instance, wherever its module stands
abbrev pub HasChecks : Source → Module → Corner → List Condition → ReadyChecks → Instance → Type 0
HasChecks source top corner conditions made s =
    (place : ℕ) → StandsAt source place s.step.definition
    → (list : List ReadyCheck) × ((option_and_then (λ o. option_map (λ v. v.items) o) (slice_get made.checks.items place) ≡ Some list) × IsReadyOf source top corner conditions s.step.definition list)

-- so of all instances; no check has a fault, and each condition is what its tokens spell
pub record HaveChecks (source : Source) (top : Module) (corner : Corner) (conditions : List Condition) (made : ReadyChecks) : Type 0 where
  pub each : AllByRecursion (HasChecks source top corner conditions made) (instances source top)
  pub faultless : check_faults source top corner ≡ []
  pub read : All (λ c. IsRead c.tokens c) conditions
