-- What stands in a table of conditions that grows. No public contract cites it.
use Rattle.std.specs.Prelude.{◌≡◌, ℕ, ◌<◌, List, ◌++◌, Option, Some, None, IfSome, length}
use Rattle.std.specs.Option.{option_and_then, option_map}
use Rattle.cond_expr.specs.Condition.{Condition}
use Rattle.elab_model.specs.Lates.{DelayedCopy}
use Rattle.elab_model.specs.Names.{Variable}
use Rattle.specify_checks.specs.Seen.{check_seen, enabling_seen, event_seen, IsFitting}
use Rattle.specify_checks.specs.declared.checks.ModuleCheck as code_check
use Rattle.specify_checks.specs.declared.events.ModuleEvent as code_event
use Rattle.elab_checks.specs.Ready.{check_ready, enabling_at, event_ready, IsReadyCheck, IsWritten}
use Rattle.elab_checks.specs.declared.shelving.ReadyCheck.{ReadyCheck}
use Rattle.elab_checks.specs.declared.shelving.ReadyEvent.{ReadyEvent}

-- a condition stands in the table, whatever comes behind it
pub record IsShelvedCondition (conditions : List Condition) (c : Option Condition) (i : Option ℕ) : Type 0 where
  pub seen : (more : List Condition) (vs : List Variable) → option_and_then (enabling_at (conditions ++ more) vs) i ≡ option_map (enabling_seen vs) c
  pub below : IfSome i (λ k. k < length conditions)

-- and that of an event
pub record IsShelvedEvent (conditions : List Condition) (e : code_event.ModuleEvent) (r : ReadyEvent) : Type 0 where
  pub seen : (more : List Condition) (vs : List Variable) → event_ready (conditions ++ more) vs r ≡ event_seen vs e
  pub bit : r.bit ≡ e.bit
  pub below : IsWritten (length conditions) r

abbrev pub IsShelvedDatum : List Condition → Option code_event.ModuleEvent → Option ReadyEvent → Type 0
IsShelvedDatum conditions None None = Unit {0}
IsShelvedDatum conditions (Some e) None = ⊥
IsShelvedDatum conditions None (Some r) = ⊥
IsShelvedDatum conditions (Some e) (Some r) = IsShelvedEvent conditions e r

-- and those of a check
pub record IsShelvedCheck (conditions : List Condition) (c : code_check.ModuleCheck) (r : ReadyCheck) : Type 0 where
  pub seen : (more : List Condition) (vs : List Variable) (cs : List DelayedCopy) → check_ready (conditions ++ more) vs cs r ≡ check_seen vs cs c
  pub named : (vs : List Variable) (copies : ℕ) → IsFitting vs copies c → IsReadyCheck vs (length conditions) copies r
