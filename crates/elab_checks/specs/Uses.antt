-- The checks of a circuit, as they are added one after another.
use Rattle.std.specs.Prelude.{◌≡◌, ℕ, ◌<◌, ◌∷◌, ◌++◌, All, List, [], Option, Some, IfSome, length, map, slice_get}
use Rattle.std.specs.Option.{option_and_then, option_map}
use Rattle.cond_expr.specs.Condition.{Condition}
use Rattle.cond_expr.specs.Token.{Tok}
use Rattle.cond_expr.specs.Tree.{Cond}
use Rattle.sg_circuit.specs.ChecksSeen.{written_seen, AreWritten}
use Rattle.sg_circuit.specs.declared.checks.Check.{Check}
use Rattle.sg_circuit.specs.declared.checks.CheckConditions.{CheckConditions}
use Rattle.sg_circuit.specs.declared.checks.CheckTiming.{CheckTiming}
use Rattle.sg_circuit.specs.declared.checks.Terminal.{Terminal}
use Rattle.elab_model.specs.Lates.{DelayedCopy}
use Rattle.elab_model.specs.Names.{Variable}
use Rattle.elab_laws.specs.Handing.{all_bits}
use Rattle.specify_model.specs.Conditions.{over}
use Rattle.elab_model.specs.Terms.{NetBit}
use Rattle.elab_ends.specs.Seen.{bit_seen}
use Rattle.circuit_model.specs.CheckUses.{CheckUse, check_use, check_of_use, timing_of_use, written_of_use}
use Rattle.elab_paths.specs.Uses.{IsRow, IsSound}
use Rattle.elab_checks.specs.Ready.{check_ready, enabling_at, IsReadyCheck}
use Rattle.elab_checks.specs.declared.shelving.ReadyCheck.{ReadyCheck}
use Rattle.elab_checks.specs.declared.shelving.ReadyEvent.{ReadyEvent}
use Rattle.elab_checks.specs.declared.uses.CheckTables.{CheckTables}

-- the checks are these uses, and what their conditions name stands in the table
pub record AreUses (conditions : List Condition) (made : CheckTables) (us : List CheckUse) : Type 0 where
  pub checks : made.checks.items ≡ map check_of_use us
  pub timings : made.timings.items ≡ map timing_of_use us
  pub spelled : map (written_seen conditions) made.conditions.items ≡ map written_of_use us
  pub written : All (AreWritten (length conditions)) made.conditions.items

-- ---- what is added

-- the condition at a place of the table, over nets
abbrev pub enabled_over : (NetBit → ℕ) → List Condition → List Variable → Option ℕ → Option (Cond ℕ)
enabled_over net conditions vs i =
    option_map (λ (c : List Tok × Cond ℕ). c.1) (option_map (λ (c : List Tok × Cond NetBit). (c.0, over net c.1)) (option_and_then (enabling_at conditions vs) i))

-- it stands there, is what its tokens spell, and has sound operands
abbrev pub IsBindable : List Variable → List Condition → Option ℕ → Type 0
IsBindable vs conditions i = IfSome i (λ k. (c : Condition) × ((slice_get conditions k ≡ Some c) × IsSound vs c))

-- so of an event, whose bit is in the row
pub record IsUsableEvent (vs : List Variable) (conditions : List Condition) (e : ReadyEvent) : Type 0 where
  pub in_row : e.bit < length (all_bits vs)
  pub condition : IsBindable vs conditions e.condition

pub record IsUsableCheck (vs : List Variable) (conditions : List Condition) (copies : ℕ) (c : ReadyCheck) : Type 0 where
  pub ready : IsReadyCheck vs (length conditions) copies c
  pub refer : IsUsableEvent vs conditions c.refer
  pub datum : IfSome c.datum (IsUsableEvent vs conditions)

-- how a report names a terminal
abbrev pub terminal_ready : List Variable → ReadyEvent → Terminal
terminal_ready vs e = record { name = (bit_seen vs e.bit).name; bit = e.index }

-- the elements that delay the copies of an instance's module, as a row and as a function
abbrev pub AreLates : List DelayedCopy → List ℕ → (DelayedCopy → ℕ) → Type 0
AreLates cs lates late = lates ≡ map late cs

-- one check more of an instance
pub record AddsCheck (conditions : List Condition) (vs : List Variable) (row lates : List ℕ) (scope : ℕ) (c : ReadyCheck) (old new : CheckTables) : Type 0 where
  pub check : Check
  pub timing : CheckTiming
  pub spelled : CheckConditions
  pub checks_are : new.checks.items ≡ old.checks.items ++ check ∷ []
  pub timings_are : new.timings.items ≡ old.timings.items ++ timing ∷ []
  pub spelled_are : new.conditions.items ≡ old.conditions.items ++ spelled ∷ []
  pub check_is : (net : NetBit → ℕ) (late : DelayedCopy → ℕ) (cs : List DelayedCopy) → IsRow vs row net → check ≡ check_of_use (check_use scope net late (check_ready conditions vs cs c))
  pub timing_is : (net : NetBit → ℕ) (late : DelayedCopy → ℕ) (cs : List DelayedCopy) → IsRow vs row net → AreLates cs lates late
      → timing ≡ timing_of_use (check_use scope net late (check_ready conditions vs cs c))
  pub spelled_is : (net : NetBit → ℕ) (late : DelayedCopy → ℕ) (cs : List DelayedCopy) → written_seen conditions spelled ≡ written_of_use (check_use scope net late (check_ready conditions vs cs c))
  pub below : AreWritten (length conditions) spelled
