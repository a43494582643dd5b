-- The code's timing checks, as the definitions see them.
use Rattle.std.specs.Prelude.{ℕ, ℤ, ◌<◌, All, List, ◌∷◌, IfSome, length, option_to_list}
use Rattle.std.specs.Option.{option_map}
use Rattle.cond_expr.specs.Condition.{Condition}
use Rattle.cond_expr.specs.Token.{Tok}
use Rattle.cond_expr.specs.Tree.{Cond}
use Rattle.elab_laws.specs.Handing.{all_bits}
use Rattle.elab_model.specs.Names.{Variable}
use Rattle.specify_model.specs.Checks.{ModuleEvent, ModuleCheck}
use Rattle.elab_model.specs.Terms.{NetBit}
use Rattle.specify_model.specs.Conditions.{over, operand_bit}
use Rattle.elab_ends.specs.Seen.{bit_seen}
use Rattle.specify_paths.specs.Seen.{IsRead}
use Rattle.elab_model.specs.Lates.{DelayedCopy}
use Rattle.specify_checks.specs.Copies.{both_at}
use Rattle.specify_checks.specs.declared.checks.CheckLimits.{CheckLimits}
use Rattle.specify_checks.specs.declared.checks.ModuleCheck as code_check
use Rattle.specify_checks.specs.declared.events.ModuleEvent as code_event

-- a condition, as its text spells it and over bits
abbrev pub enabling_seen : List Variable → Condition → List Tok × Cond NetBit
enabling_seen vs e = (e.tokens, over (operand_bit vs e.tokens) e.tree)

abbrev pub event_seen : List Variable → code_event.ModuleEvent → ModuleEvent
event_seen vs e = record { bit = bit_seen vs e.bit; index = e.index; edge = e.edge; condition = option_map (enabling_seen vs) e.condition }

abbrev pub limits_seen : CheckLimits → List ℤ
limits_seen l = l.first ∷ option_to_list l.second

abbrev pub check_seen : List Variable → List DelayedCopy → code_check.ModuleCheck → ModuleCheck
check_seen vs cs c = record {
  place = c.place;
  kind = c.kind;
  refer = event_seen vs c.refer;
  datum = option_map (event_seen vs) c.datum;
  limits = limits_seen c.limits;
  threshold = c.threshold;
  notifier = option_map (bit_seen vs) c.notifier;
  copies = option_map (both_at cs) c.copies;
}

-- bits are in the row, and copies among those of the module, which are so many
pub record IsFitting (vs : List Variable) (copies : ℕ) (c : code_check.ModuleCheck) : Type 0 where
  pub refer_in_row : c.refer.bit < length (all_bits vs)
  pub datum_in_row : IfSome c.datum (λ e. e.bit < length (all_bits vs))
  pub notifier_in_row : IfSome c.notifier (λ i. i < length (all_bits vs))
  pub copies_within : IfSome c.copies (λ places. All (λ p. p < copies) places)

-- conditions are what their tokens spell
abbrev pub IsSpelledEvent : code_event.ModuleEvent → Type 0
IsSpelledEvent e = IfSome e.condition (λ c. IsRead c.tokens c)

pub record IsSpelledCheck (c : code_check.ModuleCheck) : Type 0 where
  pub refer : IsSpelledEvent c.refer
  pub datum : IfSome c.datum IsSpelledEvent
