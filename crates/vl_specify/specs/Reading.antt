-- What it says that a specify block was read, or refused.
use Rattle.std.specs.Prelude.{◌≡◌, ℕ, true, List, Option, Some, None, Result, Ok, Err, slice_get}
use Rattle.sg_text.specs.declared.places.Place.{Place}
use Rattle.sg_text.specs.declared.refusals.Refused.{Refused}
use Rattle.sg_text.specs.declared.refusals.Refused.TheVariants.{Fault, NoMemory}
use Rattle.grammar.specs.ReadsFrom.{FailsFrom}
use Rattle.vl_token.specs.Tokens.{Lexeme}
use Rattle.vl_tree.specs.Seen.{view_block}
use Rattle.vl_tree.specs.Specify.{block}
use Rattle.vl_tree.specs.Tree.{SpecifyBlock}
use Rattle.vl_specify.specs.declared.faults.SpecifyKind.{SpecifyKind}
use Rattle.vl_specify.specs.declared.reading.SpecifyRead.{SpecifyRead}
use Rattle.vl_specify.specs.Faults.{KindStands}

-- the place of a fault: that of the token, or the end
abbrev pub fault_place : Place → Option Lexeme → Place
fault_place end None = end
fault_place end (Some t) = t.place

-- a refusal is at the failing token
abbrev pub RefusalStands : List Lexeme → ℕ → Place → Refused SpecifyKind → Type 0
RefusalStands ts i end NoMemory = Unit {0}
RefusalStands ts i end (Fault kind place) = (e : ℕ) × FailsFrom (block true).language ts i e × (place ≡ fault_place end (slice_get ts e)) × KindStands ts i e kind

-- what is read is this block, up to there, unless memory ran out
abbrev pub IsBlock : SpecifyBlock → ℕ → Result SpecifyRead (Refused SpecifyKind) → Type 0
IsBlock tree j (Ok found) = (view_block found.block ≡ tree) × (found.next ≡ j)
IsBlock tree j (Err NoMemory) = Unit {0}
IsBlock tree j (Err (Fault kind place)) = ⊥
