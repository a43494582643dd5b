-- What it says that a file's tokens were read, or refused.
use Rattle.std.specs.Prelude.{◌≡◌, ℕ, ◌+◌, true, false, ◌⊎◌, List, Option, Some, None, Result, Ok, Err, slice_get}
use Rattle.sg_text.specs.declared.places.Place.{Place}
use Rattle.sg_text.specs.declared.refusals.Refused.{Refused}
use Rattle.sg_text.specs.declared.refusals.Refused.TheVariants.{Fault, NoMemory}
use Rattle.grammar.specs.Reads.{FailsAt}
use Rattle.sdf_lex.specs.Tokens.{Lexeme}
use Rattle.sdf_tree.specs.declared.written.WrittenFile.{WrittenFile}
use Rattle.sdf_tree.specs.Files.{file}
use Rattle.sdf_tree.specs.Seen.{view_file}
use Rattle.sdf_tree.specs.Written.{FilePart}
use Rattle.sdf_read.specs.declared.faults.SdfKind.{SdfKind}
use Rattle.sdf_read.specs.declared.faults.SdfKind.TheVariants.{Syntax, BadCount}

-- the kind at a failing token: where the file with lists of any length goes on with it, a list has a wrong length
abbrev pub KindStands : List Lexeme → ℕ → SdfKind → Type 0
KindStands ts e kind = ((file false).language.Begins ts 0 (e + 1) × (kind ≡ BadCount)) ⊎ (((file false).language.Begins ts 0 (e + 1) → ⊥) × (kind ≡ Syntax))

-- the place of a fault: that of the token, or the end
abbrev pub fault_place : Place → Option Lexeme → Place
fault_place end None = end
fault_place end (Some t) = t.place

-- a refusal is at the failing token
abbrev pub RefusalStands : List Lexeme → Place → Refused SdfKind → Type 0
RefusalStands ts end NoMemory = Unit {0}
RefusalStands ts end (Fault kind place) = (e : ℕ) × FailsAt (file true).language ts e × (place ≡ fault_place end (slice_get ts e)) × KindStands ts e kind

-- what is read are these parts, unless memory ran out
abbrev pub IsFile : List FilePart → Result WrittenFile (Refused SdfKind) → Type 0
IsFile parts (Ok file) = view_file file ≡ parts
IsFile parts (Err NoMemory) = Unit {0}
IsFile parts (Err (Fault kind place)) = ⊥
