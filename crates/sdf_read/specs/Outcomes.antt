-- What a file's tokens are: a tree, or a fault of one kind and its place. Each phase yields to those before it: how deep parentheses
-- stand, the grammar, the numbers, and limits that cross.
use Rattle.std.specs.Prelude.{◌≡◌, ℕ, true, List, length, Option, Some, None, Result, Ok, Err, slice_get}
use Rattle.std.specs.List.{flat_map}
use Rattle.grammar.specs.Reads.{FailsAt}
use Rattle.sg_text.specs.declared.places.Place.{Place}
use Rattle.sdf_lex.specs.Tokens.{Lexeme}
use Rattle.sdf_tree.specs.Faults.{file_numbers, file_crossings}
use Rattle.sdf_tree.specs.Files.{file}
use Rattle.sdf_tree.specs.Meant.{Sdf, sdf_of}
use Rattle.sdf_tree.specs.Written.{FilePart}
use Rattle.sdf_read.specs.declared.faults.SdfKind.{SdfKind}
use Rattle.sdf_read.specs.declared.faults.SdfKind.TheVariants.{BadNumber, TooDeep, LimitsCross}
use Rattle.sdf_read.specs.Depth.{IsTooDeep, NoneTooDeep}
use Rattle.sdf_meaning.specs.FirstFaults.{bad_number, crossing}
use Rattle.sdf_read.specs.Reading.{KindStands, fault_place}

pub record Fault : Type 0 where
  pub kind : SdfKind
  pub place : Place

abbrev pub refused : SdfKind → Place → Result Sdf Fault
refused kind place = Err (record { kind = kind; place = place })

-- the first number that is none, the first limits that cross, or what the parts mean
abbrev pub meaning_unless : Option Place → Option Place → List FilePart → Result Sdf Fault
meaning_unless (Some p) c ps = refused BadNumber p
meaning_unless None (Some p) ps = refused LimitsCross p
meaning_unless None None ps = Ok (sdf_of ps)

abbrev pub meaning_of : List FilePart → Result Sdf Fault
meaning_of ps = meaning_unless (bad_number (flat_map file_numbers ps)) (crossing (flat_map file_crossings ps)) ps

-- the first parenthesis that is too deep; or the failing token, with its kind; or what the parts mean that the tokens spell
pub data Outcome (ts : List Lexeme) (end : Place) (o : Result Sdf Fault) : Type 0 where
  is_deep : (i : ℕ) → IsTooDeep ts i → o ≡ refused TooDeep (fault_place end (slice_get ts i)) → Outcome ts end o
  is_refused : NoneTooDeep ts → (e : ℕ) → FailsAt (file true).language ts e → (kind : SdfKind) → KindStands ts e kind → o ≡ refused kind (fault_place end (slice_get ts e)) → Outcome ts end o
  is_spelled : NoneTooDeep ts → (ps : List FilePart) → (file true).language.Spells ts 0 ps (length ts) → o ≡ meaning_of ps → Outcome ts end o
