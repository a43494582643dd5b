-- What an SDF file is (IEEE 1497-2001): what it means, or a fault and its place. The phases are the file's size and its bytes, and
-- then those of its tokens.
use Rattle.std.specs.Prelude.{◌≡◌, ℕ, List, length, Result, Ok, Err}
use Rattle.sg_text.specs.declared.places.Place.{Place}
use Rattle.sg_text.specs.declared.refusals.Refused.{Refused}
use Rattle.sg_text.specs.declared.refusals.Refused.TheVariants as code
use Rattle.sdf_lex.specs.declared.faults.LexKind.{LexKind}
use Rattle.sdf_lex.specs.declared.faults.LexKind.TheVariants as lex
use Rattle.sdf_lex.specs.Lexes.{Lexes}
use Rattle.sdf_lex.specs.Tokens.{Lexeme}
use Rattle.sdf_tree.specs.declared.tree.Sdf as code_sdf
use Rattle.sdf_tree.specs.Meant.{Sdf}
use Rattle.sdf_read.specs.declared.faults.SdfKind.{SdfKind}
use Rattle.sdf_read.specs.declared.faults.SdfKind.TheVariants.{BadByte, FileTooLarge}
use Rattle.sdf_meaning.specs.MeantSeen.{view_sdf}
use Rattle.sdf_read.specs.Outcomes.{Fault, refused, Outcome}

-- what a fault of the bytes is as one of the file
abbrev pub kind_of_bytes : LexKind → SdfKind
kind_of_bytes lex.BadByte = BadByte
kind_of_bytes lex.FileTooLarge = FileTooLarge

-- the place behind the last byte
abbrev pub end_of : List ℕ → Place
end_of bytes = record { file = 0; byte = length bytes }

-- the bytes have a fault; or tokens, and their outcome is the file's
pub data Reads (bytes : List ℕ) (o : Result Sdf Fault) : Type 0 where
  has_fault : (kind : LexKind) (place : Place) → Lexes bytes (Err (record { kind = kind; place = place })) → o ≡ refused (kind_of_bytes kind) place → Reads bytes o
  has_tokens : (ts : List Lexeme) → Lexes bytes (Ok ts) → Outcome ts (end_of bytes) o → Reads bytes o

-- what a call answers holds, what a file means or a fault; want of memory is free
abbrev pub Stands : (Result Sdf Fault → Type 0) → Result code_sdf.Sdf (Refused SdfKind) → Type 0
Stands Holds (Ok sdf) = Holds (Ok (view_sdf sdf))
Stands Holds (Err (code.Fault kind place)) = Holds (refused kind place)
Stands Holds (Err code.NoMemory) = Unit {0}

-- what a call answers is this
abbrev pub Tells : Result Sdf Fault → Result code_sdf.Sdf (Refused SdfKind) → Type 0
Tells o result = Stands (λ p. o ≡ p) result
