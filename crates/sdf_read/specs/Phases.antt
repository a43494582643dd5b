-- A bridge, on which no public clause rests: what a refusal of each phase tells, and what the phases that read a tree leave.
use Rattle.std.specs.Prelude.{◌≡◌, ℕ, true, List, length, Result, Ok, Err, slice_get}
use Rattle.sg_text.specs.declared.places.Place.{Place}
use Rattle.sg_text.specs.declared.refusals.Refused.{Refused}
use Rattle.sg_text.specs.declared.refusals.Refused.TheVariants as code
use Rattle.sdf_lex.specs.declared.faults.LexKind.{LexKind}
use Rattle.sdf_lex.specs.Lexes.{Lexes}
use Rattle.sdf_lex.specs.Tokens.{Lexeme}
use Rattle.sdf_tree.specs.Files.{file}
use Rattle.sdf_tree.specs.Meant.{Sdf}
use Rattle.sdf_tree.specs.Written.{FilePart}
use Rattle.sdf_read.specs.declared.faults.SdfKind.{SdfKind}
use Rattle.sdf_read.specs.declared.faults.SdfKind.TheVariants.{TooDeep}
use Rattle.sdf_read.specs.Depth.{IsTooDeep, NoneTooDeep}
use Rattle.sdf_read.specs.Outcomes.{Fault, refused}
use Rattle.sdf_read.specs.Reading.{fault_place}
use Rattle.sdf_read.specs.Reads.{kind_of_bytes}

-- the bytes have a fault
abbrev pub BytesStand : List ℕ → Refused SdfKind → Type 0
BytesStand bytes code.NoMemory = Unit {0}
BytesStand bytes (code.Fault kind place) = (k : LexKind) × (kind ≡ kind_of_bytes k) × Lexes bytes (Err (record { kind = k; place = place }))

-- a parenthesis is too deep
abbrev pub DepthStands : List Lexeme → Place → Refused SdfKind → Type 0
DepthStands ts end code.NoMemory = Unit {0}
DepthStands ts end (code.Fault kind place) = (i : ℕ) × IsTooDeep ts i × (kind ≡ TooDeep) × (place ≡ fault_place end (slice_get ts i))

-- a refusal holds; want of memory is free
abbrev pub Refuses : (Result Sdf Fault → Type 0) → Refused SdfKind → Type 0
Refuses Holds code.NoMemory = Unit {0}
Refuses Holds (code.Fault kind place) = Holds (refused kind place)

-- tokens that are nowhere too deep spell these parts
abbrev pub AreSpelled : List Lexeme → List FilePart → Type 0
AreSpelled ts ps = NoneTooDeep ts × (file true).language.Spells ts 0 ps (length ts)

-- the tokens of these bytes do
abbrev pub AreRead : List ℕ → List FilePart → Type 0
AreRead bytes ps = (ts : List Lexeme) × Lexes bytes (Ok ts) × AreSpelled ts ps
