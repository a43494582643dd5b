-- The tokens of a list of files, or the first fault that is met.
use Rattle.std.specs.Prelude.{ℕ, zero, suc, ◌≡◌, ◌+◌, ◌^◌, nat_lt, List, [], ◌∷◌, length, take, drop, Option, Some, None, Result, Ok, Err, if◌then◌else◌}
use Rattle.sg_text.specs.declared.places.Place.{Place}
use Rattle.vl_token.specs.Tokens.{Lexeme}
use Rattle.vl_lex.specs.State.{Waiting, State, Fault, Outcome, fault, first_state}
use Rattle.vl_pieces.specs.Modes.{IsPiece, Piece, ArePieces}
use Rattle.vl_lex.specs.declared.faults.LexKind.TheVariants.{UnbalancedIf, MacroTooDeep, FileTooLarge, BadDirective}
use Rattle.vl_lex.specs.declared.faults.Found.{Found}
use Rattle.vl_lex.specs.declared.branches.Branch.{Branch}
use Rattle.vl_lex.specs.declared.origins.Origin.{Origin}
use Rattle.vl_lex.specs.declared.origins.Origin.TheVariants.{File, Macro as InMacro}
use Rattle.vl_lex.specs.Effects.{place_at, fault_of, Effect, mode_at, effect, comes_to, expands, defines}

abbrev pub fault_or : Origin → ℕ → Option Found → Option Fault → Option Fault
fault_or origin at (Some f) later = Some (record { kind = f.kind; place = place_at origin (at + f.behind) })
fault_or origin at None later = later

-- the first of these pieces that is a fault, where they begin at a byte
abbrev pub first_fault : Origin → ℕ → List ℕ → List Piece → Option Fault
first_fault origin at text [] = None
first_fault origin at text (p ∷ ps) = fault_or origin at (fault_of p.class (take p.size text)) (first_fault origin (at + p.size) (drop p.size text) ps)

-- the first fault of a text where no table and no edge list stands
abbrev pub Checks : Origin → ℕ → List ℕ → Option Fault → Type 0
Checks origin at text found = (ps : List Piece) × ArePieces text ps × (found ≡ first_fault origin at text ps)

abbrev pub or_state : Option Fault → State → Outcome
or_state None s = Ok s
or_state (Some f) s = Err f

-- What an effect leads to. Expands says how a macro's text is read.
abbrev pub Leads : (Place → List ℕ → State → Outcome → Type 0) → Effect → Outcome → Type 0
Leads Expands (comes_to outcome) o = o ≡ outcome
Leads Expands (expands place text s) o = Expands place text s o
Leads Expands (defines origin start text s) o = (found : Option Fault) × Checks origin start text found × (o ≡ or_state found s)

-- after a fault nothing is read
abbrev pub Then : Outcome → (State → Type 0) → (Fault → Type 0) → Type 0
Then (Ok s) rest failed = rest s
Then (Err f) rest failed = failed f

-- The text that is left, from a byte on, is read in a state by these pieces, with this outcome: each is the longest front
-- that has a form in the state's mode, and leads on to the next.
abbrev pub Reads : (Place → List ℕ → State → Outcome → Type 0) → Origin → ℕ → List ℕ → State → List Piece → Outcome → Type 0
Reads Expands origin at text s [] o = (text ≡ []) × (o ≡ Ok s)
Reads Expands origin at text s (p ∷ ps) o =
    IsPiece (mode_at s) text p.size p.class
    × ((between : Outcome) × Leads Expands (effect origin at p.class (take p.size text) s) between
    × Then between (λ next. Reads Expands origin (at + p.size) (drop p.size text) next ps o) (λ f. o ≡ Err f))

abbrev pub IsRead : (Place → List ℕ → State → Outcome → Type 0) → Origin → ℕ → List ℕ → State → Outcome → Type 0
IsRead Expands origin at text s o = (ps : List Piece) × Reads Expands origin at text s ps o

-- A macro's text is read at the place of its outermost use, where so many uses may still lie within one another.
unfoldable pub Expands : ℕ → Place → List ℕ → State → Outcome → Type 0
Expands zero place text s o = o ≡ fault MacroTooDeep place
Expands (suc left) place text s o = IsRead (Expands left) (InMacro place) 0 text s o

-- no directive goes over the end of a file
abbrev pub file_end : Option Waiting → State → Outcome
file_end None s = Ok s
file_end (Some w) s = fault BadDirective w.place

abbrev pub at_file_end : Outcome → Outcome
at_file_end (Ok s) = file_end s.waiting s
at_file_end (Err f) = Err f

-- the innermost branch that is open at the end is a fault
abbrev pub at_end : List Branch → State → Result (List Lexeme) Fault
at_end [] s = Ok s.tokens
at_end (b ∷ bs) s = Err (record { kind = UnbalancedIf; place = b.place })

-- The n-th file is read, where so many uses of macros may lie within one another.
abbrev pub IsFileRead : ℕ → ℕ → List ℕ → State → Outcome → Type 0
IsFileRead deepest n text s o = (read : Outcome) × IsRead (Expands deepest) (File n) 0 text s read × (o ≡ at_file_end read)

-- The files, from the n-th on, are read one after another.
abbrev pub LexesFrom : ℕ → ℕ → List (List ℕ) → State → Result (List Lexeme) Fault → Type 0
LexesFrom deepest n [] s o = o ≡ at_end s.branches s
LexesFrom deepest n (text ∷ texts) s o =
    (between : Outcome) × IsFileRead deepest n text s between
    × Then between (λ next. LexesFrom deepest (n + 1) texts next o) (λ f. o ≡ Err f)

-- the first file, from the n-th on, that has more bytes than one may have
abbrev pub too_large : ℕ → ℕ → List (List ℕ) → Option ℕ
too_large largest n [] = None
too_large largest n (text ∷ texts) = if nat_lt largest (length text) then Some n else too_large largest (n + 1) texts

abbrev pub LexesUnless : Option ℕ → ℕ → ℕ → List (List ℕ) → Result (List Lexeme) Fault → Type 0
LexesUnless (Some n) largest deepest files o = o ≡ Err (record { kind = FileTooLarge; place = record { file = n; byte = largest } })
LexesUnless None largest deepest files o = LexesFrom deepest 0 files first_state o

-- The token list of the files, or their first fault: a file has at most 2 ^ 28 bytes, and macros lie at most 16 deep
-- within one another.
abbrev pub Lexes : List (List ℕ) → Result (List Lexeme) Fault → Type 0
Lexes files o = LexesUnless (too_large (2 ^ 28) 0 files) (2 ^ 28) 16 files o
