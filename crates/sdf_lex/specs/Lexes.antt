-- The tokens of an SDF file, or its fault.
use Rattle.std.specs.Prelude.{ℕ, ◌≡◌, ◌^◌, ◌+◌, ◌++◌, nat_lt, List, [], length, drop, Bool, true, false, Option, Some, None, Result, Ok, Err, map}
use Rattle.std.specs.Global.{Vec}
use Rattle.sg_text.specs.declared.places.Place.{Place}
use Rattle.sg_text.specs.declared.refusals.Refused.{Refused}
use Rattle.sg_text.specs.declared.refusals.Refused.TheVariants as refused
use Rattle.sdf_lex.specs.declared.faults.LexKind.{LexKind}
use Rattle.sdf_lex.specs.declared.faults.LexKind.TheVariants.{BadByte, FileTooLarge}
use Rattle.sdf_lex.specs.declared.tokens.Token.{Token}
use Rattle.sdf_lex.specs.Tokens.{Lexeme}
use Rattle.sdf_lex.specs.Pieces.{Piece, Spelled, tokens, first_bad}
use Rattle.sdf_lex.specs.Seen.{lexeme}

pub record Fault : Type 0 where
  pub kind : LexKind
  pub place : Place

abbrev pub Outcome : Type 0
Outcome = Result (List Lexeme) Fault

abbrev pub fault_at : LexKind → ℕ → Outcome
fault_at kind at = Err (record { kind = kind; place = record { file = 0; byte = at } })

abbrev pub bad_or : Option ℕ → List Lexeme → Outcome
bad_or None ts = Ok ts
bad_or (Some at) ts = fault_at BadByte at

-- what comes of pieces that begin at a byte, behind tokens that are there: the first bad byte, or the tokens
abbrev pub outcome : List Lexeme → ℕ → List Piece → Outcome
outcome before at ps = bad_or (first_bad at ps) (before ++ tokens at ps)

-- the pieces of the text that is left come to this
abbrev pub LexesFrom : List Lexeme → ℕ → List ℕ → Outcome → Type 0
LexesFrom before at text o = (ps : List Piece) × Spelled text ps × (o ≡ outcome before at ps)

-- Tokens come behind others, and what comes of the text behind its first bytes comes of the text with them in front.
pub record IsLexedBy (at : ℕ) (text : List ℕ) (size : ℕ) (before after : List Lexeme) : Type 0 where
  pub more : List Lexeme
  pub added : after ≡ before ++ more
  pub goes_on : (others : List Lexeme) (o : Outcome) → LexesFrom (others ++ more) (at + size) (drop size text) o → LexesFrom others at text o

-- a fault is what comes of the text; want of memory is free
abbrev pub IsRefusedBy : List Lexeme → ℕ → List ℕ → Refused LexKind → Type 0
IsRefusedBy before at text (refused.Fault k p) = LexesFrom before at text (Err (record { kind = k; place = p }))
IsRefusedBy before at text refused.NoMemory = Unit {0}

abbrev pub LexesUnless : Bool → ℕ → List ℕ → Outcome → Type 0
LexesUnless true largest text o = o ≡ fault_at FileTooLarge largest
LexesUnless false largest text o = LexesFrom [] 0 text o

-- The tokens of a file, or its first bad byte; a file has at most 2 ^ 28 bytes.
abbrev pub Lexes : List ℕ → Outcome → Type 0
Lexes text o = LexesUnless (nat_lt (2 ^ 28) (length text)) (2 ^ 28) text o

-- what a call answers holds, tokens or a fault; want of memory is free
abbrev pub Stands : (Outcome → Type 0) → Result (Vec Token) (Refused LexKind) → Type 0
Stands Holds (Ok ts) = Holds (Ok (map lexeme ts.items))
Stands Holds (Err (refused.Fault k p)) = Holds (Err (record { kind = k; place = p }))
Stands Holds (Err refused.NoMemory) = Unit {0}

-- what a call answers is this
abbrev pub Tells : Outcome → Result (Vec Token) (Refused LexKind) → Type 0
Tells o result = Stands (λ p. o ≡ p) result
