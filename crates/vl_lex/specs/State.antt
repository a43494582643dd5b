-- The state of the directives (IEEE 1364-2005, the clause on compiler directives), and the tokens so far.
use Rattle.std.specs.Prelude.{ℕ, pos, neg_ℤ, List, [], ◌∷◌, Bool, true, false, Option, Some, None, Result, Err}
use Rattle.sg_text.specs.declared.places.Place.{Place}
use Rattle.vl_token.specs.Tokens.{Settings, Lexeme}
use Rattle.vl_lex.specs.declared.faults.LexKind.{LexKind}
use Rattle.vl_pieces.specs.declared.modes.Mode.{Mode}
use Rattle.vl_pieces.specs.declared.modes.Mode.TheVariants.{Plain}
use Rattle.vl_lex.specs.declared.directives.Directive.{Directive}
use Rattle.vl_lex.specs.declared.branches.Branch.{Branch}

-- the text of each macro that is defined, by its name
abbrev pub Macros : Type 0
Macros = List ℕ → Option (List ℕ)

-- a word of a directive
pub record Word : Type 0 where
  pub is_name : Bool
  pub bytes : List ℕ

-- a directive that waits for its words, with those that it has
pub record Waiting : Type 0 where
  pub directive : Directive
  pub place : Place
  pub words : List Word

-- the innermost branch comes first, and so does the oldest token
pub record State : Type 0 where
  pub mode : Mode
  pub waiting : Option Waiting
  pub macros : Macros
  pub branches : List Branch
  pub settings : Settings
  pub tokens : List Lexeme

pub record Fault : Type 0 where
  pub kind : LexKind
  pub place : Place

-- what reading comes to: a state, or a fault
abbrev pub Outcome : Type 0
Outcome = Result State Fault

abbrev pub fault : LexKind → Place → Outcome
fault kind place = Err (record { kind = kind; place = place })

-- 1 ns / 1 ps, no cells, and nets that may be implicit
abbrev pub first_settings : Settings
first_settings = record { scale = record { unit = neg_ℤ (pos 9); precision = neg_ℤ (pos 12) }; cell = false; implicit = true }

abbrev pub first_state : State
first_state = record { mode = Plain; waiting = None; macros = λ name. None; branches = []; settings = first_settings; tokens = [] }

-- a directive waits for its words
abbrev pub waits : Waiting → State → State
waits w s = record s { waiting = Some w }

-- Whether the text at hand is taken: that of the innermost branch is. None is taken in text that isn't.
abbrev pub is_taken : List Branch → Bool
is_taken [] = true
is_taken (b ∷ bs) = b.taken

-- whether the text at hand is looked at: it is taken, or a directive waits for its words
abbrev pub is_looked_at : Option Waiting → List Branch → Bool
is_looked_at None branches = is_taken branches
is_looked_at (Some w) branches = true
