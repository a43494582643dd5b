-- A bridge, on which no public clause rests: what the code keeps while it reads as a state of the definition, and what its steps
-- answer.
use Rattle.std.specs.Prelude.{ℕ, ◌≡◌, List, map, reverse, Option, Some, None, Result, Ok, Err}
use Rattle.std.specs.Option.{option_map}
use Rattle.std.specs.Borrow.{Bor}
use Rattle.indexmap.specs.IndexMap.{get_by}
use Rattle.sg_text.specs.declared.places.Place.{Place}
use Rattle.sg_text.specs.declared.refusals.Refused.{Refused}
use Rattle.sg_text.specs.declared.refusals.Refused.TheVariants as refused
use Rattle.vl_pieces.specs.Bytes.{same_bytes}
use Rattle.vl_lex.specs.State as def
use Rattle.vl_lex.specs.State.{State, Fault, Outcome}
use Rattle.vl_lex.specs.Effects.{Effect, expands}
use Rattle.vl_lex.specs.Lexes.{Leads, Checks, LexesFrom, at_end}
use Rattle.vl_lex.specs.declared.faults.LexKind.{LexKind}
use Rattle.vl_lex.specs.declared.directives.Word.{Word}
use Rattle.vl_lex.specs.declared.directives.Waiting.{Waiting}
use Rattle.vl_lex.specs.declared.macros.Macros.{Macros}
use Rattle.vl_lex.specs.declared.lexer.Lexer.{Lexer}
use Rattle.vl_lex.specs.declared.origins.Origin.{Origin}
use Rattle.vl_token.specs.Seen.{settings, lexeme}

abbrev pub word : Word → def.Word
word w = record { is_name = w.is_name; bytes = w.bytes.now }

abbrev pub waiting : Waiting → def.Waiting
waiting w = record { directive = w.directive; place = w.place; words = map word w.words.items }

-- the text of each name that is a key
abbrev pub macros : Macros → def.Macros
macros m name = option_map (λ t. t.bytes.now) (get_by (λ key. same_bytes name key.now) m.texts)

-- the innermost branch comes last in the code
abbrev pub state : Lexer → State
state l = record {
  mode = l.mode;
  waiting = option_map waiting l.waiting;
  macros = macros l.macros;
  branches = reverse l.branches.items;
  settings = settings l.mark;
  tokens = map lexeme l.tokens.items;
}

-- what comes of a call holds, a state or a fault; want of memory is free
abbrev pub Answers : (Outcome → Type 0) → State → Result Unit (Refused LexKind) → Type 0
Answers Holds new (Ok _) = Holds (Ok new)
Answers Holds new (Err (refused.Fault k p)) = Holds (Err (record { kind = k; place = p }))
Answers Holds new (Err refused.NoMemory) = Unit {0}

-- what comes of a call is this
abbrev pub Gives : Outcome → State → Result Unit (Refused LexKind) → Type 0
Gives outcome new result = Answers (λ o. outcome ≡ o) new result

-- a text was looked through for a fault; want of memory is free
abbrev pub IsChecked : Origin → ℕ → List ℕ → Result Unit (Refused LexKind) → Type 0
IsChecked origin start text (Ok _) = Checks origin start text None
IsChecked origin start text (Err (refused.Fault k p)) = Checks origin start text (Some (record { kind = k; place = p }))
IsChecked origin start text (Err refused.NoMemory) = Unit {0}

-- no macro's text is read
abbrev pub NoText : Place → List ℕ → State → Outcome → Type 0
NoText place text s o = ⊥

-- A step does all that comes of a piece but the reading of a macro's text, which it gives.
abbrev pub Steps : Effect → Place → State → Result (Option (Bor (List ℕ))) (Refused LexKind) → Type 0
Steps effect place new (Ok None) = Leads NoText effect (Ok new)
Steps effect place new (Ok (Some text)) = effect ≡ expands place text.now new
Steps effect place new (Err (refused.Fault k p)) = Leads NoText effect (Err (record { kind = k; place = p }))
Steps effect place new (Err refused.NoMemory) = Unit {0}

-- the files, from the n-th on, were read
abbrev pub AreRead : ℕ → ℕ → List (List ℕ) → State → State → Result Unit (Refused LexKind) → Type 0
AreRead deepest n files old new (Ok _) = LexesFrom deepest n files old (at_end new.branches new)
AreRead deepest n files old new (Err (refused.Fault k p)) = LexesFrom deepest n files old (Err (record { kind = k; place = p }))
AreRead deepest n files old new (Err refused.NoMemory) = Unit {0}
