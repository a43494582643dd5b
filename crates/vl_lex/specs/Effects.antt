-- What comes of each piece of a text: tokens, a fault, or a change of the state.
use Rattle.std.specs.Prelude.{ℕ, ◌+◌, ◌==◌, ◌||◌, not, List, [], ◌∷◌, ◌++◌, length, take, drop, Bool, true, false, Option, Some, None, Ok, if◌then◌else◌, codes}
use Rattle.std.specs.List.{prefix_len}
use Rattle.std.specs.Char.{is_ascii_graphic}
use Rattle.sg_text.specs.declared.places.Place.{Place}
use Rattle.sg_text.specs.Names.{is_name_start, is_name_byte}
use Rattle.vl_pieces.specs.Bytes.{is_blank}
use Rattle.vl_token.specs.Tokens.{Meaning, Lexeme}
use Rattle.vl_pieces.specs.Bytes.{same_bytes}
use Rattle.vl_lex.specs.State.{waits, Waiting, State, Outcome, fault, is_taken, is_looked_at}
use Rattle.vl_lex.specs.Directives.{directive_of, is_conditional, words_wanted, with_macro, outcome_of_directive}
use Rattle.vl_lex.specs.declared.faults.LexKind.{LexKind}
use Rattle.vl_lex.specs.declared.faults.LexKind.TheVariants.{BadByte, UnendedComment, UnendedText, UnknownDirective, BadDirective}
use Rattle.vl_lex.specs.declared.faults.Found.{Found}
use Rattle.vl_lex.specs.declared.directives.Directive.{Directive}
use Rattle.vl_lex.specs.declared.directives.Directive.TheVariants.{Define}
use Rattle.vl_pieces.specs.declared.modes.Mode.{Mode}
use Rattle.vl_pieces.specs.declared.modes.Mode.TheVariants.{Plain, AfterEdge, Edges, Table, EdgesTable, Line}
use Rattle.vl_lex.specs.declared.origins.Origin.{Origin}
use Rattle.vl_lex.specs.declared.origins.Origin.TheVariants.{File, Macro as InMacro}
use Rattle.vl_pieces.specs.declared.pieces.Class.{Class}
use Rattle.vl_pieces.specs.declared.pieces.Class.TheVariants as class
use Rattle.vl_pieces.specs.Meanings.{meaning_of}

-- the place of a byte; all that a macro gives has the place of its outermost use
abbrev pub place_at : Origin → ℕ → Place
place_at (File n) at = record { file = n; byte = at }
place_at (InMacro place) at = place

-- the mode behind a name
abbrev pub mode_by_name : List ℕ → Mode
mode_by_name bytes = if same_bytes bytes (codes "edge") then AfterEdge else if same_bytes bytes (codes "table") then Table else Plain

-- the mode behind a piece
abbrev pub behind_plain : Class → List ℕ → Mode
behind_plain class.Name bytes = mode_by_name bytes
behind_plain _ bytes = Plain

abbrev pub behind_edge : Class → List ℕ → Mode
behind_edge class.Gap bytes = AfterEdge
behind_edge class.Attribute bytes = AfterEdge
behind_edge class.Symbol bytes = if same_bytes bytes (codes "[") then Edges else Plain
behind_edge c bytes = behind_plain c bytes

-- a table in an edge list doesn't end the list
abbrev pub behind_edges : Class → List ℕ → Mode
behind_edges class.Symbol bytes = if same_bytes bytes (codes "]") then Plain else Edges
behind_edges class.Name bytes = if same_bytes bytes (codes "table") then EdgesTable else Edges
behind_edges _ bytes = Edges

-- a name in a table is the word that ends it
abbrev pub behind_cell : (here behind : Mode) → Class → Mode
behind_cell here behind class.Name = behind
behind_cell here behind _ = here

abbrev pub mode_behind : Mode → Class → List ℕ → Mode
mode_behind Plain c bytes = behind_plain c bytes
mode_behind AfterEdge c bytes = behind_edge c bytes
mode_behind Edges c bytes = behind_edges c bytes
mode_behind Table c bytes = behind_cell Table Plain c
mode_behind EdgesTable c bytes = behind_cell EdgesTable Edges c
mode_behind Line c bytes = behind_plain c bytes

abbrev pub tokens_at : Place → Option Meaning → List Lexeme
tokens_at place None = []
tokens_at place (Some meaning) = record { meaning = meaning; place = place } ∷ []

abbrev pub is_bad : ℕ → Bool
is_bad b = not (is_blank b || is_ascii_graphic b)

-- the first bad byte, n bytes behind the first
abbrev pub bad_from : ℕ → List ℕ → Option Found
bad_from n [] = None
bad_from n (b ∷ bs) = if is_bad b then Some (record { kind = BadByte; behind = n }) else bad_from (n + 1) bs

-- the fault that a piece is, if it is one: a bad byte is one in an attribute too
abbrev pub fault_of : Class → List ℕ → Option Found
fault_of class.BadByte bytes = Some (record { kind = BadByte; behind = 0 })
fault_of class.Attribute bytes = bad_from 0 bytes
fault_of class.UnendedComment bytes = Some (record { kind = UnendedComment; behind = 0 })
fault_of class.UnendedText bytes = Some (record { kind = UnendedText; behind = 0 })
fault_of _ bytes = None

-- of these, text that isn't looked at has but the last two
abbrev pub fault_in : Bool → Class → List ℕ → Option Found
fault_in true c bytes = fault_of c bytes
fault_in false class.BadByte bytes = None
fault_in false class.Attribute bytes = None
fault_in false c bytes = fault_of c bytes

-- what comes of a piece
pub data Effect : Type 0 where
  comes_to : Outcome → Effect
  -- a macro is used at a place, and its text stands for it
  expands : (place : Place) → (text : List ℕ) → State → Effect
  -- a macro is defined, where its text, which begins at a byte, is without fault
  defines : (origin : Origin) → (start : ℕ) → (text : List ℕ) → State → Effect

abbrev pub stops : LexKind → Place → Effect
stops kind place = comes_to (fault kind place)

abbrev pub is_define : Directive → Bool
is_define Define = true
is_define _ = false

-- the mode of the piece that comes next: a definition is a line, and in text that isn't taken no table or edge list stands
abbrev pub next_mode : Option Waiting → Bool → Mode → Mode
next_mode (Some w) taken mode = if is_define w.directive then Line else Plain
next_mode None true mode = mode
next_mode None false mode = Plain

abbrev pub mode_at : State → Mode
mode_at s = next_mode s.waiting (is_taken s.branches) s.mode

abbrev pub taken_piece : Place → Class → List ℕ → State → State
taken_piece place c bytes s = record s { mode = mode_behind s.mode c bytes; tokens = s.tokens ++ tokens_at place (meaning_of c bytes s.settings) }

-- a directive that has all its words is applied
abbrev pub apply_or_wait : Waiting → State → Outcome
apply_or_wait w s =
    if length w.words == words_wanted w.directive s.branches then outcome_of_directive w.directive w.place w.words (record s { waiting = None })
    else Ok (waits w s)

-- A definition is blanks, a name, and the text behind it. A `(` that touches the name is refused.
abbrev pub begins_arguments : List ℕ → Bool
begins_arguments [] = false
begins_arguments (b ∷ bs) = b == 40

abbrev pub begins_name : List ℕ → Bool
begins_name [] = false
begins_name (b ∷ bs) = is_name_start b

abbrev pub define_effect : Origin → ℕ → Place → List ℕ → List ℕ → State → Effect
define_effect origin start place name text s =
    if begins_arguments text then stops BadDirective place
    else defines origin start text (with_macro name text s)

abbrev pub define_effect_behind : Origin → ℕ → Place → ℕ → List ℕ → State → Effect
define_effect_behind origin at place blanks bytes s =
    if (blanks == 0) || not (begins_name bytes) then stops BadDirective place
    else define_effect origin (at + blanks + prefix_len is_name_byte bytes) place (take (prefix_len is_name_byte bytes) bytes) (drop (prefix_len is_name_byte bytes) bytes) s

abbrev pub line_effect : Origin → ℕ → Place → List ℕ → State → Effect
line_effect origin at place line s = define_effect_behind origin at place (prefix_len is_blank line) (drop (prefix_len is_blank line) line) s

-- blanks, comments and attributes stand between words, but not in a definition
abbrev pub gap_outcome : Waiting → State → Outcome
gap_outcome w s = if is_define w.directive then fault BadDirective w.place else Ok s

abbrev pub with_word : Bool → List ℕ → Waiting → Waiting
with_word is_name bytes w = record w { words = w.words ++ record { is_name = is_name; bytes = bytes } ∷ [] }

-- a piece where a directive waits for words
abbrev pub word_effect : Origin → ℕ → Waiting → Class → List ℕ → State → Effect
word_effect origin at w class.Gap bytes s = comes_to (gap_outcome w s)
word_effect origin at w class.Attribute bytes s = comes_to (gap_outcome w s)
word_effect origin at w class.Line bytes s = line_effect origin at w.place bytes (record s { waiting = None })
word_effect origin at w class.Use bytes s = stops BadDirective w.place
word_effect origin at w class.Name bytes s = comes_to (apply_or_wait (with_word true bytes w) s)
word_effect origin at w c bytes s = comes_to (apply_or_wait (with_word false bytes w) s)

abbrev pub first_words : Directive → Place → Waiting
first_words d place = record { directive = d; place = place; words = [] }

abbrev pub use_effect : Place → Option (List ℕ) → State → Effect
use_effect place (Some text) s = expands place text s
use_effect place None s = stops UnknownDirective place

-- A backquote with a name is a directive, or else a macro's use; in a macro's text it is always a use.
abbrev pub tick_effect : Origin → Place → List ℕ → Option Directive → State → Effect
tick_effect (InMacro outermost) place name d s = use_effect place (s.macros name) s
tick_effect (File n) place name None s = use_effect place (s.macros name) s
tick_effect (File n) place name (Some d) s = comes_to (apply_or_wait (first_words d place) s)

-- the same in text that isn't taken: only what opens, goes on with or closes a branch counts
abbrev pub untaken_outcome : Place → Option Directive → State → Outcome
untaken_outcome place None s = Ok s
untaken_outcome place (Some d) s = if is_conditional d then apply_or_wait (first_words d place) s else Ok s

abbrev pub is_use : Class → Bool
is_use class.Use = true
is_use _ = false

-- a piece of text that is taken, or that isn't
abbrev pub effect_at : Bool → Origin → Place → Class → List ℕ → State → Effect
effect_at true origin place c bytes s =
    if is_use c then tick_effect origin place (drop 1 bytes) (directive_of (drop 1 bytes)) s
    else comes_to (Ok (taken_piece place c bytes s))
effect_at false origin place c bytes s = comes_to (if is_use c then untaken_outcome place (directive_of (drop 1 bytes)) s else Ok s)

abbrev pub effect_of : Option Found → Option Waiting → Origin → ℕ → Class → List ℕ → State → Effect
effect_of (Some f) waiting origin at c bytes s = stops f.kind (place_at origin (at + f.behind))
effect_of None (Some w) origin at c bytes s = word_effect origin at w c bytes s
effect_of None None origin at c bytes s = effect_at (is_taken s.branches) origin (place_at origin at) c bytes s

-- What comes of a piece of this class and these bytes, which stands at this byte.
abbrev pub effect : Origin → ℕ → Class → List ℕ → State → Effect
effect origin at c bytes s = effect_of (fault_in (is_looked_at s.waiting s.branches) c bytes) s.waiting origin at c bytes s
