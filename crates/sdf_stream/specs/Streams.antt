-- What it says that a file is read entry by entry.
use Rattle.std.specs.Prelude.{◌≡◌, ◌++◌, ◌≤◌, ◌^◌, ℕ, ℤ, Bool, true, false, List, [], ◌∷◌, Ok, length}
use Rattle.std.specs.List.{flat_map}
use Rattle.grammar.specs.States.{SpellsBy, state_after}
use Rattle.sdf_lex.specs.Lexes.{LexesFrom, Outcome}
use Rattle.sdf_lex.specs.Tokens.{Lexeme}
use Rattle.sdf_tree.specs.Faults.{file_crossings, file_numbers}
use Rattle.sdf_tree.specs.Files.{file_part, first_state, state_after_part}
use Rattle.sdf_tree.specs.Kinds.{is_left, is_right, is_word, kind_of}
use Rattle.sdf_tree.specs.Meant.{sdf_of}
use Rattle.sdf_tree.specs.Rules.{mark}
use Rattle.sdf_tree.specs.Written.{FilePart, Head, a_head, divider_head, text_head, unit_head, value_head}
use Rattle.sdf_tree.specs.declared.keywords.Keyword.TheVariants as keyword
use Rattle.sdf_tree.specs.declared.words.Divider.{Divider}
use Rattle.sdf_windows.specs.Movable.{Says}
use Rattle.sdf_read.specs.Depth.{AreShallow, depth_from}
use Rattle.sdf_read.specs.Outcomes.{meaning_of}
use Rattle.sdf_read.specs.Phases.{AreRead}
use Rattle.sdf_stream.specs.Scans.{AreFine}
use Rattle.sdf_stream.specs.Told.{Told, told_in}
use Rattle.sdf_stream.specs.Windows.{Passed, seen}
use Rattle.sdf_stream.specs.declared.streams.Stream.{Stream}
use Rattle.sdf_stream.specs.declared.window.Window.{Window}

-- these tokens of a text stand before a place of it, and none is too deep
pub record IsBehind (text : List ℕ) (before : List Lexeme) (w : Window) : Type 0 where
  pub few : length text ≤ 2 ^ 28
  pub goes_on : (o : Outcome) → LexesFrom before w.at w.rest.now o → LexesFrom [] 0 text o
  pub depth : w.depth ≡ depth_from 0 before
  pub shallow : AreShallow 0 before

-- the first two tokens of a file are at hand
pub record IsBegun (text : List ℕ) (w : Window) : Type 0 where
  pub left : Lexeme
  pub word : Lexeme
  pub tokens : seen w ≡ left ∷ word ∷ []
  pub opens : is_left (kind_of left) ≡ true
  pub begins : is_word keyword.DelayFile (kind_of word) ≡ true
  pub behind : IsBehind text (left ∷ word ∷ []) w

-- the tokens at hand and some more are a head in parentheses, without fault
pub record IsHead (old new : Window) (h : Head) : Type 0 where
  pub more : List Lexeme
  pub passed : Passed old new more
  pub says : (divider : Divider) → Says (file_part true (record { heads = true; divider = divider })) (seen old ++ more) (a_head h)
  pub fine : AreFine (file_numbers (a_head h)) (file_crossings (a_head h))

-- the unit and the divider that are said, with another head
abbrev pub with_head : ℤ → Divider → Head → ℤ × Divider
with_head unit divider text_head = (unit, divider)
with_head unit divider (divider_head d) = (unit, d)
with_head unit divider (unit_head u) = (u, divider)
with_head unit divider (value_head v) = (unit, divider)

-- Behind the beginning of a file and these tokens, which spell parts of it without fault, a place of the text is reached. The parts say
-- this of the unit and the divider; heads may come or not.
pub record AreParts (text : List ℕ) (at_hand : List Lexeme) (w : Window) (heads : Bool) (unit : ℤ) (divider : Divider) (ps : List FilePart) : Type 0 where
  pub left : Lexeme
  pub word : Lexeme
  pub tokens : List Lexeme
  pub opens : is_left (kind_of left) ≡ true
  pub begins : is_word keyword.DelayFile (kind_of word) ≡ true
  pub behind : IsBehind text (left ∷ word ∷ tokens ++ at_hand) w
  pub spelled : SpellsBy (λ s. (file_part true s).language) state_after_part tokens first_state 0 ps (length tokens)
  pub state : state_after state_after_part first_state ps ≡ record { heads = heads; divider = divider }
  pub fine : AreFine (flat_map file_numbers ps) (flat_map file_crossings ps)
  pub unit_is : (sdf_of ps).unit ≡ unit
  pub divider_is : (sdf_of ps).divider ≡ divider

-- a file's heads were read, and the next tokens are at hand: a parenthesis that closes the file, or the first two of a part
pub record IsOpened (text : List ℕ) (s : Stream) : Type 0 where
  pub parts : List FilePart
  pub read : AreParts text (seen s.window) s.window true s.unit.power s.divider parts
  pub no_cells : (sdf_of parts).cells ≡ []
  pub closes : s.more ≡ false → Says (mark is_right) (seen s.window) tt

-- no token is left
abbrev pub EndsText : Window → Type 0
EndsText w = (before : List Lexeme) → LexesFrom before w.at w.rest.now (Ok before)

-- a file is without fault, and all its entries were told
pub record IsTellable (text : List ℕ) (unit : ℤ) (divider : Divider) (Came : List Told → Type 0) : Type 0 where
  pub parts : List FilePart
  pub read : AreRead text parts
  pub fine : meaning_of parts ≡ Ok (sdf_of parts)
  pub unit_is : (sdf_of parts).unit ≡ unit
  pub divider_is : (sdf_of parts).divider ≡ divider
  pub came : Came (flat_map told_in (sdf_of parts).cells)

-- and behind some of its cells: their entries were told, and the next tokens are at hand
pub record IsAmid (text : List ℕ) (unit : ℤ) (divider : Divider) (Came : List Told → Type 0) (w : Window) (more : Bool) : Type 0 where
  pub parts : List FilePart
  pub heads : Bool
  pub read : AreParts text (seen w) w heads unit divider parts
  pub closes : more ≡ false → Says (mark is_right) (seen w) tt
  pub came : Came (flat_map told_in (sdf_of parts).cells)
