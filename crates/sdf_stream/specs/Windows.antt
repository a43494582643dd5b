-- What it says that a text was read on.
use Rattle.std.specs.Prelude.{◌≡◌, ◌≤◌, ◌<◌, ◌++◌, Bool, true, false, List, [], ◌∷◌, length, map}
use Rattle.sdf_lex.specs.Lexes.{LexesFrom, Outcome}
use Rattle.sdf_lex.specs.Seen.{lexeme}
use Rattle.sdf_lex.specs.Tokens.{Lexeme}
use Rattle.sdf_tree.specs.Kinds.{is_left, is_right, is_word, kind_of}
use Rattle.sdf_tree.specs.Rules.{Grammar, mark}
use Rattle.sdf_tree.specs.declared.keywords.Keyword.{Keyword}
use Rattle.sdf_windows.specs.Movable.{Says}
use Rattle.sdf_read.specs.Depth.{AreShallow, depth_from}
use Rattle.sdf_stream.specs.declared.window.Window.{Window}

-- the tokens at hand
abbrev pub seen : Window → List Lexeme
seen w = map lexeme w.tokens.items

-- These tokens stand between two places of a text, and none of them is too deep: what comes of the text behind them comes of the text with
-- them in front.
pub record Passed (old new : Window) (ts : List Lexeme) : Type 0 where
  pub goes_on : (others : List Lexeme) (o : Outcome) → LexesFrom (others ++ ts) new.at new.rest.now o → LexesFrom others old.at old.rest.now o
  pub depth : new.depth ≡ depth_from old.depth ts
  pub shallow : AreShallow old.depth ts
  pub nearer : length new.rest.now ≤ length old.rest.now

-- they were put behind those at hand
pub record Grown (old new : Window) : Type 0 where
  pub more : List Lexeme
  pub added : seen new ≡ seen old ++ more
  pub passed : Passed old new more

-- and some of the text was read
pub record Stepped (old new : Window) : Type 0 where
  pub grown : Grown old new
  pub nearer : length new.rest.now < length old.rest.now

-- or the text ends, and has no token more
pub record HasMore (old new : Window) (more : Bool) : Type 0 where
  pub grown : Grown old new
  pub some : more ≡ true → length new.rest.now < length old.rest.now
  pub none : more ≡ false → (length new.rest.now ≡ 0) × (length (seen new) ≡ length (seen old))

-- the tokens at hand are the next; where no more comes they are a parenthesis that closes
pub record Opened (old new : Window) (more : Bool) : Type 0 where
  pub passed : Passed old new (seen new)
  pub some : length new.rest.now < length old.rest.now
  pub closes : more ≡ false → Says (mark is_right) (seen new) tt

-- a parenthesis that opens, and a word
abbrev pub Begins : Keyword → List Lexeme → Type 0
Begins word ts = (t : Lexeme) × (u : Lexeme) × (ts ≡ t ∷ u ∷ []) × (is_left (kind_of t) ≡ true) × (is_word word (kind_of u) ≡ true)

-- the tokens at hand and some more spell a value
pub record IsOne {A : Type 0} (r : Grammar A) (old new : Window) (x : A) : Type 0 where
  pub more : List Lexeme
  pub passed : Passed old new more
  pub says : Says r (seen old ++ more) x

-- the next tokens spell a value
pub record IsNext {A : Type 0} (r : Grammar A) (old new : Window) (x : A) : Type 0 where
  pub tokens : List Lexeme
  pub passed : Passed old new tokens
  pub says : Says r tokens x
