-- That a written text is read as its tree, places aside.
use Rattle.std.specs.Prelude.{◌≡◌, ℕ, true, List, length, Result, Ok}
use Rattle.sdf_lex.specs.Lexes.{Lexes}
use Rattle.sdf_lex.specs.Tokens.{Lexeme}
use Rattle.sdf_tree.specs.Files.{file}
use Rattle.sdf_tree.specs.Meant.{Sdf, sdf_of}
use Rattle.sdf_tree.specs.Written.{FilePart}
use Rattle.sdf_read.specs.Outcomes.{Fault}
use Rattle.sdf_read.specs.Reads.{Reads}
use Rattle.written_reading.specs.Placeless.{placeless}

-- these tokens spell the parts of a file
abbrev pub Spells : List Lexeme → List FilePart → Type 0
Spells ts ps = (file true).language.Spells ts 0 ps (length ts)

-- a text has tokens that spell one list of parts, which is the tree but for places; and it has no fault of a reader, which finds what these parts mean
pub record IsReadAs (tree : List FilePart) (text : List ℕ) : Type 0 where
  pub tokens : List Lexeme
  pub parts : List FilePart
  pub lexed : Lexes text (Ok tokens)
  pub spelled : Spells tokens parts
  pub only : (ps : List FilePart) → Spells tokens ps → ps ≡ parts
  pub as_tree : placeless parts ≡ tree
  pub reads : Reads text (Ok (sdf_of parts))
  pub faultless : (o : Result Sdf Fault) → Reads text o → o ≡ Ok (sdf_of parts)
