-- A bridge, on which no public clause rests: what the phases answer.
use Rattle.std.specs.Prelude.{◌≡◌, ◌++◌, ℕ, List, [], Option, All, length, map}
use Rattle.vl_token.specs.Tokens.{Lexeme}
use Rattle.vl_tree.specs.Modules.{source}
use Rattle.vl_tree.specs.Tree.{Source}
use Rattle.fit_changes.specs.Changes.{ChangedText}
use Rattle.fit_changes.specs.Lines.{AreSorted, Line, line_seen, lines_from}
use Rattle.fit_changes.specs.Rounds.{AreRounds, lines_by, read, written, written_by}
use Rattle.vl_lex.specs.Seen.{texts}
use Rattle.fit_inside.specs.Inside.{IsAccepted}
use Rattle.fit_netlist.specs.Exact.{AreExact}
use Rattle.fit_netlist.specs.Fitted.{IsKept}
use Rattle.fit_netlist.specs.declared.fitting.Fitted as code

-- all tokens spell a tree
abbrev pub AreTree : List Lexeme → Source → Type 0
AreTree tokens tree = source.language.Spells tokens 0 tree (length tokens)

-- texts without changes
abbrev pub as_read : List (List ℕ) → List ChangedText
as_read texts = map (λ t. record { text = t; changes = [] }) texts

-- a round of changes was made and told
pub record IsRound (texts made : List (List ℕ)) (before after : List Line) : Type 0 where
  pub files : List ChangedText
  pub are_read : read files ≡ texts
  pub are_written : made ≡ written files
  pub are_told : after ≡ before ++ lines_from 0 files
  pub are_exact : AreExact files

-- so were several
pub record AreMade (texts made : List (List ℕ)) (before after : List Line) : Type 0 where
  pub rounds : List (List ChangedText)
  pub are_rounds : AreRounds texts rounds
  pub are_written : made ≡ written_by texts rounds
  pub are_told : after ≡ before ++ lines_by rounds
  pub are_exact : All AreExact rounds

-- a netlist is fitted, of whose rounds the first made these texts and lines
pub record IsMadeOf (top : Option (List ℕ)) (expanded : List (List ℕ)) (before : List Line) (f : code.Fitted) : Type 0 where
  pub all : List Line
  pub made : AreMade expanded (texts f.texts.items) before all
  pub sorted : AreSorted all (map line_seen f.lines.items)
  pub accepted : IsAccepted (texts f.texts.items)
  pub kept : IsKept top expanded (texts f.texts.items) (map line_seen f.lines.items)
