-- What it is that a netlist is fitted.
use Rattle.std.specs.Prelude.{◌≡◌, ◌<◌, ◌⊎◌, ℕ, Bool, true, false, List, [], Option, Result, Ok, Err, All, length, map, not, take, ◌&&◌}
use Rattle.vl_lex.specs.Lexes.{Lexes}
use Rattle.vl_lex.specs.Seen.{texts}
use Rattle.vl_token.specs.Tokens.{Lexeme}
use Rattle.vl_tree.specs.Tree.{Source}
use Rattle.fit_changes.specs.Changes.{ChangedText}
use Rattle.fit_changes.specs.Lines.{AreSorted, Line, line_seen}
use Rattle.fit_changes.specs.Rounds.{AreRounds, lines_by, written_by}
use Rattle.fit_changes.specs.declared.rules.Rule.{Rule}
use Rattle.fit_changes.specs.declared.rules.Rule.TheVariants as rule
use Rattle.fit_parts.specs.Below.{IsWhole}
use Rattle.fit_parts.specs.Parts.{headings_of}
use Rattle.fit_inside.specs.Inside.{IsAccepted, IsTreeOf}
use Rattle.fit_netlist.specs.Exact.{AreExact}
use Rattle.fit_netlist.specs.declared.faults.FitError.{FitError}
use Rattle.fit_netlist.specs.declared.faults.FitError.TheVariants as fault
use Rattle.fit_netlist.specs.declared.fitting.Fitted as code

abbrev pub is_unused : Rule → Bool
is_unused rule.Unused = true
is_unused _ = false

-- a line that tells that a part is left out names one that a set doesn't hold
abbrev pub is_outside : (List ℕ → Bool) → Line → Bool
is_outside below l = not (is_unused l.rule && below l.part)

-- All that is below the top of what is written stays: there is a set of names that holds it, no part of the expanded texts with a name of the
-- set is missing in what is written, and none is told to be left out.
pub record IsKept (top : Option (List ℕ)) (expanded made : List (List ℕ)) (lines : List Line) : Type 0 where
  pub tokens : List Lexeme
  pub tree : Source
  pub below : List ℕ → Bool
  pub are_tokens : Lexes expanded (Ok tokens)
  pub is_tree : IsTreeOf made tree
  pub is_whole : IsWhole top (headings_of tokens) tree below
  pub are_outside : All (λ l. is_outside below l ≡ true) lines

-- A netlist is fitted by rounds of changes: the first expands macros and included files, each further one changes what the one before it
-- made. What is written is taken, each change is told on its line, and all that is below the top stays.
pub record IsFitted (top : Option (List ℕ)) (texts made : List (List ℕ)) (lines : List Line) : Type 0 where
  pub rounds : List (List ChangedText)
  pub are_rounds : AreRounds texts rounds
  pub are_written : made ≡ written_by texts rounds
  pub are_told : AreSorted (lines_by rounds) lines
  pub are_exact : All AreExact rounds
  pub is_accepted : IsAccepted made
  pub is_kept : (rounds ≡ []) ⊎ IsKept top (written_by texts (take 1 rounds)) made lines

-- a refusal names some places; or the text of an included file is wanted, or there was no memory
abbrev pub Tells : FitError → Type 0
Tells (fault.Unfit places) = 0 < length places.items
Tells (fault.Wants from name) = Unit {0}
Tells fault.NoMemory = Unit {0}

-- nothing is changed, unless there was no memory
abbrev pub LeavesAll : List (List ℕ) → Result code.Fitted FitError → Type 0
LeavesAll before (Ok f) = (texts f.texts.items ≡ before) × (map line_seen f.lines.items ≡ [])
LeavesAll before (Err (fault.Unfit places)) = ⊥
LeavesAll before (Err (fault.Wants from name)) = ⊥
LeavesAll before (Err fault.NoMemory) = Unit {0}
