-- Why a netlist is refused, and how a report writes it.
use Rattle.std.specs.Prelude.{ℕ, List, ◌++◌, codes}
use Rattle.elab_model.specs.declared.kinds.ElabKind.{ElabKind}
use Rattle.elab_model.specs.declared.kinds.ElabKind.TheVariants as elab
use Rattle.udp_rows.specs.declared.faults.UdpKind.{UdpKind}
use Rattle.udp_rows.specs.declared.faults.UdpKind.TheVariants as udp
use Rattle.vl_lex.specs.declared.faults.LexKind.{LexKind}
use Rattle.vl_lex.specs.declared.faults.LexKind.TheVariants as lex
use Rattle.vl_parse.specs.Parsed as parsed
use Rattle.vl_specify.specs.declared.faults.SpecifyKind.{SpecifyKind}
use Rattle.vl_specify.specs.declared.faults.SpecifyKind.TheVariants as block

pub data Kind : Type 0 where
  -- a fault of the text or of its directives
  of_text : LexKind → Kind
  -- no rule of the grammar takes a token
  of_syntax : Kind
  -- nor is there one for a word, which is of a construct that is left out
  unsupported : (word : List ℕ) → Kind
  -- a specify block is refused
  of_block : SpecifyKind → Kind
  -- the tree has no circuit
  of_meaning : ElabKind → Kind

-- where a token fails
abbrev pub failing : parsed.Kind → Kind
failing parsed.of_syntax = of_syntax
failing (parsed.unsupported word) = unsupported word
failing (parsed.of_block kind) = of_block kind

-- ---- how a report writes them: each kind by its name

abbrev pub text_name : LexKind → List ℕ
text_name lex.BadByte = codes "BadByte"
text_name lex.UnendedComment = codes "UnendedComment"
text_name lex.UnendedText = codes "UnendedText"
text_name lex.UnknownDirective = codes "UnknownDirective"
text_name lex.UnbalancedIf = codes "UnbalancedIf"
text_name lex.MacroTooDeep = codes "MacroTooDeep"
text_name lex.FileTooLarge = codes "FileTooLarge"
text_name lex.BadDirective = codes "BadDirective"

abbrev pub table_name : UdpKind → List ℕ
table_name udp.TooManyInputs = codes "TooManyInputs"
table_name udp.TwoEdges = codes "TwoEdges"
table_name udp.Clash = codes "Clash"
table_name udp.BadSymbol = codes "BadSymbol"
table_name udp.RowLength = codes "RowLength"

abbrev pub block_name : SpecifyKind → List ℕ
block_name block.Syntax = codes "Syntax"
block_name block.ShowCancelled = codes "ShowCancelled"
block_name block.UnsupportedCheck = codes "UnsupportedCheck"
block_name block.BadDelayCount = codes "BadDelayCount"

-- a fault of a primitive's table has the name of the table's kind behind it
abbrev pub meaning_name : ElabKind → List ℕ
meaning_name elab.UnknownModule = codes "UnknownModule"
meaning_name elab.DuplicateName = codes "DuplicateName"
meaning_name elab.UnknownName = codes "UnknownName"
meaning_name elab.WidthMismatch = codes "WidthMismatch"
meaning_name elab.SecondDriver = codes "SecondDriver"
meaning_name elab.SelfInstance = codes "SelfInstance"
meaning_name elab.NoTop = codes "NoTop"
meaning_name elab.SeveralTops = codes "SeveralTops"
meaning_name elab.SpecifyInHierarchy = codes "SpecifyInHierarchy"
meaning_name elab.BadTerminal = codes "BadTerminal"
meaning_name elab.TooDeep = codes "TooDeep"
meaning_name elab.TooMany = codes "TooMany"
meaning_name elab.BadDelay = codes "BadDelay"
meaning_name (elab.Udp kind) = codes "Udp " ++ table_name kind

-- a word that isn't supported stands behind the kind, and so does what is wrong with a specify block
abbrev pub kind_text : Kind → List ℕ
kind_text (of_text kind) = text_name kind
kind_text of_syntax = codes "Syntax"
kind_text (unsupported word) = codes "Unsupported " ++ word
kind_text (of_block kind) = codes "Specify " ++ block_name kind
kind_text (of_meaning kind) = meaning_name kind
