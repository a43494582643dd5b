-- What it says that a netlist's tokens were read, or refused.
use Rattle.std.specs.Prelude.{◌≡◌, ℕ, ◌<◌, Bool, true, false, ◌||◌, ◌⊎◌, List, Option, Some, None, Result, Ok, Err, codes, slice_get}
use Rattle.sg_text.specs.declared.places.Place.{Place}
use Rattle.sg_text.specs.declared.refusals.Refused.{Refused}
use Rattle.sg_text.specs.declared.refusals.Refused.TheVariants.{Fault, NoMemory}
use Rattle.sg_text.specs.declared.words.Keyword.{Keyword}
use Rattle.sg_text.specs.declared.words.Keyword.TheVariants as keyword
use Rattle.grammar.specs.Reads.{FailsAt}
use Rattle.grammar.specs.Rule.{stands}
use Rattle.vl_token.specs.Tokens.{Lexeme, Meaning, left_out_token, word_token}
use Rattle.vl_tree.specs.declared.modules.Source as code
use Rattle.vl_tree.specs.Kinds.{Kind as TokenKind, kind_of, is_word}
use Rattle.vl_tree.specs.Modules.{source}
use Rattle.vl_tree.specs.Seen.{view_source}
use Rattle.vl_tree.specs.Tree.{Source}
use Rattle.vl_specify.specs.declared.faults.SpecifyKind.{SpecifyKind}
use Rattle.vl_specify.specs.Faults as block
use Rattle.vl_parse.specs.declared.parsing.ParseKind.{ParseKind}
use Rattle.vl_parse.specs.declared.parsing.ParseKind.TheVariants.{Syntax, Unsupported, Specify}

-- ---- the kind of a fault

pub data Kind : Type 0 where
  -- no rule takes the token
  of_syntax : Kind
  -- nor is there one for a word, which is of a construct that is left out
  unsupported : (word : List ℕ) → Kind
  -- a specify block is refused for this
  of_block : SpecifyKind → Kind

abbrev pub kind_seen : ParseKind → Kind
kind_seen Syntax = of_syntax
kind_seen (Unsupported text) = unsupported text.now
kind_seen (Specify kind) = of_block kind

-- a word of the grammar that is left out where it fails, since it is taken in primitives alone
abbrev pub keyword_left_out : Keyword → Option (List ℕ)
keyword_left_out keyword.Initial = Some (codes "initial")
keyword_left_out _ = None

abbrev pub word_left_out : Meaning → Option (List ℕ)
word_left_out (left_out_token text) = Some text
word_left_out (word_token word) = keyword_left_out word
word_left_out _ = None

abbrev pub left_out : Option Lexeme → Option (List ℕ)
left_out None = None
left_out (Some t) = word_left_out t.meaning

-- the words at which a specify block begins and ends
abbrev pub is_bound : TokenKind → Bool
is_bound k = is_word keyword.Specify k || is_word keyword.EndSpecify k

-- the block that begins at s is open at e: neither word stands between them
pub record IsOpen (ts : List Lexeme) (s e : ℕ) : Type 0 where
  pub before : s < e
  pub opens : stands kind_of (is_word keyword.Specify) ts s ≡ true
  pub inside : (k : ℕ) → s < k → k < e → stands kind_of is_bound ts k ≡ false

-- where a token fails in an open block, that is refused as one that begins where it does
pub record InBlock (ts : List Lexeme) (e : ℕ) (kind : Kind) : Type 0 where
  pub start : ℕ
  pub open_there : IsOpen ts start e
  pub why : SpecifyKind
  pub stands_there : block.KindStands ts start e why
  pub is : kind ≡ of_block why

abbrev pub IsKind : List Lexeme → ℕ → Option (List ℕ) → Kind → Type 0
IsKind ts e (Some word) kind = kind ≡ unsupported word
IsKind ts e None kind = InBlock ts e kind ⊎ (((s : ℕ) → IsOpen ts s e → ⊥) × (kind ≡ of_syntax))

-- the kind of a netlist that fails at e
abbrev pub KindStands : List Lexeme → ℕ → Kind → Type 0
KindStands ts e kind = IsKind ts e (left_out (slice_get ts e)) kind

-- its place: that of the token, or the end
abbrev pub fault_place : Place → Option Lexeme → Place
fault_place end None = end
fault_place end (Some t) = t.place

-- a refusal is at the failing token
abbrev pub RefusalStands : List Lexeme → Place → Refused ParseKind → Type 0
RefusalStands ts end NoMemory = Unit {0}
RefusalStands ts end (Fault kind place) = (e : ℕ) × FailsAt source.language ts e × (place ≡ fault_place end (slice_get ts e)) × KindStands ts e (kind_seen kind)

-- what is read is this tree, unless memory ran out
abbrev pub IsTree : Source → Result code.Source (Refused ParseKind) → Type 0
IsTree tree (Ok found) = view_source found ≡ tree
IsTree tree (Err NoMemory) = Unit {0}
IsTree tree (Err (Fault kind place)) = ⊥
