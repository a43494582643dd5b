-- The kinds of token that the grammar of SDF files tells apart. A word's is by its place: the same word may be a word of the
-- grammar, a number, a path and a name.
use Rattle.std.specs.Prelude.{ℕ, ℤ, pos, Bool, true, false, ◌==◌, ◌&&◌, not, List, [], Option, Some, None, is_some, unwrap_or}
use Rattle.cond_expr.specs.declared.tokens.Op.{Op}
use Rattle.sdf_lex.specs.Tokens.{Meaning, Lexeme, word_token, selected_token, select_token, text_token, unended_token, operator_token, left_token, right_token, colon_token, star_token, other_token}
use Rattle.sdf_tree.specs.declared.keywords.Keyword.{Keyword}
use Rattle.sdf_tree.specs.declared.keywords.Keyword.TheVariants as word
use Rattle.sdf_tree.specs.declared.tree.Edge.{Edge}
use Rattle.sdf_tree.specs.declared.tree.Edge.TheVariants as edge
use Rattle.sdf_tree.specs.declared.tree.PairCheck.{PairCheck}
use Rattle.sdf_tree.specs.declared.tree.PairCheck.TheVariants as pair
use Rattle.sdf_tree.specs.declared.tree.SingleCheck.{SingleCheck}
use Rattle.sdf_tree.specs.declared.tree.SingleCheck.TheVariants as single
use Rattle.sdf_tree.specs.declared.tree.Skipped.{Skipped}
use Rattle.sdf_tree.specs.declared.tree.Skipped.TheVariants as skipped
use Rattle.sdf_tree.specs.declared.tree.WindowCheck.{WindowCheck}
use Rattle.sdf_tree.specs.declared.tree.WindowCheck.TheVariants as window
use Rattle.sdf_tree.specs.declared.words.Divider.{Divider}
use Rattle.sdf_tree.specs.declared.words.Divider.TheVariants.{Point}
use Rattle.sdf_tree.specs.Keywords.{keyword_of, word_number}
use Rattle.sdf_tree.specs.Words.{is_port_path, is_instance_path, begins_number, scale_power, unit_power, joined_power, divider_of}

pub data Kind : Type 0 where
  -- a word, and the word of the grammar that it is
  word_kind : Option Keyword → (text : List ℕ) → Kind
  -- a word with a bit select, and what stands before the select
  selected_kind : (whole name : List ℕ) → Kind
  operator_kind : Op → Kind
  select_kind text_kind unended_kind left_kind right_kind colon_kind star_kind other_kind : Kind

abbrev pub kind_of_meaning : Meaning → Kind
kind_of_meaning (word_token text) = word_kind (keyword_of text) text
kind_of_meaning (selected_token whole name) = selected_kind whole name
kind_of_meaning (select_token n) = select_kind
kind_of_meaning (text_token text) = text_kind
kind_of_meaning unended_token = unended_kind
kind_of_meaning (operator_token o) = operator_kind o
kind_of_meaning left_token = left_kind
kind_of_meaning right_token = right_kind
kind_of_meaning colon_token = colon_kind
kind_of_meaning star_token = star_kind
kind_of_meaning (other_token b) = other_kind

abbrev pub kind_of : Lexeme → Kind
kind_of t = kind_of_meaning t.meaning

-- ---- tests

abbrev pub is_left : Kind → Bool
is_left left_kind = true
is_left _ = false

abbrev pub is_right : Kind → Bool
is_right right_kind = true
is_right _ = false

abbrev pub is_colon : Kind → Bool
is_colon colon_kind = true
is_colon _ = false

abbrev pub is_star : Kind → Bool
is_star star_kind = true
is_star _ = false

abbrev pub is_text : Kind → Bool
is_text text_kind = true
is_text _ = false

abbrev pub is_select : Kind → Bool
is_select select_kind = true
is_select _ = false

abbrev pub is_word : Keyword → Kind → Bool
is_word w (word_kind (Some v) text) = word_number w == word_number v
is_word w _ = false

-- any word
abbrev pub is_any_word : Kind → Bool
is_any_word (word_kind o text) = true
is_any_word (selected_kind whole name) = true
is_any_word _ = false

-- a token that may stand between paired parentheses, but for these
abbrev pub is_plain : Kind → Bool
is_plain unended_kind = false
is_plain left_kind = false
is_plain right_kind = false
is_plain _ = true

-- ---- words by their place

-- the changes of which the word's first byte is a digit
abbrev pub is_digit_first : Keyword → Bool
is_digit_first word.Edge01 = true
is_digit_first word.Edge10 = true
is_digit_first word.Edge0z = true
is_digit_first word.Edge1z = true
is_digit_first _ = false

-- a word that begins with a sign, a digit or a point
abbrev pub is_number : Kind → Bool
is_number (word_kind None text) = begins_number text
is_number (word_kind (Some w) text) = is_digit_first w
is_number (selected_kind whole name) = begins_number whole
is_number _ = false

abbrev pub is_port : Divider → Kind → Bool
is_port divider (word_kind o text) = is_port_path divider text
is_port divider (selected_kind whole name) = is_port_path divider name
is_port divider _ = false

abbrev pub is_instance : Divider → Kind → Bool
is_instance divider (word_kind o text) = is_instance_path divider text
is_instance divider (selected_kind whole name) = is_instance_path divider whole
is_instance divider _ = false

abbrev pub is_divider : Kind → Bool
is_divider (word_kind o text) = is_some (divider_of text)
is_divider _ = false

abbrev pub is_scale : Kind → Bool
is_scale (word_kind o text) = is_some (scale_power text)
is_scale _ = false

abbrev pub is_unit : Kind → Bool
is_unit (word_kind o text) = is_some (unit_power text)
is_unit _ = false

-- a number and a unit in one word, and no number alone
abbrev pub is_joined : Kind → Bool
is_joined (word_kind o text) = not (is_some (scale_power text)) && is_some (joined_power text)
is_joined _ = false

-- ---- what words of the grammar name

abbrev pub edge_of : Keyword → Option Edge
edge_of word.Posedge = Some edge.Posedge
edge_of word.Negedge = Some edge.Negedge
edge_of word.Edge01 = Some edge.ZeroOne
edge_of word.Edge10 = Some edge.OneZero
edge_of word.Edge0z = Some edge.ZeroZ
edge_of word.EdgeZ1 = Some edge.ZOne
edge_of word.Edge1z = Some edge.OneZ
edge_of word.EdgeZ0 = Some edge.ZZero
edge_of _ = None

abbrev pub pair_of : Keyword → Option PairCheck
pair_of word.Setup = Some pair.Setup
pair_of word.Hold = Some pair.Hold
pair_of word.Recovery = Some pair.Recovery
pair_of word.Removal = Some pair.Removal
pair_of word.Skew = Some pair.Skew
pair_of _ = None

abbrev pub window_of : Keyword → Option WindowCheck
window_of word.SetupHold = Some window.SetupHold
window_of word.RecRem = Some window.RecRem
window_of _ = None

abbrev pub single_of : Keyword → Option SingleCheck
single_of word.Width = Some single.Width
single_of word.Period = Some single.Period
single_of _ = None

-- checks, and parts of a cell, that annotate nothing
abbrev pub skipped_check_of : Keyword → Option Skipped
skipped_check_of word.BidirectSkew = Some skipped.BidirectSkew
skipped_check_of word.NoChange = Some skipped.NoChange
skipped_check_of _ = None

abbrev pub skipped_part_of : Keyword → Option Skipped
skipped_part_of word.TimingEnv = Some skipped.TimingEnv
skipped_part_of word.Label = Some skipped.Label
skipped_part_of _ = None

-- heads with a text, and with a value
abbrev pub is_text_word : Keyword → Bool
is_text_word word.SdfVersion = true
is_text_word word.Design = true
is_text_word word.Date = true
is_text_word word.Vendor = true
is_text_word word.Program = true
is_text_word word.Version = true
is_text_word word.Process = true
is_text_word _ = false

abbrev pub is_value_word : Keyword → Bool
is_value_word word.Voltage = true
is_value_word word.Temperature = true
is_value_word _ = false

-- a word of the grammar that passes a test
abbrev pub is_word_that : (Keyword → Bool) → Kind → Bool
is_word_that is (word_kind (Some w) text) = is w
is_word_that is _ = false

-- ---- what a token carries, which no rule asks of another kind

abbrev pub text_of : Meaning → List ℕ
text_of (text_token text) = text
text_of _ = []

abbrev pub word_text : Meaning → List ℕ
word_text (word_token text) = text
word_text (selected_token whole name) = whole
word_text _ = []

abbrev pub port_path : Meaning → List ℕ
port_path (word_token text) = text
port_path (selected_token whole name) = name
port_path _ = []

abbrev pub select_of : Meaning → ℤ
select_of (select_token n) = n
select_of _ = pos 0

abbrev pub divider_word : Meaning → Divider
divider_word m = unwrap_or (divider_of (word_text m)) Point

abbrev pub scale_word : Meaning → ℕ
scale_word m = unwrap_or (scale_power (word_text m)) 0

abbrev pub unit_word : Meaning → ℤ
unit_word m = unwrap_or (unit_power (word_text m)) (pos 0)

abbrev pub joined_word : Meaning → ℤ
joined_word m = unwrap_or (joined_power (word_text m)) (pos 0)

-- what the word of the grammar that a token is names
abbrev pub named_by : {A : Type 0} → (Keyword → Option A) → A → Option Keyword → A
named_by f a None = a
named_by f a (Some w) = unwrap_or (f w) a

abbrev pub names : {A : Type 0} → (Keyword → Option A) → A → Meaning → A
names f a m = named_by f a (keyword_of (word_text m))
