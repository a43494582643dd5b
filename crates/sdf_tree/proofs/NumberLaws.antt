-- A word of the grammar begins like a number where its first letter is a digit.
use Rattle.std.proofs.Common.{◌≡◌, ℕ, List, [], ◌∷◌, Option, Some, None, refl, sym, ap, ◌∙◌, arith}
use Rattle.std.specs.Char.{to_ascii_lowercase}
use Rattle.std.specs.Str.{str_to_ascii_lowercase}
use Rattle.std.proofs.lemmas.Slice.Eq.{bytes_eq-Decides}
use Rattle.sdf_tree.specs.declared.keywords.Keyword.{Keyword}
use Rattle.sdf_tree.specs.declared.keywords.Keyword.TheVariants as word
use Rattle.sdf_tree.specs.Keywords.{spelling, all_words, word_in, keyword_of}
use Rattle.sdf_tree.specs.Kinds.{word_kind, is_digit_first, is_number}
use Rattle.sdf_tree.specs.Words.{begins_number, is_number_start}
use Rattle.sdf_tree.proofs.KeywordLaws.{is_spelled_in}

-- a letter is no start of a number, in either case
pub same_start : (b : ℕ) → is_number_start (to_ascii_lowercase b) ≡ is_number_start b
same_start b = grind arith

same_begin : (text : List ℕ) → begins_number (str_to_ascii_lowercase text) ≡ begins_number text
same_begin [] = refl
same_begin (b ∷ bs) = same_start b

own_begin : (w : Keyword) → begins_number (spelling w) ≡ is_digit_first w
own_begin word.DelayFile = refl
own_begin word.SdfVersion = refl
own_begin word.Design = refl
own_begin word.Date = refl
own_begin word.Vendor = refl
own_begin word.Program = refl
own_begin word.Version = refl
own_begin word.Process = refl
own_begin word.Divider = refl
own_begin word.TimeScale = refl
own_begin word.Voltage = refl
own_begin word.Temperature = refl
own_begin word.Cell = refl
own_begin word.CellType = refl
own_begin word.Instance = refl
own_begin word.Delay = refl
own_begin word.TimingCheck = refl
own_begin word.TimingEnv = refl
own_begin word.Label = refl
own_begin word.Absolute = refl
own_begin word.Increment = refl
own_begin word.PathPulse = refl
own_begin word.PathPulsePercent = refl
own_begin word.IoPath = refl
own_begin word.Cond = refl
own_begin word.CondElse = refl
own_begin word.Port = refl
own_begin word.Interconnect = refl
own_begin word.Device = refl
own_begin word.NetDelay = refl
own_begin word.Retain = refl
own_begin word.Setup = refl
own_begin word.Hold = refl
own_begin word.Recovery = refl
own_begin word.Removal = refl
own_begin word.Skew = refl
own_begin word.SetupHold = refl
own_begin word.RecRem = refl
own_begin word.Width = refl
own_begin word.Period = refl
own_begin word.BidirectSkew = refl
own_begin word.NoChange = refl
own_begin word.Posedge = refl
own_begin word.Negedge = refl
own_begin word.Edge01 = refl
own_begin word.Edge10 = refl
own_begin word.Edge0z = refl
own_begin word.EdgeZ1 = refl
own_begin word.Edge1z = refl
own_begin word.EdgeZ0 = refl

pub number_word : (text : List ℕ) → is_number (word_kind (keyword_of text) text) ≡ begins_number text
unfolding keyword_of
number_word text = go (word_in all_words (str_to_ascii_lowercase text)) refl
  where
    go : (o : Option Keyword) → word_in all_words (str_to_ascii_lowercase text) ≡ o → is_number (word_kind o text) ≡ begins_number text
    go None e = refl
    go (Some w) e =
        let same : spelling w ≡ str_to_ascii_lowercase text = (bytes_eq-Decides (spelling w) (str_to_ascii_lowercase text)).0 (is_spelled_in all_words (str_to_ascii_lowercase text) w e) in
        sym (own_begin w) ∙ (ap begins_number same ∙ same_begin text)
