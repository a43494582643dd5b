-- A text is a word where it is that word's spelling, and is one word at most.
use Rattle.std.proofs.Common.{◌≡◌, ℕ, Bool, true, false, List, [], ◌∷◌, Option, Some, None, refl, sym, ap, ◌∙◌, inl, inr}
use Rattle.std.specs.Prelude.{◌==◌, ◌↔◌, IsTrue, map, bytes_eq, slice_get}
use Rattle.std.specs.Char.{to_ascii_lowercase}
use Rattle.std.specs.Str.{str_to_ascii_lowercase}
use Rattle.std.proofs.lemmas.Bool.{cases_Bool, both_ways, eqb-true, eq-eqb}
use Rattle.std.proofs.lemmas.Slice.Eq.{bytes_eq-Decides}
use Rattle.sdf_tree.specs.declared.keywords.Keyword.{Keyword}
use Rattle.sdf_tree.specs.declared.keywords.Keyword.TheVariants as word
use Rattle.sdf_tree.specs.Keywords.{spelling, all_words, is_spelled, word_in, keyword_of, word_number}
use Rattle.sdf_tree.specs.Kinds.{word_kind, is_word}

numbered : (w : Keyword) → slice_get all_words (word_number w) ≡ Some w
numbered word.DelayFile = refl
numbered word.SdfVersion = refl
numbered word.Design = refl
numbered word.Date = refl
numbered word.Vendor = refl
numbered word.Program = refl
numbered word.Version = refl
numbered word.Process = refl
numbered word.Divider = refl
numbered word.TimeScale = refl
numbered word.Voltage = refl
numbered word.Temperature = refl
numbered word.Cell = refl
numbered word.CellType = refl
numbered word.Instance = refl
numbered word.Delay = refl
numbered word.TimingCheck = refl
numbered word.TimingEnv = refl
numbered word.Label = refl
numbered word.Absolute = refl
numbered word.Increment = refl
numbered word.PathPulse = refl
numbered word.PathPulsePercent = refl
numbered word.IoPath = refl
numbered word.Cond = refl
numbered word.CondElse = refl
numbered word.Port = refl
numbered word.Interconnect = refl
numbered word.Device = refl
numbered word.NetDelay = refl
numbered word.Retain = refl
numbered word.Setup = refl
numbered word.Hold = refl
numbered word.Recovery = refl
numbered word.Removal = refl
numbered word.Skew = refl
numbered word.SetupHold = refl
numbered word.RecRem = refl
numbered word.Width = refl
numbered word.Period = refl
numbered word.BidirectSkew = refl
numbered word.NoChange = refl
numbered word.Posedge = refl
numbered word.Negedge = refl
numbered word.Edge01 = refl
numbered word.Edge10 = refl
numbered word.Edge0z = refl
numbered word.EdgeZ1 = refl
numbered word.Edge1z = refl
numbered word.EdgeZ0 = refl

same_number : (w v : Keyword) → (word_number w == word_number v) ≡ true → w ≡ v
same_number w v e =
    let n : word_number w ≡ word_number v = eqb-true (word_number w) (word_number v) e in
    let f : Some w ≡ Some v = sym (numbered w) ∙ (ap (slice_get all_words) n ∙ numbered v) in
    cc

own_spelling : (w : Keyword) → word_in all_words (spelling w) ≡ Some w
own_spelling word.DelayFile = refl
own_spelling word.SdfVersion = refl
own_spelling word.Design = refl
own_spelling word.Date = refl
own_spelling word.Vendor = refl
own_spelling word.Program = refl
own_spelling word.Version = refl
own_spelling word.Process = refl
own_spelling word.Divider = refl
own_spelling word.TimeScale = refl
own_spelling word.Voltage = refl
own_spelling word.Temperature = refl
own_spelling word.Cell = refl
own_spelling word.CellType = refl
own_spelling word.Instance = refl
own_spelling word.Delay = refl
own_spelling word.TimingCheck = refl
own_spelling word.TimingEnv = refl
own_spelling word.Label = refl
own_spelling word.Absolute = refl
own_spelling word.Increment = refl
own_spelling word.PathPulse = refl
own_spelling word.PathPulsePercent = refl
own_spelling word.IoPath = refl
own_spelling word.Cond = refl
own_spelling word.CondElse = refl
own_spelling word.Port = refl
own_spelling word.Interconnect = refl
own_spelling word.Device = refl
own_spelling word.NetDelay = refl
own_spelling word.Retain = refl
own_spelling word.Setup = refl
own_spelling word.Hold = refl
own_spelling word.Recovery = refl
own_spelling word.Removal = refl
own_spelling word.Skew = refl
own_spelling word.SetupHold = refl
own_spelling word.RecRem = refl
own_spelling word.Width = refl
own_spelling word.Period = refl
own_spelling word.BidirectSkew = refl
own_spelling word.NoChange = refl
own_spelling word.Posedge = refl
own_spelling word.Negedge = refl
own_spelling word.Edge01 = refl
own_spelling word.Edge10 = refl
own_spelling word.Edge0z = refl
own_spelling word.EdgeZ1 = refl
own_spelling word.Edge1z = refl
own_spelling word.EdgeZ0 = refl

pub is_spelled_in : (ws : List Keyword) (u : List ℕ) (v : Keyword) → word_in ws u ≡ Some v → bytes_eq (spelling v) u ≡ true
is_spelled_in [] u v e = absurd cc
is_spelled_in (w ∷ ws) u v e = elim (cases_Bool (bytes_eq (spelling w) u)) [
  | inl does ↦ let f : Some w ≡ Some v = rw does at e in let g : w ≡ v = cc in rw (← g) does
  | inr none ↦ is_spelled_in ws u v (rw none at e)
]

own_number : (w : Keyword) (text : List ℕ) → is_word w (word_kind (Some w) text) ≡ true
own_number w text = eq-eqb (word_number w) (word_number w) refl

in_lower_case : (w : Keyword) (u text : List ℕ) → bytes_eq (spelling w) u ≡ is_word w (word_kind (word_in all_words u) text)
in_lower_case w u text = elim (cases_Bool (bytes_eq (spelling w) u)) [
  | inl does ↦ let e : spelling w ≡ u = (bytes_eq-Decides (spelling w) u).0 does in rw (does, ← e, own_spelling w) (sym (own_number w text))
  | inr other ↦ rw other (go other (word_in all_words u) refl)
]
  where
    go : bytes_eq (spelling w) u ≡ false → (o : Option Keyword) → word_in all_words u ≡ o → false ≡ is_word w (word_kind o text)
    go none None e = refl
    go none (Some v) e = elim (cases_Bool (word_number w == word_number v)) [
      | inl same ↦ let f : w ≡ v = same_number w v same in absurd (both_ways (bytes_eq (spelling w) u) none (rw f (is_spelled_in all_words u v e)))
      | inr other ↦ rw other refl
    ]

pub spelled_is : (w : Keyword) (text : List ℕ) → is_spelled w text ≡ is_word w (word_kind (keyword_of text) text)
unfolding keyword_of
spelled_is w text = in_lower_case w (str_to_ascii_lowercase text) text

own_case : (w : Keyword) → str_to_ascii_lowercase (spelling w) ≡ spelling w
own_case word.DelayFile = refl
own_case word.SdfVersion = refl
own_case word.Design = refl
own_case word.Date = refl
own_case word.Vendor = refl
own_case word.Program = refl
own_case word.Version = refl
own_case word.Process = refl
own_case word.Divider = refl
own_case word.TimeScale = refl
own_case word.Voltage = refl
own_case word.Temperature = refl
own_case word.Cell = refl
own_case word.CellType = refl
own_case word.Instance = refl
own_case word.Delay = refl
own_case word.TimingCheck = refl
own_case word.TimingEnv = refl
own_case word.Label = refl
own_case word.Absolute = refl
own_case word.Increment = refl
own_case word.PathPulse = refl
own_case word.PathPulsePercent = refl
own_case word.IoPath = refl
own_case word.Cond = refl
own_case word.CondElse = refl
own_case word.Port = refl
own_case word.Interconnect = refl
own_case word.Device = refl
own_case word.NetDelay = refl
own_case word.Retain = refl
own_case word.Setup = refl
own_case word.Hold = refl
own_case word.Recovery = refl
own_case word.Removal = refl
own_case word.Skew = refl
own_case word.SetupHold = refl
own_case word.RecRem = refl
own_case word.Width = refl
own_case word.Period = refl
own_case word.BidirectSkew = refl
own_case word.NoChange = refl
own_case word.Posedge = refl
own_case word.Negedge = refl
own_case word.Edge01 = refl
own_case word.Edge10 = refl
own_case word.Edge0z = refl
own_case word.EdgeZ1 = refl
own_case word.Edge1z = refl
own_case word.EdgeZ0 = refl

-- what a comparison that leaves case aside tells
pub same_letters : (w : Keyword) (bytes text : List ℕ) (b : Bool) → bytes ≡ spelling w → IsTrue b ↔ (map to_ascii_lowercase bytes ≡ map to_ascii_lowercase text) → b ≡ is_spelled w text
same_letters w bytes text b e h = go b (rw e at h)
  where
    go : (b : Bool) → IsTrue b ↔ (map to_ascii_lowercase (spelling w) ≡ map to_ascii_lowercase text) → b ≡ is_spelled w text
    go true h = sym ((bytes_eq-Decides (spelling w) (str_to_ascii_lowercase text)).1 (sym (own_case w) ∙ h.0 refl))
    go false h = elim (cases_Bool (bytes_eq (spelling w) (str_to_ascii_lowercase text))) [
      | inl does ↦ let e : false ≡ true = h.1 (own_case w ∙ (bytes_eq-Decides (spelling w) (str_to_ascii_lowercase text)).0 does) in absurd cc
      | inr none ↦ sym none
    ]
