-- Words in a text: a blank (32) or an LF (10) ends one.
use Rattle.std.specs.Prelude.{◌≡◌, ◌==◌, ◌||◌, ℕ, Bool, true, false, List, [], ◌∷◌, decimal}
use Rattle.std.specs.declared.option.Option.{Option}
use Rattle.std.specs.declared.option.Option.TheVariants.{Some, None}

abbrev pub is_break : ℕ → Bool
is_break b = b == 32 || b == 10

-- a word has none of these
abbrev pub IsWord : List ℕ → Type 0
IsWord [] = Unit {0}
IsWord (b ∷ bs) = (is_break b ≡ false) × IsWord bs

-- one stands in front of what follows a word, if something does
abbrev pub EndsWord : List ℕ → Type 0
EndsWord [] = Unit {0}
EndsWord (b ∷ bs) = is_break b ≡ true

-- the time of an event without the blank before it
abbrev pub event_text : Option ℕ → List ℕ
event_text None = 45 ∷ []
event_text (Some time) = decimal time
