-- Changes of a text.
use Rattle.std.specs.Prelude.{ℕ, Bool, ◌≡◌, ◌≤◌, ◌==◌, ◌&&◌, ◌+◌, ◌-◌, ◌++◌, ◌∷◌, List, [], count_by, drop, length, nat_le, take}
use Rattle.fit_changes.specs.declared.rules.Rule.{Rule}
use Rattle.fit_changes.specs.declared.changes.Change as code

-- a change of a text: from a byte on so many bytes give way to others; by which rule, in which module or primitive, and what it is in words
pub record Change : Type 0 where
  pub byte : ℕ
  pub size : ℕ
  pub text : List ℕ
  pub rule : Rule
  pub part : List ℕ
  pub what : List ℕ

abbrev pub change_seen : code.Change → Change
change_seen c = record { byte = c.byte; size = c.size; text = c.text.items; rule = c.rule; part = c.part.items; what = c.what.items }

-- a text and changes of it
pub record ChangedText : Type 0 where
  pub text : List ℕ
  pub changes : List Change

abbrev pub is_feed : ℕ → Bool
is_feed b = b == 10

-- of a text the part from a byte on, after changes of the text in order: what stands before the first of them, what is put in its place, and what comes of the rest
abbrev pub changed_from : ℕ → List ℕ → List Change → List ℕ
changed_from from text [] = text
changed_from from text (c ∷ cs) = take (c.byte - from) text ++ c.text ++ changed_from (c.byte + c.size) (drop (c.byte + c.size - from) text) cs

-- a text after changes of it
abbrev pub changed : List ℕ → List Change → List ℕ
changed text cs = changed_from 0 text cs

-- what a change replaces
abbrev pub replaced : List ℕ → Change → List ℕ
replaced text c = take c.size (drop c.byte text)

-- changes lie in a text, the first not before a byte and none before the end of the one before it, and each keeps the number of lines
abbrev pub AreInOrder : ℕ → List ℕ → List Change → Type 0
AreInOrder from text [] = Unit {0}
AreInOrder from text (c ∷ cs) = (from ≤ c.byte) × (c.byte + c.size ≤ length text) × (count_by is_feed c.text ≡ count_by is_feed (replaced text c)) × AreInOrder (c.byte + c.size) text cs

-- where the last of them ends, if none begins before a byte
abbrev pub end_of : ℕ → List Change → ℕ
end_of from [] = from
end_of from (c ∷ cs) = end_of (c.byte + c.size) cs

-- whether a change is in order behind a byte
abbrev pub fits_behind : ℕ → List ℕ → Change → Bool
fits_behind end text c = nat_le end c.byte && (nat_le (c.byte + c.size) (length text) && (count_by is_feed c.text == count_by is_feed (replaced text c)))

-- whether it is so behind those that are there
abbrev pub fits : ChangedText → Change → Bool
fits t c = fits_behind (end_of 0 t.changes) t.text c

abbrev pub with_change : ChangedText → Change → ChangedText
with_change t c = record t { changes = t.changes ++ c ∷ [] }
