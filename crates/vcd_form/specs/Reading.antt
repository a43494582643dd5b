-- What readers of a dump's text give.
use Rattle.std.specs.Prelude.{◌≡◌, true, false, ℕ, ◌+◌, ◌<◌, List, map, length, Option, Some, None, Result, Ok, Err, slice_get}
use Rattle.grammar.specs.Rule.{◌∙∙◌, stands}
use Rattle.grammar.specs.declared.ReadFault.{ReadFault}
use Rattle.grammar.specs.declared.ReadFault.TheVariants as faults
use Rattle.std.specs.Global.{Vec}
use Rattle.vcd_form.specs.Kinds.{kind_of}
use Rattle.vcd_form.specs.Places.{read_at, IsBetween}
use Rattle.vcd_form.specs.Rules.{header, item, section_of, section_starts, start, Came}
use Rattle.vcd_form.specs.Seen.{item_seen, section_seen, word_seen}
use Rattle.vcd_form.specs.Words.{byte_of, words}
use Rattle.vcd_form.specs.Written as written
use Rattle.vcd_form.specs.declared.cursor.Words.{Words}
use Rattle.vcd_form.specs.declared.word.Word.{Word}
use Rattle.vcd_form.specs.declared.written.Item.{Item}
use Rattle.vcd_form.specs.declared.written.Section.{Section}

-- how many words are read
abbrev pub read_of : Words → ℕ
read_of w = read_at w.text.now w.at

-- the failing word stands at a byte
abbrev pub FailsAtByte : {A : Type 0} → List ℕ → ℕ → Result A ℕ → Type 0
FailsAtByte text byte read = (n : ℕ) × (read ≡ Err n) × (byte ≡ byte_of text n)

-- the header, with the place of `$enddefinitions`, from the front of the text
abbrev pub header_read : List ℕ → Result ((List written.Section × ℕ) × ℕ) ℕ
header_read text = (header ∙∙ start).read (words text) 0

abbrev pub HeaderRead : List ℕ → (new : ℕ) → Result (Vec Section × ℕ) ReadFault → Type 0
HeaderRead text new (Ok found) = header_read text ≡ Ok ((map section_seen found.0.items, found.1), new)
HeaderRead text new (Err faults.Memory) = Unit {0}
HeaderRead text new (Err (faults.At byte)) = FailsAtByte text byte (header_read text)

-- the next item, where a word is left
abbrev pub ItemRead : List ℕ → (old new : ℕ) → Result (Option Item) ℕ → Type 0
ItemRead text old new (Ok None) = (old ≡ length (words text)) × (new ≡ old)
ItemRead text old new (Ok (Some i)) = item.read (words text) old ≡ Ok (item_seen i, new)
ItemRead text old new (Err byte) = (old < length (words text)) × FailsAtByte text byte (item.read (words text) old)

-- ---- between a place and one behind it

-- the word behind n words, and the place behind it
abbrev pub WordAt : List ℕ → ℕ → Option (Word × ℕ) → Type 0
WordAt text n None = slice_get (words text) n ≡ None
WordAt text n (Some found) = (slice_get (words text) n ≡ Some (word_seen found.0)) × (read_at text found.1 ≡ n + 1) × IsBetween text found.1

-- a value with the place behind it, or the place before the failing word, are what is read
abbrev pub Goes : {Y A : Type 0} → List ℕ → (Y → A) → (Y → ℕ) → Result Y ℕ → Result (A × ℕ) ℕ → Type 0
Goes text value place (Ok y) read = (read ≡ Ok (value y, read_at text (place y))) × IsBetween text (place y)
Goes text value place (Err at) read = (read ≡ Err (read_at text at)) × IsBetween text at

-- the next section, where one begins
abbrev pub SectionAt : List ℕ → Came → ℕ → Result (Option (Section × ℕ)) ReadFault → Type 0
SectionAt text came n (Ok None) = stands kind_of section_starts (words text) n ≡ false
SectionAt text came n (Ok (Some y)) = (stands kind_of section_starts (words text) n ≡ true) × ((section_of came).read (words text) n ≡ Ok (section_seen y.0, read_at text y.1)) × IsBetween text y.1
SectionAt text came n (Err faults.Memory) = Unit {0}
SectionAt text came n (Err (faults.At at)) = (stands kind_of section_starts (words text) n ≡ true) × ((section_of came).read (words text) n ≡ Err (read_at text at)) × IsBetween text at

abbrev pub HeaderGoes : List ℕ → Result (Vec Section × ℕ × ℕ) ReadFault → Type 0
HeaderGoes text (Ok y) = (header_read text ≡ Ok ((map section_seen y.0.items, y.1), read_at text y.2)) × IsBetween text y.2
HeaderGoes text (Err faults.Memory) = Unit {0}
HeaderGoes text (Err (faults.At at)) = (header_read text ≡ Err (read_at text at)) × IsBetween text at

-- `$enddefinitions` with its place
abbrev pub StartAt : List ℕ → ℕ → Result (ℕ × ℕ) ReadFault → Type 0
StartAt text n (Ok y) = (start.read (words text) n ≡ Ok (y.0, read_at text y.1)) × IsBetween text y.1
StartAt text n (Err faults.Memory) = Unit {0}
StartAt text n (Err (faults.At at)) = (start.read (words text) n ≡ Err (read_at text at)) × IsBetween text at
