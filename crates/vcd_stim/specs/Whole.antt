-- The items behind a header that are read, and why one stops the reading.
use Rattle.std.specs.Prelude.{◌≡◌, ◌<◌, ℕ, List, [], ◌∷◌, length, map, flat_map, Option, Some, None, Result, Ok, Err}
use Rattle.std.specs.Global.{Vec}
use Rattle.grammar.specs.Language.{SpellsMany}
use Rattle.sg_stimulus.specs.Stimulus.{Stimulus}
use Rattle.sg_text.specs.declared.refusals.Refused.{Refused}
use Rattle.sg_text.specs.declared.refusals.Refused.TheVariants as refused
use Rattle.vcd_form.specs.Rules.{item}
use Rattle.vcd_form.specs.Reading.{header_read}
use Rattle.vcd_form.specs.Seen.{item_seen, section_seen}
use Rattle.vcd_form.specs.Words.{byte_of, words}
use Rattle.vcd_form.specs.declared.written.Item as code_item
use Rattle.vcd_form.specs.declared.written.Section as code_section
use Rattle.vcd_form.specs.Written.{Item}
use Rattle.vcd_model.specs.declared.kinds.VcdKind.{VcdKind}
use Rattle.vcd_model.specs.declared.kinds.VcdKind.TheVariants.{Syntax}
use Rattle.vcd_model.specs.Faults.{item_faults, Fault, Header}
use Rattle.vcd_model.specs.Stimulus.{last_time, steps_of, time_of}
use Rattle.vcd_model.specs.Values.{given, ticks, timed}
use Rattle.vcd_stim.specs.Meant.{told, RefusesOneOf}
use Rattle.vcd_stim.specs.Steps.{time_behind, HasSteps}
use Rattle.vcd_stim.specs.declared.steps.Steps.{Steps}

-- n words of a text and some items are read
abbrev pub AreItems : List ℕ → ℕ → List Item → ℕ → Type 0
AreItems text n items m = SpellsMany item.language (words text) n items m

abbrev pub items_faults : Header → List Item → List Fault
items_faults h items = flat_map (item_faults h) (timed 0 items)

abbrev pub stimulus_of : Header → List Item → Stimulus
stimulus_of h items = record { steps = steps_of h.scale (length h.circuit.nets) (given h.circuit h.own items); end = ticks h.scale (last_time 0 (flat_map time_of items)) }

pub record IsAllRead (h : Header) (text : List ℕ) (n : ℕ) (s : Stimulus) : Type 0 where
  pub items : List Item
  pub spelled : AreItems text n items (length (words text))
  pub faultless : items_faults h items ≡ []
  pub stimulus_is : s ≡ stimulus_of h items

-- behind some items a word fails, or a fault stands in them
pub data StopsBy (h : Header) (text : List ℕ) (n : ℕ) (r : Refused VcdKind) : Type 0 where
  stops_form : (items : List Item) (m e : ℕ) → AreItems text n items m → m < length (words text) → item.read (words text) m ≡ Err e → r ≡ told Syntax (byte_of text e) → StopsBy h text n r
  stops_fault : (items : List Item) (m : ℕ) → AreItems text n items m → RefusesOneOf (items_faults h items) r → StopsBy h text n r

-- the time behind items
abbrev pub time_behind_all : ℕ → List Item → ℕ
time_behind_all now [] = now
time_behind_all now (i ∷ is) = time_behind_all (time_behind now i) is

-- some items are read, in which no fault stands
pub record IsReached (h : Header) (text : List ℕ) (n m : ℕ) (steps : Steps) : Type 0 where
  pub items : List Item
  pub spelled : AreItems text n items m
  pub faultless : items_faults h items ≡ []
  pub steps_are : HasSteps h.scale (length h.circuit.nets) (given h.circuit h.own items) (time_behind_all 0 items) steps

-- the next item, or the refusal of the failing word
abbrev pub NextRead : List ℕ → (old new : ℕ) → Result (Option code_item.Item) (Refused VcdKind) → Type 0
NextRead text old new (Ok None) = (old ≡ length (words text)) × (new ≡ old)
NextRead text old new (Ok (Some i)) = item.read (words text) old ≡ Ok (item_seen i, new)
NextRead text old new (Err r) = (old < length (words text)) × (n : ℕ) × (item.read (words text) old ≡ Err n) × (r ≡ told Syntax (byte_of text n))

-- the header, or the refusal of the failing word
abbrev pub SectionsRead : List ℕ → (new : ℕ) → Result (Vec code_section.Section × ℕ) (Refused VcdKind) → Type 0
SectionsRead text new (Ok found) = header_read text ≡ Ok ((map section_seen found.0.items, found.1), new)
SectionsRead text new (Err refused.NoMemory) = Unit {0}
SectionsRead text new (Err (refused.Fault kind place)) = (n : ℕ) × (header_read text ≡ Err n) × (refused.Fault kind place ≡ told Syntax (byte_of text n))
