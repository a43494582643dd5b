-- What a dump says as a stimulus: its stimulus where no fault stands, and else a fault that stands.
use Rattle.std.specs.Prelude.{◌≡◌, ℕ, suc, ◌^◌, ◌<◌, List, length, Some}
use Rattle.std.specs.List.{IsAmong}
use Rattle.sg_circuit.specs.Circuit.{Circuit}
use Rattle.sg_stimulus.specs.Stimulus.{Stimulus}
use Rattle.sg_text.specs.declared.refusals.Refused.{Refused}
use Rattle.sg_text.specs.declared.refusals.Refused.TheVariants as refused
use Rattle.vcd_form.specs.Rules.{dump, front}
use Rattle.vcd_form.specs.Words.{byte_of, words}
use Rattle.vcd_form.specs.Written.{Front, Item, Section}
use Rattle.vcd_model.specs.declared.kinds.VcdKind.{VcdKind}
use Rattle.vcd_model.specs.declared.kinds.VcdKind.TheVariants.{Syntax, TooLarge}
use Rattle.vcd_model.specs.Faults.{fault, front_faults, Fault}
use Rattle.vcd_model.specs.Stimulus.{wave_stimulus}

-- the most bytes of a file
abbrev pub most_bytes : ℕ
most_bytes = 2 ^ 28

pub data FaultStands (text : List ℕ) (circuit : Circuit) (scope : List ℕ) : Fault → Type 0 where
  too_long : most_bytes < length text → FaultStands text circuit scope (fault TooLarge most_bytes)
  -- the first word with which the words begin no dump, or the end
  of_form : (n : ℕ) → dump.language.Begins (words text) 0 n → (dump.language.Begins (words text) 0 (suc n) → ⊥) → ((f : Front) → dump.language.Spells (words text) 0 f (length (words text)) → ⊥)
      → FaultStands text circuit scope (fault Syntax (byte_of text n))
  -- a fault of words that the dump begins with
  of_front : (f : Front) (n : ℕ) → front.language.Spells (words text) 0 f n → (x : Fault) → IsAmong (front_faults circuit scope f) x → FaultStands text circuit scope x

-- the words spell a dump, no fault stands, and it is the stimulus of the dump
pub record IsRead (text : List ℕ) (circuit : Circuit) (scope : List ℕ) (stimulus : Stimulus) : Type 0 where
  pub sections : List Section
  pub definitions : ℕ
  pub items : List Item
  pub spelled : dump.language.Spells (words text) 0 (record { sections = sections; body = Some (definitions, items) }) (length (words text))
  pub no_fault : (x : Fault) → FaultStands text circuit scope x → ⊥
  pub is_stimulus : stimulus ≡ wave_stimulus circuit scope sections items

abbrev pub RefusalStands : List ℕ → Circuit → List ℕ → Refused VcdKind → Type 0
RefusalStands text circuit scope (refused.Fault kind place) = FaultStands text circuit scope (record { kind = kind; place = place })
RefusalStands text circuit scope refused.NoMemory = Unit {0}
