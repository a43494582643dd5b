-- The elements that a round has to evaluate: those with a changed input.
use Rattle.std.specs.Prelude.{◌≡◌, ℕ, ◌+◌, ◌<◌, Bool, true, false, if◌then◌else◌, All, List, [], ◌∷◌, length, slice_index_or, slice_set}
use Rattle.sg_logic.specs.declared.values.Value.{Value}
use Rattle.sg_model.specs.Time.{any_differs, count_differing}
use Rattle.sg_circuit.specs.FanOut.{readers_at, IsFanOut}
use Rattle.fan_round.specs.Nets.{differs}
use Rattle.fan_round.specs.Lists.{IsListOf}

-- an element's mark
abbrev pub mark_at : List Bool → ℕ → Bool
mark_at marks e = slice_index_or marks e false

abbrev pub count_marks : List Bool → ℕ
count_marks [] = 0
count_marks (m ∷ ms) = (if m then 1 else 0) + count_marks ms

-- the list has the elements that are marked, each once
pub record AreMarked (marks : List Bool) (work : List ℕ) : Type 0 where
  pub each : IsListOf (mark_at marks) work
  pub count : length work ≡ count_marks marks

-- these elements are marked
abbrev pub with_marks : List ℕ → List Bool → List Bool
with_marks [] marks = marks
with_marks (e ∷ es) marks = with_marks es (slice_set marks e true)

-- the readers of these nets are marked
abbrev pub with_readers : List (List ℕ) → List ℕ → List Bool → List Bool
with_readers fan [] marks = marks
with_readers fan (net ∷ nets) marks = with_readers fan nets (with_marks (readers_at fan net) marks)

-- each reader is one of so many elements
pub record AreReaders (fan : List (List ℕ)) (elements : ℕ) : Type 0 where
  pub each : (net : ℕ) → All (λ e. e < elements) (readers_at fan net)

-- whether an element has an input whose value differs
abbrev pub has_changed : List Value → List Value → List (List ℕ) → ℕ → Bool
has_changed before values inputs e = any_differs before values (slice_index_or inputs e [])

-- of so many elements, the list has those with an input whose value differs, each once, and so is as long as the model
-- counts, whatever the elements read and the values are of which the fan-out and the nets tell
pub record IsWorkOf (fan : List (List ℕ)) (nets : List ℕ) (elements : ℕ) (work : List ℕ) : Type 0 where
  pub each : (inputs : List (List ℕ)) (before values : List Value) → IsFanOut inputs fan → length inputs ≡ elements → IsListOf (differs before values) nets
      → IsListOf (has_changed before values inputs) work × (length work ≡ count_differing before values inputs)
