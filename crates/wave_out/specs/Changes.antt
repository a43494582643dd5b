-- Words of the functions that write a later block from the nets that changed.
use Rattle.std.specs.Prelude.{◌≡◌, ◌==◌, ℕ, List, [], ◌∷◌, ◌++◌, Bool, Option, Some, None, if◌then◌else◌}
use Rattle.std.specs.List.{list_any}
use Rattle.sg_logic.specs.declared.values.Value.{Value}
use Rattle.sg_model.specs.Time.{any_differs}
use Rattle.sim_times.specs.Watching.{AreDifferences, NetChange}
use Rattle.wave_out.specs.Lines.{bits_line, first_text, later_text}
use Rattle.wave_out.specs.Texts.{by_number}
use Rattle.wave_out.specs.Vcd.{time_line}

-- the value of the k-th variable where it differs
abbrev pub bits_change : List Value → List Value → ℕ → List ℕ → List ℕ
bits_change old new k bits = if any_differs old new bits then bits_line new k bits else []

-- the block of a time with the variables that differ, if some do
abbrev pub changes_text : ℕ → List (List ℕ) → List Value → List Value → Option (List ℕ)
changes_text time bits old new = if list_any (any_differs old new) bits then Some (time_line time ++ by_number (bits_change old new) 0 bits) else None

-- the same from the list of those variables
abbrev pub work_text : ℕ → List (List ℕ) → List Value → List ℕ → Option (List ℕ)
work_text time bits values [] = None
work_text time bits values (k ∷ ks) = Some (later_text time bits (k ∷ ks) values)

-- the block is that of the variables that differ, whatever the values before were of which the changes tell
pub record IsBlock (time : ℕ) (bits : List (List ℕ)) (changed : List NetChange) (values : List Value) (block : Option (List ℕ)) : Type 0 where
  pub each : (before : List Value) → AreDifferences before values changed → block ≡ changes_text time bits before values

-- a text, if there is one
abbrev pub text_if : Bool → List ℕ → Option (List ℕ)
text_if some text = if some then Some text else None

-- what a call adds after a time that was written last, if any
abbrev pub IsText : Option ℕ → ℕ → List (List ℕ) → List NetChange → List Value → Option (List ℕ) → Type 0
IsText None time bits changed values text = text ≡ Some (first_text time bits values)
IsText (Some last) time bits [] values text = text ≡ (if last == time then None else Some (time_line time))
IsText (Some last) time bits (c ∷ cs) values text = IsBlock time bits (c ∷ cs) values text
