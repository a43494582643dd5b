-- The delay of a gate by the value to which its output goes (IEEE 1364-2005, 7.14, gate and net delays).
use Rattle.std.specs.Prelude.{ℕ, List, [], ◌∷◌, min}
use Rattle.sg_logic.specs.declared.values.Value.{Value}
use Rattle.sg_logic.specs.declared.values.Value.TheVariants.{Zero, One, X, Z}

-- to 1 goes a rise, to 0 a fall, and to x and z the lesser of the two
abbrev pub of_two : ℕ → ℕ → Value → ℕ
of_two rise fall One = rise
of_two rise fall Zero = fall
of_two rise fall X = min rise fall
of_two rise fall Z = min rise fall

-- to 1 goes a rise, to 0 a fall, to z a turning off, and to x the least of the three
abbrev pub of_three : ℕ → ℕ → ℕ → Value → ℕ
of_three rise fall off One = rise
of_three rise fall off Zero = fall
of_three rise fall off X = min (min rise fall) off
of_three rise fall off Z = off

-- no delay is 0, and one delay is that of each change
abbrev pub delay_to : List ℕ → Value → ℕ
delay_to [] value = 0
delay_to (delay ∷ []) value = delay
delay_to (rise ∷ fall ∷ []) value = of_two rise fall value
delay_to (rise ∷ fall ∷ off ∷ rest) value = of_three rise fall off value
