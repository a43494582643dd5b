-- Numbers that are written at places of a row.
use Rattle.std.specs.Prelude.{◌≡◌, ◌⊎◌, ℕ, List, Option, Some, length, map, slice_get}
use Rattle.std.specs.List.{range_with_len}
use Rattle.elab_laws.specs.Words.{In}

-- what stands at each place is meant to stand there, or the place is one of those where more is to be written
abbrev pub AreRightOrAmong : (ℕ → Option ℕ) → List ℕ → List (Option ℕ) → Type 0
AreRightOrAmong meant places row = (i : ℕ) (o : Option ℕ) → slice_get row i ≡ Some o → (o ≡ meant i) ⊎ In i places

-- the numbers from next on are those that are meant at these places, in order
abbrev pub AreMeant : (ℕ → Option ℕ) → ℕ → List ℕ → Type 0
AreMeant meant next places = map meant places ≡ map Some (range_with_len next (length places))

-- after the writing each place has what is meant there
abbrev pub IsWritten : ℕ → List ℕ → List (Option ℕ) → List (Option ℕ) → Type 0
IsWritten next places old new = (meant : ℕ → Option ℕ) → AreMeant meant next places → AreRightOrAmong meant places old → new ≡ map meant (range_with_len 0 (length old))
