-- Words of contracts: a text that no reader takes.
use Rattle.std.specs.Prelude.{◌≡◌, ℕ, ◌<◌, ◌^◌, List, length}
use Rattle.written_model.specs.declared.errors.WriteError.{WriteError}
use Rattle.written_model.specs.declared.errors.WriteError.TheVariants as error

-- a text is longer than a reader takes it; want of memory is free
abbrev pub IsTooLongFor : List ℕ → WriteError → Type 0
IsTooLongFor text (error.TooLarge s) = (s ≡ 0) × (2 ^ 28 < length text)
IsTooLongFor text error.NoMemory = Unit {0}
IsTooLongFor text _ = ⊥
