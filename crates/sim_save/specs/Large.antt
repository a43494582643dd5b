-- A half of a text that is too large.
use Rattle.std.specs.Prelude.{ℕ, ◌<◌, ◌^◌, List, length}
use Rattle.sim_save.specs.declared.kinds.SaveError.{SaveError}
use Rattle.sim_save.specs.declared.kinds.SaveError.TheVariants.{TooLarge, NoMemory}

-- with this half a text has too many bytes; want of memory is free
abbrev pub IsTooLarge : List ℕ → SaveError → Type 0
IsTooLarge half TooLarge = 2 ^ 29 < length half
IsTooLarge half NoMemory = Unit {0}
