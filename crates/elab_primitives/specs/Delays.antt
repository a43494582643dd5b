-- Which numbers of ticks no gate may have.
use Rattle.std.specs.Prelude.{ℕ, List, Bool, ◌||◌, nat_lt, nat_le, length}
use Rattle.std.specs.List.{list_any}
use Rattle.elab_model.specs.TerminalFaults.{delay_limit}

abbrev pub is_too_long : ℕ → Bool
is_too_long ticks = nat_le delay_limit ticks

abbrev pub are_refused : (most : ℕ) → List ℕ → Bool
are_refused most ticks = nat_lt most (length ticks) || list_any is_too_long ticks
