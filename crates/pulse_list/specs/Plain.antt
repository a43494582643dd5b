-- What a plain agenda stands for: the pending transitions of all drivers in one list, the latest first.
use Rattle.std.specs.Prelude.{◌≡◌, ℕ, ◌≤◌, ◌==◌, Bool, List, map, filter, reverse, length, slice_index, AllPairs}
use Rattle.std.specs.List.{range_with_len}
use Rattle.sg_logic.specs.declared.values.Value.{Value}
use Rattle.sg_model.specs.Agenda.{Rises}
use Rattle.pulse_list.specs.declared.plain.Pending.{Pending}

-- whether it is of this driver
abbrev pub is_of : ℕ → Pending → Bool
is_of driver pending = pending.driver == driver

-- its time and value
abbrev pub pair_of : Pending → ℕ × Value
pair_of pending = (pending.time, pending.value)

-- a driver's pairs, its latest first
abbrev pub pairs_of : ℕ → List Pending → List (ℕ × Value)
pairs_of driver all = map pair_of (filter (is_of driver) all)

-- the table of so many drivers
abbrev pub table_of : ℕ → List Pending → List (List (ℕ × Value))
table_of drivers all = map (λ driver. reverse (pairs_of driver all)) (range_with_len 0 drivers)

-- times don't rise along the list
abbrev pub Falls : List Pending → Type 0
Falls all = AllPairs (λ p q. q.time ≤ p.time) all

-- what a plain agenda keeps: times don't rise, they fall strictly at each driver, and each driver has as many pairs as is
-- counted; a number that is no driver has none
pub record IsPlain (all : List Pending) (counts : List ℕ) : Type 0 where
  pub falls : Falls all
  pub rises : (driver : ℕ) → Rises (pairs_of driver all)
  pub counted : (driver : ℕ) → slice_index counts driver ≡ length (pairs_of driver all)

-- this driver's pairs are these now, and all others' are as they were
pub record IsRewritten (old new : List Pending) (driver : ℕ) (pairs : List (ℕ × Value)) : Type 0 where
  pub own : pairs_of driver new ≡ pairs
  pub others : (other : ℕ) → (other ≡ driver → ⊥) → pairs_of other new ≡ pairs_of other old
