-- What was told last of the nets of a simulation, and which may differ from it.
use Rattle.std.specs.Prelude.{◌≡◌, ℕ, ◌≤◌, true, if◌then◌else◌, List, [], ◌∷◌, length}
use Rattle.std.specs.Vec.{vec_capacity}
use Rattle.sg_logic.specs.declared.values.Value.{Value}
use Rattle.sg_model.specs.Values.{value_at}
use Rattle.fan_round.specs.Nets.{differs}
use Rattle.fan_round.specs.Work.{AreMarked, mark_at}
use Rattle.sim_times.specs.Watching.{NetChange}
use Rattle.sim_times.specs.declared.told.Told.{Told}

-- the nets whose values differ from what was told are among those that were touched
pub record IsTold (told : Told) (values : List Value) : Type 0 where
  pub as_many : length told.values.items ≡ length values
  pub marks : length told.touched.marks.items ≡ length values
  pub room : length values ≤ vec_capacity told.touched.list
  pub marked : AreMarked told.touched.marks.items told.touched.list.items
  pub each : (net : ℕ) → differs told.values.items values net ≡ true → mark_at told.touched.marks.items net ≡ true

-- of these nets those whose values differ, with both values
abbrev pub changes_in : List Value → List Value → List ℕ → List NetChange
changes_in told values [] = []
changes_in told values (net ∷ nets) = if differs told values net then record { net = net; before = value_at told net; after = value_at values net } ∷ changes_in told values nets else changes_in told values nets
