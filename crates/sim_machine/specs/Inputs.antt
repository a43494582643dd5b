-- The room for the values of an element's inputs.
use Rattle.std.specs.Prelude.{ℕ, ◌≤◌}
use Rattle.std.specs.Vec.{vec_capacity}
use Rattle.sim_machine.specs.declared.computing.Inputs.{Inputs}

-- room for so many values, twice
pub record HasRoom (inputs : Inputs) (count : ℕ) : Type 0 where
  pub before : count ≤ vec_capacity inputs.before
  pub after : count ≤ vec_capacity inputs.after

-- no less room than before
pub record IsRoomier (old new : Inputs) : Type 0 where
  pub before : vec_capacity old.before ≤ vec_capacity new.before
  pub after : vec_capacity old.after ≤ vec_capacity new.after
