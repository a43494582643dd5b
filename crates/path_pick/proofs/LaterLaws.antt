-- A transition is never placed before now.
use Rattle.std.specs.Prelude.{ℕ, ◌+◌, ◌≤◌, List}
use Rattle.std.specs.declared.option.Option.{Option}
use Rattle.std.specs.declared.option.Option.TheVariants.{Some, None}
use Rattle.std.proofs.Common.{arith}
use Rattle.std.proofs.Math.Nat.{le-max_left}
use Rattle.sg_logic.specs.declared.values.Value.{Value}
use Rattle.sg_model.specs.Machine.{Stamp}
use Rattle.sg_circuit.specs.Paths.{Path}
use Rattle.path_pick.specs.Choice.{chosen, delay_of, input_time, picked, picked_for}

by_choice : (now : ℕ) (stamps : List (Option Stamp)) (from to : Value) (path : Option Path) → now ≤ (picked_for now stamps from to path).time
by_choice now stamps from to None = omega arith
by_choice now stamps from to (Some p) = le-max_left now (input_time stamps p + delay_of from to p)

pub picked_later : (paths : List Path) (values : List Value) (stamps : List (Option Stamp)) (now : ℕ) (from to : Value) → now ≤ (picked paths values stamps now from to).time
picked_later paths values stamps now from to = by_choice now stamps from to (chosen paths values stamps from to)
