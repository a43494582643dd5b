-- The nets of timing checks.
use Rattle.std.specs.Prelude.{ℕ, ◌<◌, List, [], ◌∷◌, Option, Some, None, IfSome}
use Rattle.cond_expr.specs.Values.{AreBelow}
use Rattle.sg_circuit.specs.declared.checks.Event.{Event}
use Rattle.time_checks.specs.Adjusted.{AdjustedCheck}

-- those of its terminals
abbrev pub datum_nets : Option Event → List ℕ
datum_nets None = []
datum_nets (Some event) = event.net ∷ []

abbrev pub terminals : AdjustedCheck → List ℕ
terminals check = check.refer.net ∷ datum_nets check.datum

-- a terminal's net and those of its condition are among so many
pub record IsEventWithin (event : Event) (nets : ℕ) : Type 0 where
  pub net : event.net < nets
  pub condition : IfSome event.condition (λ c. AreBelow nets c)

pub record IsCheckWithin (check : AdjustedCheck) (nets : ℕ) : Type 0 where
  pub refer : IsEventWithin check.refer nets
  pub datum : IfSome check.datum (λ event. IsEventWithin event nets)
