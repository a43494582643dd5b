-- What a moment says of the values that elements computed last, as the code goes over its pending transitions.
use Rattle.std.specs.Prelude.{List, [], ◌∷◌, slice_set}
use Rattle.sg_logic.specs.declared.values.Value.{Value}
use Rattle.sim_rounds.specs.Moments.{Pending}

-- each driver's value becomes that of its transition, one after another
abbrev pub with_values : List Pending → List Value → List Value
with_values [] values = values
with_values (p ∷ ps) values = with_values ps (slice_set values p.driver p.value)
