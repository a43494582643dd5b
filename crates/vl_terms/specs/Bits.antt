-- The only bit of a list, unless it is z.
use Rattle.std.specs.Prelude.{List, [], ◌∷◌, Option, Some, None}
use Rattle.sg_logic.specs.declared.values.Value.{Value}
use Rattle.sg_logic.specs.declared.values.Value.TheVariants.{Zero, One, X, Z}

abbrev pub initial_bit : List Value → Option Value
initial_bit [] = None
initial_bit (Zero ∷ []) = Some Zero
initial_bit (One ∷ []) = Some One
initial_bit (X ∷ []) = Some X
initial_bit (Z ∷ []) = None
initial_bit (v ∷ w ∷ vs) = None
