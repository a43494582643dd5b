-- Worked examples. The nets: inputs a and b, and s and t, of which conditions speak.
use Rattle.std.proofs.Common.{◌≡◌, refl, ℕ, List, [], ◌∷◌, Option, Some, None}
use Rattle.sg_logic.specs.declared.values.Value.{Value}
use Rattle.sg_logic.specs.declared.values.Value.TheVariants.{Zero, One, X}
use Rattle.sg_logic.specs.declared.edges.TheConstants.{POSEDGE, NEGEDGE}
use Rattle.cond_expr.specs.Tree.{leaf}
use Rattle.sg_model.specs.Machine.{Stamp}
use Rattle.sg_circuit.specs.Timings.{Timing}
use Rattle.sg_circuit.specs.Paths.{Path, PathCondition, Always, If, IfNone}
use Rattle.path_pick.specs.Choice.{picked}
use Rattle.path_pick.specs.declared.picking.Picked.{Picked}

-- a delay without limits
abbrev only : ℕ → Timing
only delay = record { delay = delay; limits = None }

-- from a or b, with a delay for a rise and one for a fall
abbrev from_a : PathCondition → ℕ → ℕ → Path
from_a condition rise fall = record { input = 0; edge = None; condition = condition; timings = only rise ∷ only fall ∷ [] }

abbrev from_b : PathCondition → ℕ → ℕ → Path
from_b condition rise fall = record (from_a condition rise fall) { input = 1 }

abbrev if_s : PathCondition
if_s = If [] (leaf 2)

abbrev if_t : PathCondition
if_t = If [] (leaf 3)

-- a net that rose
abbrev rose : ℕ → Option Stamp
rose time = Some (record { time = time; before = Zero; after = One })

-- the output rises at 20; s and t have these values
abbrev rising : List Path → Value → Value → List (Option Stamp) → Picked
rising paths s t stamps = picked paths (One ∷ One ∷ s ∷ t ∷ []) stamps 20 Zero One

-- by a delay, whose limits are as long
abbrev after : ℕ → ℕ → Picked
after time delay = record { time = time; reject = delay; error = delay }

-- both inputs changed at 20: the lesser delay of the output's transition decides, whichever path comes first
rises_by_the_lesser : rising (from_a Always 6 9 ∷ from_b Always 5 11 ∷ []) X X (rose 20 ∷ rose 20 ∷ []) ≡ after 25 5
rises_by_the_lesser = refl

falls_by_the_lesser : picked (from_a Always 6 9 ∷ from_b Always 5 11 ∷ []) (One ∷ One ∷ []) (rose 40 ∷ rose 40 ∷ []) 40 One Zero ≡ after 49 9
falls_by_the_lesser = refl

-- the input that changed last decides, though its delay is greater
latest_decides : rising (from_a Always 6 9 ∷ from_b Always 5 11 ∷ []) X X (rose 20 ∷ rose 17 ∷ []) ≡ after 26 6
latest_decides = refl

two_conditions_hold : rising (from_a if_s 7 7 ∷ from_a if_t 5 5 ∷ []) One One (rose 20 ∷ None ∷ []) ≡ after 25 5
two_conditions_hold = refl

one_condition_holds : rising (from_a if_s 7 7 ∷ from_a if_t 5 5 ∷ []) One Zero (rose 20 ∷ None ∷ []) ≡ after 27 7
one_condition_holds = refl

x_holds : rising (from_a if_s 7 7 ∷ from_a if_t 5 5 ∷ []) Zero X (rose 20 ∷ None ∷ []) ≡ after 25 5
x_holds = refl

ifnone_beside_one_that_holds : rising (from_a IfNone 5 5 ∷ from_a if_s 7 7 ∷ []) One X (rose 20 ∷ None ∷ []) ≡ after 27 7
ifnone_beside_one_that_holds = refl

ifnone_beside_none : rising (from_a IfNone 5 5 ∷ from_a if_s 7 7 ∷ []) Zero X (rose 20 ∷ None ∷ []) ≡ after 25 5
ifnone_beside_none = refl

-- a condition of a path from another input doesn't count for it
ifnone_of_another_input : rising (from_a IfNone 5 5 ∷ from_b if_s 7 7 ∷ []) One X (rose 20 ∷ None ∷ []) ≡ after 25 5
ifnone_of_another_input = refl

other_edge : rising (record (from_a Always 5 5) { edge = Some NEGEDGE } ∷ record (from_a Always 7 7) { edge = Some POSEDGE } ∷ []) X X (rose 20 ∷ None ∷ []) ≡ after 27 7
other_edge = refl

-- an input that never changed counts as changed at 0, but has no edge
no_change : rising (from_a Always 30 30 ∷ record (from_b Always 25 25) { edge = Some POSEDGE } ∷ []) X X (None ∷ None ∷ []) ≡ after 30 30
no_change = refl

not_before_now : rising (from_a Always 5 5 ∷ []) X X (rose 12 ∷ None ∷ []) ≡ after 20 5
not_before_now = refl

no_path_left : rising (from_a if_s 5 5 ∷ []) Zero X (rose 20 ∷ None ∷ []) ≡ record { time = 20; reject = 0; error = 0 }
no_path_left = refl

-- of equal delays the first path's limits count
equal_delays : rising (from_a Always 5 5 ∷ record (from_b Always 5 5) { timings = record { delay = 5; limits = Some (2, 3) } ∷ [] } ∷ []) X X (rose 20 ∷ rose 20 ∷ []) ≡ after 25 5
equal_delays = refl

given_limits : rising (record (from_a Always 5 5) { timings = record { delay = 5; limits = Some (2, 3) } ∷ [] } ∷ []) X X (rose 20 ∷ None ∷ []) ≡ record { time = 25; reject = 2; error = 3 }
given_limits = refl
