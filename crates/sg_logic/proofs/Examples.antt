-- The changes of the two edges, and some gates and transitions.
use Rattle.std.proofs.Common.{◌≡◌, refl, List, [], ◌∷◌, Some, None}
use Rattle.std.specs.Prelude.{filter}
use Rattle.sg_logic.specs.declared.values.Value.{Value}
use Rattle.sg_logic.specs.declared.values.Value.TheVariants.{Zero, One, X, Z}
use Rattle.sg_logic.specs.declared.gates.GateKind.TheVariants.{And, Nor, Xnor}
use Rattle.sg_logic.specs.declared.transitions.Trans.TheVariants.{Tz1, T0x}
use Rattle.sg_logic.specs.declared.edges.TheConstants.{POSEDGE, NEGEDGE}
use Rattle.sg_logic.specs.Gate.{gate_value}
use Rattle.sg_logic.specs.Edges.{has_change}
use Rattle.sg_logic.specs.Transitions.{transition}

-- all pairs of values
abbrev pairs : List (Value × Value)
pairs =
    (Zero, Zero) ∷ (Zero, One) ∷ (Zero, X) ∷ (Zero, Z) ∷ (One, Zero) ∷ (One, One) ∷ (One, X) ∷ (One, Z)
    ∷ (X, Zero) ∷ (X, One) ∷ (X, X) ∷ (X, Z) ∷ (Z, Zero) ∷ (Z, One) ∷ (Z, X) ∷ (Z, Z) ∷ []

-- posedge and negedge, each with all of its changes (IEEE 1364-2005, detecting posedge and negedge)
posedge : filter (λ p. has_change POSEDGE p.0 p.1) pairs ≡ (Zero, One) ∷ (Zero, X) ∷ (Zero, Z) ∷ (X, One) ∷ (Z, One) ∷ []
posedge = refl

negedge : filter (λ p. has_change NEGEDGE p.0 p.1) pairs ≡ (One, Zero) ∷ (One, X) ∷ (One, Z) ∷ (X, Zero) ∷ (Z, Zero) ∷ []
negedge = refl

z_rises : transition Z One ≡ Some Tz1
z_rises = refl

x_stays : transition X X ≡ None
x_stays = refl

zero_to_x : transition Zero X ≡ Some T0x
zero_to_x = refl

one_zero_settles_and : gate_value And (One ∷ X ∷ Zero ∷ []) ≡ Zero
one_zero_settles_and = refl

z_is_unknown_to_nor : gate_value Nor (Zero ∷ Z ∷ []) ≡ X
z_is_unknown_to_nor = refl

two_ones_are_even : gate_value Xnor (One ∷ Zero ∷ One ∷ []) ≡ One
two_ones_are_even = refl
