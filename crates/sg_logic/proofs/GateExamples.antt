-- Gates of three inputs, of one, and of an input and a control (IEEE 1364-2005, 7.2 to 7.4), and the places of the twelve transitions.
use Rattle.std.proofs.Common.{◌≡◌, refl, List, [], ◌∷◌, Some}
use Rattle.std.specs.Prelude.{map}
use Rattle.sg_logic.specs.declared.values.Value.{Value}
use Rattle.sg_logic.specs.declared.values.Value.TheVariants.{Zero, One, X, Z}
use Rattle.sg_logic.specs.declared.gates.GateKind.TheVariants.{And, Nand, Or, Nor, Xor, Xnor, Buf, Not, Bufif0, Bufif1, Notif0, Notif1}
use Rattle.sg_logic.specs.declared.transitions.Trans.TheVariants.{T01, T10, T0z, Tz1, T1z, Tz0, T0x, Tx1, T1x, Tx0, Txz, Tzx}
use Rattle.sg_logic.specs.Gate.{gate_value, most_delays}
use Rattle.sg_logic.specs.Transitions.{transition, transitions}

conjunctions : map (gate_value And) ((One ∷ X ∷ Zero ∷ []) ∷ (One ∷ One ∷ One ∷ []) ∷ (One ∷ Z ∷ One ∷ []) ∷ []) ≡ Zero ∷ One ∷ X ∷ []
conjunctions = refl

inverted_conjunctions : map (gate_value Nand) ((X ∷ Z ∷ Zero ∷ []) ∷ (One ∷ One ∷ One ∷ []) ∷ (One ∷ One ∷ X ∷ []) ∷ []) ≡ One ∷ Zero ∷ X ∷ []
inverted_conjunctions = refl

disjunctions : map (gate_value Or) ((Zero ∷ X ∷ One ∷ []) ∷ (Zero ∷ Zero ∷ Zero ∷ []) ∷ (Zero ∷ Z ∷ Zero ∷ []) ∷ []) ≡ One ∷ Zero ∷ X ∷ []
disjunctions = refl

inverted_disjunctions : map (gate_value Nor) ((Z ∷ X ∷ One ∷ []) ∷ (Zero ∷ Zero ∷ Zero ∷ []) ∷ (Zero ∷ Zero ∷ Z ∷ []) ∷ []) ≡ Zero ∷ One ∷ X ∷ []
inverted_disjunctions = refl

parities : map (gate_value Xor) ((One ∷ One ∷ One ∷ []) ∷ (One ∷ Zero ∷ One ∷ []) ∷ (One ∷ Z ∷ One ∷ []) ∷ []) ≡ One ∷ Zero ∷ X ∷ []
parities = refl

inverted_parities : map (gate_value Xnor) ((One ∷ Zero ∷ Zero ∷ []) ∷ (One ∷ Zero ∷ One ∷ []) ∷ (X ∷ Zero ∷ One ∷ []) ∷ []) ≡ Zero ∷ One ∷ X ∷ []
inverted_parities = refl

buffered : map (gate_value Buf) ((Zero ∷ []) ∷ (One ∷ []) ∷ (X ∷ []) ∷ (Z ∷ []) ∷ []) ≡ Zero ∷ One ∷ X ∷ X ∷ []
buffered = refl

inverted : map (gate_value Not) ((Zero ∷ []) ∷ (One ∷ []) ∷ (X ∷ []) ∷ (Z ∷ []) ∷ []) ≡ One ∷ Zero ∷ X ∷ X ∷ []
inverted = refl

-- an input of 0, 1, x and z, in that order, under a control
abbrev under : Value → List (List Value)
under control = map (λ input. input ∷ control ∷ []) (Zero ∷ One ∷ X ∷ Z ∷ [])

-- one list for each control, 0, 1, x and z (7.4, the tables of the four; L and H are x)
bufif0_table : map (λ control. map (gate_value Bufif0) (under control)) (Zero ∷ One ∷ X ∷ Z ∷ [])
    ≡ (Zero ∷ One ∷ X ∷ X ∷ []) ∷ (Z ∷ Z ∷ Z ∷ Z ∷ []) ∷ (X ∷ X ∷ X ∷ X ∷ []) ∷ (X ∷ X ∷ X ∷ X ∷ []) ∷ []
bufif0_table = refl

bufif1_table : map (λ control. map (gate_value Bufif1) (under control)) (Zero ∷ One ∷ X ∷ Z ∷ [])
    ≡ (Z ∷ Z ∷ Z ∷ Z ∷ []) ∷ (Zero ∷ One ∷ X ∷ X ∷ []) ∷ (X ∷ X ∷ X ∷ X ∷ []) ∷ (X ∷ X ∷ X ∷ X ∷ []) ∷ []
bufif1_table = refl

notif0_table : map (λ control. map (gate_value Notif0) (under control)) (Zero ∷ One ∷ X ∷ Z ∷ [])
    ≡ (One ∷ Zero ∷ X ∷ X ∷ []) ∷ (Z ∷ Z ∷ Z ∷ Z ∷ []) ∷ (X ∷ X ∷ X ∷ X ∷ []) ∷ (X ∷ X ∷ X ∷ X ∷ []) ∷ []
notif0_table = refl

notif1_table : map (λ control. map (gate_value Notif1) (under control)) (Zero ∷ One ∷ X ∷ Z ∷ [])
    ≡ (Z ∷ Z ∷ Z ∷ Z ∷ []) ∷ (One ∷ Zero ∷ X ∷ X ∷ []) ∷ (X ∷ X ∷ X ∷ X ∷ []) ∷ (X ∷ X ∷ X ∷ X ∷ []) ∷ []
notif1_table = refl

numbers_of_delays : map most_delays (And ∷ Xnor ∷ Not ∷ Bufif0 ∷ Bufif1 ∷ Notif0 ∷ Notif1 ∷ []) ≡ 2 ∷ 2 ∷ 2 ∷ 3 ∷ 3 ∷ 3 ∷ 3 ∷ []
numbers_of_delays = refl

-- in their order, as SDF lists of delays have them (IEEE 1497-2001)
in_order : transitions ≡ T01 ∷ T10 ∷ T0z ∷ Tz1 ∷ T1z ∷ Tz0 ∷ T0x ∷ Tx1 ∷ T1x ∷ Tx0 ∷ Txz ∷ Tzx ∷ []
in_order = refl

each_change : map (λ (p : Value × Value). transition p.0 p.1) ((Zero, One) ∷ (One, Zero) ∷ (Zero, Z) ∷ (Z, One) ∷ (One, Z) ∷ (Z, Zero) ∷ (Zero, X) ∷ (X, One) ∷ (One, X) ∷ (X, Zero) ∷ (X, Z) ∷ (Z, X) ∷ []) ≡ Some T01 ∷ Some T10 ∷ Some T0z ∷ Some Tz1 ∷ Some T1z ∷ Some Tz0 ∷ Some T0x ∷ Some Tx1 ∷ Some T1x ∷ Some Tx0 ∷ Some Txz ∷ Some Tzx ∷ []
each_change = refl
