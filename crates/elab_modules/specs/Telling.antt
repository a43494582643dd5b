-- What the checks of a module's members answer.
use Rattle.std.specs.Prelude.{◌≡◌, ◌<◌, length, List, [], ◌++◌, Bool, true, false, Option, Some, None, Result, MatchResult, flat_map, ◌∷◌, if◌then◌else◌, ℕ, ℤ}
use Rattle.sg_circuit.specs.declared.scopes.Port.{Port}
use Rattle.sg_circuit.specs.declared.scopes.Port.TheVariants as port
use Rattle.sg_circuit.specs.Seen.{delays_at}
use Rattle.sg_delay.specs.declared.corners.Corner.{Corner}
use Rattle.sg_delay.specs.declared.gates.GateDelays.{GateDelays}
use Rattle.sg_logic.specs.Gate.{most_delays}
use Rattle.sg_text.specs.declared.refusals.Refused.{Refused}
use Rattle.sg_text.specs.declared.places.Place.{Place}
use Rattle.vl_tree.specs.Tree.{Delay, Expression, Module, Source}
use Rattle.elab_model.specs.declared.kinds.ElabKind.{ElabKind}
use Rattle.elab_model.specs.Faults.{Fault, RefusesOneOf}
use Rattle.elab_model.specs.Members.{Member, assignment, supply, gate, instance, path, check}
use Rattle.elab_model.specs.ModuleFaults.{all_member_faults}
use Rattle.elab_model.specs.Names.{Variable}
use Rattle.elab_model.specs.TerminalFaults.{expression_faults, width_faults, constant_faults, assignment_faults, delay_faults}

-- there is no fault, or one is told
abbrev pub Tells : {A : Type 0} → List Fault → Result A (Refused ElabKind) → Type 0
Tells fs result = MatchResult result (λ _. fs ≡ []) (RefusesOneOf fs)

-- what is wrong with an expression that is joined to so many bits, perhaps as an output
abbrev pub joined_faults : List Variable → ℕ → Bool → Expression → List Fault
joined_faults vs width is_output e = expression_faults vs e ++ (width_faults vs width e ++ (if is_output then constant_faults vs e else []))

abbrev pub joined_value_faults : List Variable → ℕ → Bool → Option Expression → List Fault
joined_value_faults vs width is_output None = []
joined_value_faults vs width is_output (Some e) = joined_faults vs width is_output e

-- what is wrong with an assignment
abbrev pub sides_faults : List Variable → Place → Expression → Expression → List Fault
sides_faults vs p left right =
    flat_map (expression_faults vs) (left ∷ right ∷ []) ++ assignment_faults vs (record { place = p; left = left; right = right })

-- whether a variable is a port
abbrev pub is_port : Port → Bool
is_port port.Input = true
is_port port.Output = true
is_port port.Inner = false

-- the delay of a member, and the most that it takes (7.14, 8.6)
abbrev pub delay_of : Member → Option Delay
delay_of (assignment j) = None
delay_of (supply n v) = None
delay_of (gate g d i) = d
delay_of (instance n d i) = d
delay_of (path p) = None
delay_of (check c) = None

abbrev pub most_of : Member → ℕ
most_of (assignment j) = 0
most_of (supply n v) = 0
most_of (gate g d i) = most_delays g
most_of (instance n d i) = 2
most_of (path p) = 0
most_of (check c) = 0

-- nothing is wrong with a member but perhaps its delay, or a fault is told
abbrev pub TellsButDelay : {A : Type 0} → Source → Module → Member → Result A (Refused ElabKind) → Type 0
TellsButDelay source m i result =
    (corner : Corner) (tick : ℤ)
    → MatchResult result (λ _. all_member_faults source corner tick m i ≡ delay_faults (most_of i) corner tick m (delay_of i)) (RefusesOneOf (all_member_faults source corner tick m i))

-- ---- the table of delays

-- a list grows at its end
abbrev pub GrowsBy : List GateDelays → List GateDelays → Type 0
GrowsBy old new = (more : List GateDelays) × (new ≡ old ++ more)

-- these delays stand at a place
abbrev pub StandsFor : List GateDelays → ℕ → List ℕ → Type 0
StandsFor table i delays = (i < length table) × (delays_at table i ≡ delays)
