-- Worked examples. Net 0 is a and net 1 is b, which the stimulus sets; other nets are said.
use Rattle.std.proofs.Common.{◌≡◌, refl, ℕ, pos, true, List, [], ◌∷◌, Some, None}
use Rattle.std.specs.Prelude.{replicate}
use Rattle.sg_logic.specs.declared.values.Value.{Value}
use Rattle.sg_logic.specs.declared.values.Value.TheVariants.{Zero, One, X}
use Rattle.sg_logic.specs.declared.gates.GateKind.TheVariants as gate
use Rattle.sg_delay.specs.declared.limits.PulseStyle.TheVariants.{OnEvent}
use Rattle.udp_rows.specs.declared.cells.Cell.{Cell}
use Rattle.udp_rows.specs.declared.cells.RawRow.{RawRow}
use Rattle.sg_circuit.specs.Paths as specify
use Rattle.sg_circuit.specs.declared.nets.Net.{Net}
use Rattle.sg_circuit.specs.declared.nets.Driver.{Driver}
use Rattle.sg_circuit.specs.declared.nets.Driver.TheVariants.{Notifier, Stimulus, Element as Driven}
use Rattle.sg_circuit.specs.Circuit.{Circuit, Element, Kind, Gate, Udp, Pass, Path}
use Rattle.why_causes.specs.declared.events.Event.{Event}
use Rattle.why_causes.specs.declared.links.Link.{Link}
use Rattle.why_causes.specs.declared.links.Rule.{Rule}
use Rattle.why_causes.specs.declared.links.Rule.TheVariants as rule
use Rattle.why_causes.specs.declared.links.Cause.TheVariants.{Nothing, NeverSet, Linked}
use Rattle.why_causes.specs.Waveform.{Waveform}
use Rattle.why_causes.specs.Causes.{cause}
use Rattle.why_causes.specs.Chains.{IsChain}

abbrev net : Driver → Net
net driver = record { scope = 0; name = []; bit = None; driver = driver }

abbrev element : List ℕ → ℕ → Kind → Element
element inputs output kind = record { scope = 0; inputs = inputs; output = output; kind = kind }

-- nets 0 and 1, further nets by these drivers, and elements
abbrev circuit : List Net → List Element → Circuit
circuit nets elements = record {
  tick = pos 0;
  nets = net Stimulus ∷ net Stimulus ∷ nets;
  elements = elements;
  udps = [];
  checks = [];
  check_timings = [];
  check_conditions = [];
  scopes = [];
  zeroed = [];
}

abbrev at : ℕ → ℕ → Value → Event
at time net value = record { time = time; net = net; value = value }

-- all nets are x before time 0
abbrev run : List Event → Waveform
run events = record { first = X ∷ X ∷ X ∷ X ∷ []; events = events }

abbrev link : ℕ → ℕ → ℕ → Rule → ℕ → Link
link event element input by delay = record { event = event; element = element; input = input; rule = by; delay = delay }

-- an and of a and b drives net 2, 3 ticks later
abbrev and_gate : Circuit
and_gate = circuit (net (Driven 0) ∷ []) (element (0 ∷ 1 ∷ []) 2 (Gate gate.And (3 ∷ [])) ∷ [])

-- the input that changed last, 3 ticks before or earlier: b at 20, not a at 22
the_latest_in_time : cause and_gate (run (at 0 0 One ∷ at 0 1 Zero ∷ at 3 2 Zero ∷ at 20 1 One ∷ at 22 0 Zero ∷ at 23 2 One ∷ [])) 5 ≡ Linked (link 3 0 1 rule.Latest 3)
the_latest_in_time = refl

-- both changed at once: the first in the gate's order
the_first_of_two : cause and_gate (run (at 0 0 Zero ∷ at 0 1 Zero ∷ at 3 2 Zero ∷ at 20 1 One ∷ at 20 0 One ∷ at 23 2 One ∷ [])) 5 ≡ Linked (link 4 0 0 rule.Latest 3)
the_first_of_two = refl

-- a net of the stimulus, and a constant
a_set : cause and_gate (run (at 0 0 One ∷ [])) 0 ≡ Nothing
a_set = refl

a_constant : cause (circuit (net (Driven 0) ∷ []) (element [] 2 (Pass (Some One)) ∷ [])) (run (at 0 2 One ∷ [])) 0 ≡ Nothing
a_constant = refl

-- an x that comes in: a became x before b did, though b is the later change
an_x_comes_in : cause and_gate (run (at 0 0 One ∷ at 0 1 One ∷ at 3 2 One ∷ at 10 0 X ∷ at 12 1 X ∷ at 15 2 X ∷ [])) 5 ≡ Linked (link 3 0 0 rule.Unknown 5)
an_x_comes_in = refl

-- b was never set
never_set : cause and_gate (run (at 0 0 Zero ∷ at 3 2 Zero ∷ at 10 0 One ∷ at 13 2 X ∷ [])) 3 ≡ NeverSet 0 1
never_set = refl

-- Net 2 is inside a cell, the and of both without delay, and net 3 its output: from a 4 ticks later, from b 6.
abbrev path : ℕ → ℕ → specify.Path
path input delay = record { input = input; edge = None; condition = specify.Always; timings = replicate 12 (record { delay = delay; limits = None }) }

abbrev cell : Circuit
cell = circuit (net (Driven 0) ∷ net (Driven 1) ∷ [])
    (element (0 ∷ 1 ∷ []) 2 (Gate gate.And []) ∷ element (2 ∷ []) 3 (Path (path 0 4 ∷ path 1 6 ∷ []) OnEvent) ∷ [])

-- b rose 6 ticks before; a changed at another time
through_a_path : cause cell (run (at 0 0 One ∷ at 0 1 Zero ∷ at 0 2 Zero ∷ at 0 3 Zero ∷ at 20 1 One ∷ at 20 2 One ∷ at 21 0 Zero ∷ at 21 2 Zero ∷ at 26 3 One ∷ [])) 8 ≡ Linked (link 4 1 1 rule.Path 6)
through_a_path = refl

-- both may have been it: that of the lesser delay, whose event is the later
through_the_quicker : cause cell (run (at 0 0 Zero ∷ at 0 1 Zero ∷ at 0 2 Zero ∷ at 0 3 Zero ∷ at 20 1 One ∷ at 22 0 One ∷ at 22 2 One ∷ at 26 3 One ∷ [])) 7 ≡ Linked (link 5 1 0 rule.Path 4)
through_the_quicker = refl

-- no path's time fits: the net inside
through_no_path : cause cell (run (at 0 0 One ∷ at 0 1 Zero ∷ at 0 2 Zero ∷ at 0 3 Zero ∷ at 20 1 One ∷ at 20 2 One ∷ at 27 3 One ∷ [])) 6 ≡ Linked (link 5 1 0 rule.Latest 7)
through_no_path = refl

-- an x is followed into the cell
into_the_cell : cause cell (run (at 0 0 One ∷ at 0 1 One ∷ at 0 2 One ∷ at 6 3 One ∷ at 20 1 X ∷ at 20 2 X ∷ at 26 3 X ∷ [])) 6 ≡ Linked (link 5 1 0 rule.Unknown 6)
into_the_cell = refl

-- A flip-flop: a is its data, b its clock, and net 2 its output, 2 ticks later.
abbrev one : ℕ → Cell
one s = record { first = s; second = 0 }

abbrev row : ℕ → ℕ → ℕ → RawRow
row datum clock out = record { inputs = one datum ∷ one clock ∷ []; state = Some (one 63); out = one out; place = record { file = 0; byte = 0 } }

-- 0 r : ? : 0;  1 r : ? : 1;  ? n : ? : -;  * ? : ? : -;
abbrev flip_flop : Circuit
flip_flop = circuit (net (Driven 0) ∷ [])
    (element (0 ∷ 1 ∷ []) 2 (Udp (record { inputs = 2; sequential = true; rows = row 48 114 48 ∷ row 49 114 49 ∷ row 63 110 45 ∷ row 42 63 45 ∷ [] }) X (2 ∷ [])) ∷ [])

-- data and clock rise at once, the data first: the clock made the step
the_clock : cause flip_flop (run (at 0 0 Zero ∷ at 0 1 Zero ∷ at 10 1 One ∷ at 12 2 Zero ∷ at 20 1 Zero ∷ at 30 0 One ∷ at 30 1 One ∷ at 32 2 One ∷ [])) 7 ≡ Linked (link 6 0 1 rule.Step 2)
the_clock = refl

-- an x as data goes on at the clock
an_x_is_stored : cause flip_flop (run (at 0 0 Zero ∷ at 0 1 Zero ∷ at 10 1 One ∷ at 12 2 Zero ∷ at 20 1 Zero ∷ at 25 0 X ∷ at 30 1 One ∷ at 32 2 X ∷ [])) 7 ≡ Linked (link 5 0 0 rule.Unknown 7)
an_x_is_stored = refl

-- a is a notifier that no violation toggled: b made the and x
an_idle_notifier : cause (record and_gate { nets = net Notifier ∷ net Stimulus ∷ net (Driven 0) ∷ [] }) (run (at 0 1 Zero ∷ at 3 2 Zero ∷ at 10 1 X ∷ at 13 2 X ∷ [])) 3 ≡ Linked (link 2 0 1 rule.Unknown 3)
an_idle_notifier = refl

-- two nets that copy each other without delay
abbrev ring : Circuit
ring = circuit (net (Driven 0) ∷ net (Driven 1) ∷ []) (element (3 ∷ []) 2 (Pass None) ∷ element (2 ∷ []) 3 (Pass None) ∷ [])

-- the chain ends where it would come back
a_loop : IsChain ring (run (at 5 2 One ∷ at 5 3 One ∷ [])) 0 (link 1 0 0 rule.Latest 0 ∷ []) (Linked (link 0 1 0 rule.Latest 0))
a_loop = (refl, refl, (refl, refl))

-- a set of the stimulus, and what follows from it
from_a_set : IsChain and_gate (run (at 0 0 One ∷ at 0 1 Zero ∷ at 3 2 Zero ∷ at 20 1 One ∷ at 23 2 One ∷ [])) 4 (link 3 0 1 rule.Latest 3 ∷ []) Nothing
from_a_set = (refl, refl, (refl, tt))
