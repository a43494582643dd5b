-- A circuit: nets, and the elements that drive them, in scopes. Each is known by its number, its place in its list.
use Rattle.std.specs.Prelude.{ℕ, ℤ, pos, List, [], Bool, false, Option, None, slice_index_or}
use Rattle.sg_logic.specs.declared.values.Value.{Value}
use Rattle.sg_logic.specs.declared.gates.GateKind.{GateKind}
use Rattle.sg_delay.specs.declared.limits.PulseStyle.{PulseStyle}
use Rattle.udp_rows.specs.Meaning.{Primitive}
use Rattle.sg_circuit.specs.Timings.{Timing}
use Rattle.sg_circuit.specs.Paths as specify
use Rattle.sg_circuit.specs.declared.nets.Net.{Net}
use Rattle.sg_circuit.specs.declared.nets.Driver.TheVariants.{Nobody}
use Rattle.sg_circuit.specs.declared.scopes.Range.{Range}
use Rattle.sg_circuit.specs.declared.scopes.Port.{Port}
use Rattle.sg_circuit.specs.declared.checks.Check.{Check}
use Rattle.sg_circuit.specs.declared.checks.CheckTiming.{CheckTiming}
use Rattle.sg_circuit.specs.declared.checks.Zero.{Zero}
use Rattle.sg_circuit.specs.Checks.{CheckConditions}

-- the kinds of element (IEEE 1364-2005)
pub data Kind : Type 0 where
  -- a gate, with no, one, two or three delays (7.1, 7.14)
  Gate : (kind : GateKind) (delays : List ℕ) → Kind
  -- a user-defined primitive, with its state before time 0 and no, one or two delays (8.1, 8.5)
  Udp : (primitive : Primitive) (first : Value) (delays : List ℕ) → Kind
  -- a continuous assignment: of a constant, or of the element's input (6.1)
  Pass : (constant : Option Value) → Kind
  -- the way to an input port's bit of an instance, with a timing for each of the twelve transitions (IEEE 1497-2001,
  -- interconnect delays)
  Leg : (timings : List Timing) → Kind
  -- the way to an output port's bit to which specify paths lead, in the order of their text; the element's one input is the
  -- net that is driven inside. Error pulses are shown in a style (14.2, 14.6.4)
  Path : (paths : List specify.Path) (style : PulseStyle) → Kind
  -- a copy of the one input, so many ticks later: the signal that a timing check with a negative limit sees (15.8)
  Late : (delay : ℕ) → Kind

-- an element of a scope: the nets that it reads, and the one that it drives
pub record Element : Type 0 where
  pub scope : ℕ
  pub inputs : List ℕ
  pub output : ℕ
  pub kind : Kind

-- a variable of a scope, and its bits' nets, left first (4.3, 18.2.3.8)
pub record Variable : Type 0 where
  pub name : List ℕ
  pub range : Option Range
  pub is_reg : Bool
  pub port : Port
  pub bits : List ℕ

-- a scope: an instance of a module (12.1.2, 12.7), with the powers of ten of a second of its time unit and precision (19.8)
pub record Scope : Type 0 where
  pub parent : Option ℕ
  pub name : List ℕ
  pub module_name : List ℕ
  pub unit : ℤ
  pub precision : ℤ
  pub is_leaf : Bool
  pub variables : List Variable

-- a user-defined primitive of which there are instances, and its state before time 0 (8.1, 8.5)
pub record UsedPrimitive : Type 0 where
  pub primitive : Primitive
  pub first : Value

-- a circuit: the power of ten of a second that one tick is (19.8), and the parts; scope 0 is the top. The primitives stand in
-- order of first use, each once. A timing check has what a report names, what is looked for, and how its conditions are spelled
-- (clause 15). Some limits are taken as 0 (15.8)
pub record Circuit : Type 0 where
  pub tick : ℤ
  pub nets : List Net
  pub elements : List Element
  pub udps : List UsedPrimitive
  pub checks : List Check
  pub check_timings : List CheckTiming
  pub check_conditions : List CheckConditions
  pub scopes : List Scope
  pub zeroed : List Zero

-- what stands at a place; past the end a blank
abbrev pub net_at : Circuit → ℕ → Net
net_at circuit n = slice_index_or circuit.nets n (record { scope = 0; name = []; bit = None; driver = Nobody })

abbrev pub element_at : Circuit → ℕ → Element
element_at circuit e = slice_index_or circuit.elements e (record { scope = 0; inputs = []; output = 0; kind = Pass None })

abbrev pub scope_at : Circuit → ℕ → Scope
scope_at circuit s =
    slice_index_or circuit.scopes s
    (record { parent = None; name = []; module_name = []; unit = pos 0; precision = pos 0; is_leaf = false; variables = [] })
