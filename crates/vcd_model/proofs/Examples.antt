-- Worked examples of dumps that are stimuli, over a circuit with the inputs `a` and `v[3:0]` whose tick is 1 ps.
use Rattle.std.specs.Prelude.{◌≡◌, ℕ, pos, negsuc, true, false, List, [], ◌∷◌, Option, Some, None, codes, length, refl}
use Rattle.sg_logic.specs.declared.values.Value.TheVariants.{Zero, One, X, Z}
use Rattle.sg_circuit.specs.declared.nets.Driver.{Driver}
use Rattle.sg_circuit.specs.declared.nets.Driver.TheVariants as driver
use Rattle.sg_circuit.specs.declared.nets.Net.{Net}
use Rattle.sg_circuit.specs.declared.scopes.Port.TheVariants as port
use Rattle.sg_circuit.specs.Circuit.{Circuit, Scope, Variable}
use Rattle.vcd_form.specs.Written.{Declaration, Item, Section, declares, enters, instant, leaves, nothing, real, timescale, value}
use Rattle.vcd_model.specs.declared.kinds.VcdKind.TheVariants.{Syntax, UnknownCode, WidthMismatch, TimeFalls, NotWholeTick, NoScope}
use Rattle.vcd_model.specs.Inputs.{called, has_scope, own}
use Rattle.vcd_model.specs.Values.{bits_of}
use Rattle.vcd_model.specs.Stimulus.{wave_stimulus}
use Rattle.vcd_model.specs.Faults.{fault, front_faults}

-- ---- a circuit

abbrev net : Driver → Net
net d = record { scope = 0; name = []; bit = None; driver = d }

abbrev wire_a : Variable
wire_a = record { name = codes "a"; range = None; is_reg = false; port = port.Input; bits = 0 ∷ [] }

abbrev wire_v : Variable
wire_v = record { name = codes "v"; range = Some (record { left = pos 3; right = pos 0 }); is_reg = false; port = port.Input; bits = 1 ∷ 2 ∷ 3 ∷ 4 ∷ [] }

abbrev wire_y : Variable
wire_y = record { name = codes "y"; range = None; is_reg = false; port = port.Output; bits = 5 ∷ [] }

abbrev top : Scope
top = record { parent = None; name = codes "t"; module_name = codes "t"; unit = negsuc 8; precision = negsuc 11; is_leaf = false; variables = wire_a ∷ wire_v ∷ wire_y ∷ [] }

abbrev circuit : Circuit
circuit = record {
  tick = negsuc 11;
  nets = net driver.Stimulus ∷ net driver.Stimulus ∷ net driver.Stimulus ∷ net driver.Stimulus ∷ net driver.Stimulus ∷ net driver.Nobody ∷ [];
  elements = [];
  udps = [];
  checks = [];
  check_timings = [];
  check_conditions = [];
  scopes = top ∷ [];
  zeroed = [];
}

-- ---- a dump of another tool

abbrev wire_in : List ℕ → ℕ → List ℕ → Section
wire_in code width name = declares (record { byte = 7; width = width; code = code; name = name; range = None })

abbrev wire_with : List ℕ → ℕ → List ℕ → List ℕ → Section
wire_with code width name range = declares (record { byte = 7; width = width; code = code; name = name; range = Some range })

abbrev bit : List ℕ → List ℕ → Item
bit bits code = value 9 9 bits code

abbrev at : List ℕ → Item
at digits = instant 8 digits

abbrev a_in_a_bench : List Section
a_in_a_bench = timescale (negsuc 8) ∷ enters (codes "tb") ∷ enters (codes "dut") ∷ wire_in (codes "!") 1 (codes "a") ∷ leaves ∷ leaves ∷ []

abbrev a_rises : List Item
a_rises = at (codes "0") ∷ bit (codes "x") (codes "!") ∷ at (codes "10") ∷ bit (codes "1") (codes "!") ∷ at (codes "30") ∷ []

read_as_a_stimulus : wave_stimulus circuit (codes "tb.dut") a_in_a_bench a_rises
    ≡ record { steps = record { time = 0; sets = (0, X) ∷ [] } ∷ record { time = 10000; sets = (0, One) ∷ [] } ∷ []; end = 30000 }
read_as_a_stimulus = refl

no_fault_stands : front_faults circuit (codes "tb.dut") (record { sections = a_in_a_bench; body = Some (6, a_rises) }) ≡ []
no_fault_stands = refl

no_scope_is_the_top : front_faults circuit (codes "t") (record { sections = a_in_a_bench; body = Some (6, a_rises) }) ≡ fault NoScope 6 ∷ []
no_scope_is_the_top = refl

-- ---- a dump of a run, with its words without effect: read back it says the same

abbrev a_and_y : List Section
a_and_y = timescale (negsuc 11) ∷ enters (codes "t") ∷ wire_in (codes "!") 1 (codes "a") ∷ wire_in (codes "#") 1 (codes "y") ∷ leaves ∷ []

abbrev a_run : List Item
a_run = at (codes "0") ∷ nothing ∷ bit (codes "x") (codes "!") ∷ bit (codes "x") (codes "#") ∷ nothing ∷ at (codes "10000") ∷ bit (codes "1") (codes "!") ∷ bit (codes "0") (codes "#") ∷ at (codes "30000") ∷ []

read_back : wave_stimulus circuit (codes "t") a_and_y a_run
    ≡ record { steps = record { time = 0; sets = (0, X) ∷ [] } ∷ record { time = 10000; sets = (0, One) ∷ [] } ∷ []; end = 30000 }
read_back = refl

-- ---- values

extended_by_0 : bits_of 4 (codes "11") ≡ Zero ∷ Zero ∷ One ∷ One ∷ []
extended_by_0 = refl

extended_by_x : bits_of 4 (codes "X1") ≡ X ∷ X ∷ X ∷ One ∷ []
extended_by_x = refl

extended_by_z : bits_of 4 (codes "z") ≡ Z ∷ Z ∷ Z ∷ Z ∷ []
extended_by_z = refl

abbrev v_in_t : List Section
v_in_t = timescale (negsuc 11) ∷ enters (codes "t") ∷ wire_in (codes "v") 4 (codes "v[3:0]") ∷ wire_in (codes "v") 1 (codes "v[0]") ∷ wire_in (codes "w") 1 (codes "a") ∷ []

-- before the first time; of two values of one bit the last one; two variables have one code, and the scope stays open
last_values : wave_stimulus circuit (codes "t") v_in_t (bit (codes "1") (codes "w") ∷ at (codes "5") ∷ bit (codes "0") (codes "w") ∷ bit (codes "1") (codes "w") ∷ bit (codes "1") (codes "v") ∷ [])
    ≡ record { steps = record { time = 0; sets = (0, One) ∷ [] } ∷ record { time = 5; sets = (0, One) ∷ (1, Zero) ∷ (2, Zero) ∷ (3, Zero) ∷ (4, One) ∷ [] } ∷ []; end = 5 }
last_values = refl

too_long_for_one : front_faults circuit (codes "t") (record { sections = v_in_t; body = Some (6, value 9 10 (codes "11") (codes "v") ∷ []) }) ≡ fault WidthMismatch 9 ∷ []
too_long_for_one = refl

no_such_code : front_faults circuit (codes "t") (record { sections = v_in_t; body = Some (6, value 9 10 (codes "11") (codes "q") ∷ []) }) ≡ fault UnknownCode 10 ∷ fault UnknownCode 9 ∷ []
no_such_code = refl

real_of_an_input : front_faults circuit (codes "t") (record { sections = v_in_t; body = Some (6, real 9 10 (codes "w") ∷ []) }) ≡ fault Syntax 9 ∷ []
real_of_an_input = refl

-- ---- times

-- 1500 fs is no whole number of ps
abbrev of_fs : List Section
of_fs = timescale (negsuc 14) ∷ enters (codes "t") ∷ []

a_finer_unit : front_faults circuit (codes "t") (record { sections = of_fs; body = Some (6, at (codes "2000") ∷ at (codes "2500") ∷ []) }) ≡ fault NotWholeTick 8 ∷ []
a_finer_unit = refl

two_ticks : wave_stimulus circuit (codes "t") of_fs (at (codes "2000") ∷ []) ≡ record { steps = []; end = 2 }
two_ticks = refl

a_time_falls : front_faults circuit (codes "t") (record { sections = enters (codes "t") ∷ []; body = Some (6, at (codes "2") ∷ at (codes "1") ∷ []) }) ≡ fault TimeFalls 8 ∷ []
a_time_falls = refl

-- ---- names

abbrev declared_as : List ℕ → Option (List ℕ) → Declaration
declared_as name range = record { byte = 0; width = 1; code = []; name = name; range = range }

range_joined : called (declared_as (codes "v[2]") None) ≡ (codes "v", Some (codes "[2]"))
range_joined = refl

range_apart : called (declared_as (codes "v[2]") (Some (codes "[1]"))) ≡ (codes "v[2]", Some (codes "[1]"))
range_apart = refl

escaped_whole : called (declared_as (92 ∷ codes "v[2]") None) ≡ (codes "v[2]", None)
escaped_whole = refl

escaped_with_a_range : called (declared_as (92 ∷ codes "v") (Some (codes "[1]"))) ≡ (codes "v", Some (codes "[1]"))
escaped_with_a_range = refl

no_range : called (declared_as (codes "v[x]") None) ≡ (codes "v[x]", None)
no_range = refl

-- one bit; the whole by another range; a scalar has no index; `a` is no vector
widths : front_faults circuit (codes "t") (record {
  sections = enters (codes "t") ∷ wire_with (codes "!") 1 (codes "v") (codes "[3]") ∷ wire_with (codes "!") 4 (codes "v") (codes "[0:3]") ∷ wire_with (codes "!") 1 (codes "a") (codes "[0]") ∷ wire_in (codes "!") 2 (codes "a") ∷ wire_in (codes "!") 9 (codes "y") ∷ [];
  body = None;
}) ≡ fault WidthMismatch 7 ∷ fault WidthMismatch 7 ∷ []
widths = refl

escaped_scope : has_scope (codes "t.u") (enters (92 ∷ codes "t") ∷ enters (codes "u") ∷ []) ≡ true
escaped_scope = refl

-- a scope that is opened twice counts both times
opened_twice : length (own (codes "t") (enters (codes "t") ∷ wire_in (codes "!") 1 (codes "a") ∷ leaves ∷ enters (codes "t") ∷ wire_in (codes "!") 1 (codes "a") ∷ leaves ∷ wire_in (codes "!") 1 (codes "a") ∷ [])) ≡ 2
opened_twice = refl
