-- Parts of worked examples: values, entries, cells, and circuits.
use Rattle.std.specs.Prelude.{ℕ, ℤ, pos, neg_ℤ, Bool, true, false, min, max, List, [], ◌∷◌, map, replicate, Option, Some, None, codes}
use Rattle.sg_text.specs.declared.places.Place.{Place}
use Rattle.sg_time.specs.Spelling.{Number}
use Rattle.sg_logic.specs.declared.edges.Edge.{Edge}
use Rattle.sg_logic.specs.declared.values.Value.TheVariants.{One}
use Rattle.cond_expr.specs.declared.tokens.Op.TheVariants as op
use Rattle.cond_expr.specs.declared.tokens.Tok.TheVariants as tok
use Rattle.cond_expr.specs.Token.{Tok}
use Rattle.sg_circuit.specs.declared.checks.Event.{Event}
use Rattle.sg_circuit.specs.declared.scopes.Port.{Port as Role}
use Rattle.sg_circuit.specs.Timings.{Timing}
use Rattle.sg_circuit.specs.Paths as specify
use Rattle.sg_circuit.specs.Circuit.{Circuit, Element, Variable, Scope}
use Rattle.sdf_tree.specs.declared.tree.Edge.TheVariants.{Posedge}
use Rattle.sdf_tree.specs.declared.words.Divider.TheVariants.{Slash}
use Rattle.sdf_tree.specs.Written.{Port, Terminal, Instance}
use Rattle.sdf_tree.specs.Meant.{Triple, DelayValue, EntryKind, Entry, Cell, Sdf}

-- ---- values and entries

-- so many times a power of ten
abbrev pub decimal : ℕ → ℤ → Number
decimal digits exponent = record { negative = false; digits = digits; exponent = exponent }

abbrev pub whole : ℕ → Number
whole n = decimal n (pos 0)

abbrev pub lone : Number → Triple
lone n = record { min = Some n; typ = Some n; max = Some n }

abbrev pub nothing : Triple
nothing = record { min = None; typ = None; max = None }

abbrev pub delay : Triple → DelayValue
delay t = record { delay = t; limits = None }

abbrev pub port : List ℕ → Port
port path = record { path = path; bit = None }

abbrev pub from : List ℕ → Terminal
from path = record { condition = None; edge = None; port = port path }

abbrev pub rising : List ℕ → Terminal
rising path = record { condition = None; edge = Some Posedge; port = port path }

-- at a line
abbrev pub at_line : ℕ → Place
at_line n = record { file = 0; byte = n }

abbrev pub entry : ℕ → EntryKind → Entry
entry line kind = record { place = at_line line; increment = false; kind = kind }

abbrev pub more : ℕ → EntryKind → Entry
more line kind = record { place = at_line line; increment = true; kind = kind }

abbrev pub cell : List ℕ → Instance → List Entry → Cell
cell cell_type instance entries = record { cell_type = cell_type; instance = instance; entries = entries }

abbrev pub nanoseconds : List Cell → Sdf
nanoseconds cells = record { unit = neg_ℤ (pos 9); divider = Slash; cells = cells }

-- ---- circuits

-- what a list of two, for rises and for falls, makes of the twelve transitions
abbrev pub two : (rise fall : ℕ) → List ℕ
two r f = r ∷ f ∷ r ∷ r ∷ f ∷ f ∷ r ∷ r ∷ f ∷ f ∷ max r f ∷ min r f ∷ []

abbrev pub timings : List ℕ → List Timing
timings ds = map (λ d. record { delay = d; limits = None }) ds

abbrev pub flat : ℕ → List Timing
flat d = replicate 12 (record { delay = d; limits = None })

abbrev pub delays : List Timing → List ℕ
delays ts = map (λ (t : Timing). t.delay) ts

abbrev pub limits : List Timing → List (Option (ℕ × ℕ))
limits ts = map (λ (t : Timing). t.limits) ts

abbrev pub scalar : List ℕ → Role → ℕ → Variable
scalar name role net = record { name = name; range = None; is_reg = false; port = role; bits = net ∷ [] }

abbrev pub scope : Option ℕ → List ℕ → List ℕ → Bool → ℤ → List Variable → Scope
scope parent name module_name is_leaf precision variables =
    record { parent = parent; name = name; module_name = module_name; unit = neg_ℤ (pos 9); precision = precision; is_leaf = is_leaf; variables = variables }

abbrev pub path : ℕ → specify.PathCondition → ℕ → specify.Path
path input condition d = record { input = input; edge = None; condition = condition; timings = flat d }

abbrev pub plain : List Element → List Scope → ℤ → Circuit
plain elements scopes tick = record {
  tick = tick;
  nets = [];
  elements = elements;
  udps = [];
  checks = [];
  check_timings = [];
  check_conditions = [];
  scopes = scopes;
  zeroed = [];
}

-- ---- checks and conditions

abbrev pub event : ℕ → Option Edge → Event
event net edge = record { net = net; edge = edge; condition = None }

abbrev pub s_is_1 : List Tok
s_is_1 = tok.Name (codes "S") ∷ tok.Op op.Equal ∷ tok.Const One ∷ []
