-- Short words to write trees and circuits by hand: each takes the byte at which it stands.
use Rattle.std.specs.Prelude.{ℕ, ℤ, pos, negsuc, List, [], ◌∷◌, Bool, true, false, Option, Some, None, map}
use Rattle.cond_expr.specs.Token.{Tok}
use Rattle.sg_circuit.specs.Circuit.{Kind, Element, Variable, Scope}
use Rattle.sg_circuit.specs.declared.nets.Driver.{Driver}
use Rattle.sg_circuit.specs.declared.nets.Net.{Net}
use Rattle.sg_circuit.specs.declared.scopes.Port.{Port}
use Rattle.sg_logic.specs.declared.gates.GateKind.{GateKind}
use Rattle.sg_logic.specs.declared.values.Value.{Value}
use Rattle.sg_text.specs.declared.places.Place.{Place}
use Rattle.sg_time.specs.Spelling.{Number}
use Rattle.vl_token.specs.Tokens.{Timescale, Settings}
use Rattle.vl_tree.specs.declared.expressions.Select.TheVariants as select
use Rattle.vl_tree.specs.declared.names.Direction.{Direction}
use Rattle.vl_tree.specs.declared.names.NetType.TheVariants.{Wire}
use Rattle.vl_tree.specs.declared.names.Range as written
use Rattle.vl_tree.specs.declared.paths.Arrow.{Arrow}
use Rattle.vl_tree.specs.Tree.{Named, Expression, signal, sized, concatenation, expressions, Delay, NetName, NamedConnection, Connections, by_order, Item, ports, nets, registers, assigns, gates, instances, Term, Word, Amounts, one_amount, a_number, one_limit, PathCondition, posedge, width_check, SpecifyItem, a_path, a_check, specify_block, PortDeclaration, Head, head_names, Module}

abbrev pub here : ℕ → Place
here n = record { file = 0; byte = n }

abbrev pub name : List ℕ → ℕ → Named
name t n = record { text = t; place = here n }

-- expressions

abbrev pub use_of : List ℕ → ℕ → Expression
use_of t n = signal (name t n) None

abbrev pub bit_of : List ℕ → ℕ → ℤ → Expression
bit_of t n i = signal (name t n) (Some (select.Bit i))

abbrev pub part_of : List ℕ → ℕ → ℤ → ℤ → Expression
part_of t n l r = signal (name t n) (Some (select.Part l r))

abbrev pub constant_of : ℕ → List Value → Expression
constant_of n vs = sized (here n) vs

abbrev pub braces : ℕ → List Expression → Expression
braces n es = concatenation (here n) (expressions es)

abbrev pub range : ℤ → ℤ → Option written.Range
range l r = Some (record { place = here 0; left = l; right = r })

-- declarations

abbrev pub port_item : Direction → Option written.Range → List Named → Item
port_item d r ns = ports (here 0) d None r ns

abbrev pub net_name : Named → Option Expression → NetName
net_name n e = record { name = n; value = e }

abbrev pub wire_item : Option written.Range → List NetName → Item
wire_item r ns = nets (here 0) Wire r ns

abbrev pub reg_item : List Named → Item
reg_item ns = registers (here 0) ns

abbrev pub assign_item : ℕ → Expression → Expression → Item
assign_item n l r = assigns (here 0) (record { place = here n; left = l; right = r } ∷ [])

-- gates and instances

abbrev pub gate_with : GateKind → Option Delay → ℕ → List Expression → Item
gate_with g d n es = gates (here 0) g d (record { place = here n; name = None; terminals = es } ∷ [])

abbrev pub gate_item : GateKind → ℕ → List Expression → Item
gate_item g n es = gate_with g None n es

abbrev pub instance_item : List ℕ → ℕ → List ℕ → Connections → Item
instance_item m n i cs = instances (name m n) None (record { place = here n; name = Some (name i n); connections = cs } ∷ [])

abbrev pub whole_number : ℕ → Number
whole_number n = record { negative = false; digits = n; exponent = pos 0 }

-- specify blocks

abbrev pub block_item : ℕ → List SpecifyItem → Item
block_item n is = specify_block (record { place = here n; items = is })

abbrev pub term : List ℕ → ℕ → Term
term t n = record { name = name t n; select = None }

abbrev pub word : ℕ → Tok → Word
word n t = record { place = here n; token = t }

abbrev pub amount : ℕ → ℕ → Amounts
amount n at = one_amount (a_number (here at) (whole_number n))

-- a path with one delay
abbrev pub path_item : ℕ → PathCondition → Term → Arrow → Term → ℕ → SpecifyItem
path_item n c i arrow o delay = a_path (record {
  place = here n;
  condition = c;
  edge = None;
  sources = i ∷ [];
  polarity = None;
  arrow = arrow;
  destination = record { terms = o ∷ []; source = None };
  delays = amount delay n ∷ [];
})

-- $width (t, l);
abbrev pub width_item : ℕ → Term → ℕ → SpecifyItem
width_item n t l = a_check (width_check (here n) (record { place = here n; edge = Some posedge; term = t; condition = None }) (one_limit (record { negative = false; amount = a_number (here n) (whole_number l) })) None None)

abbrev pub in_order_of : List Expression → Connections
in_order_of es = by_order (map (λ e. Some e) es)

abbrev pub to_port : List ℕ → ℕ → Option Expression → NamedConnection
to_port p n e = record { place = here n; port = name p n; value = e }

-- modules: in nanoseconds, no cells, with implicit nets

abbrev pub nanoseconds : Timescale
nanoseconds = record { unit = negsuc 8; precision = negsuc 8 }

abbrev pub plainly : Settings
plainly = record { scale = nanoseconds; cell = false; implicit = true }

abbrev pub as_cell : Settings
as_cell = record { scale = nanoseconds; cell = true; implicit = true }

abbrev pub none_implicit : Settings
none_implicit = record { scale = nanoseconds; cell = false; implicit = false }

abbrev pub module_as : Settings → List ℕ → ℕ → Option (Option Head) → List Item → Module
module_as s t n head items = record { place = here n; settings = s; name = name t n; head = head; items = items }

abbrev pub listing : List Named → Option (Option Head)
listing ns = Some (Some (head_names ns))

abbrev pub declared : Direction → Option written.Range → Named → PortDeclaration
declared d r n = record { place = n.place; direction = d; net = None; range = r; name = n }

-- circuits

abbrev pub net : ℕ → List ℕ → Option ℤ → Driver → Net
net s t b d = record { scope = s; name = t; bit = b; driver = d }

abbrev pub element : ℕ → List ℕ → ℕ → Kind → Element
element s is o k = record { scope = s; inputs = is; output = o; kind = k }

abbrev pub variable : List ℕ → Port → List ℕ → Variable
variable t p bs = record { name = t; range = None; is_reg = false; port = p; bits = bs }

abbrev pub vector : List ℕ → ℤ → ℤ → Port → List ℕ → Variable
vector t l r p bs = record { name = t; range = Some (record { left = l; right = r }); is_reg = false; port = p; bits = bs }

abbrev pub scope : Option ℕ → List ℕ → List ℕ → Bool → List Variable → Scope
scope parent t m leaf vs = record { parent = parent; name = t; module_name = m; unit = negsuc 8; precision = negsuc 8; is_leaf = leaf; variables = vs }
