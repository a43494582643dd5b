-- The members of a module: what makes elements or holds instances, in text order.
use Rattle.std.specs.Prelude.{List, [], ◌∷◌, ◌++◌, Option, Some, None, map, flat_map, filter_map}
use Rattle.sg_logic.specs.declared.gates.GateKind.{GateKind}
use Rattle.sg_logic.specs.declared.values.Value.{Value}
use Rattle.sg_logic.specs.declared.values.Value.TheVariants.{Zero, One}
use Rattle.vl_tree.specs.declared.names.Supply.{Supply}
use Rattle.vl_tree.specs.declared.names.Supply.TheVariants as level
use Rattle.vl_tree.specs.Tree.{Named, Expression, signal, Delay, Join, GateInstance, Connections, by_order, by_name, Instance, SpecifyPath, Check, one_limit_check, two_limit_check, width_check, period_check, SpecifyItem, specparams, a_path, pulse_style, a_check, Item, ports, nets, supplies, registers, assigns, gates, instances, specify_block, Module}

pub data Member : Type 0 where
  -- a continuous assignment (IEEE 1364-2005, 6.1)
  assignment : Join → Member
  -- a supply net, and the value that drives it (4.6)
  supply : Named → Value → Member
  -- an instance of a gate (7.1)
  gate : GateKind → Option Delay → GateInstance → Member
  -- an instance of the module or the primitive of this name (12.1.2, 8.6)
  instance : Named → Option Delay → Instance → Member
  -- a specify path (14.2)
  path : SpecifyPath → Member
  -- a timing check (15.1)
  check : Check → Member

-- a net that is assigned where it is declared (6.1.1)
abbrev pub assignment_to : Named → Option Expression → Option Member
assignment_to n None = None
assignment_to n (Some e) = Some (assignment (record { place = n.place; left = signal n None; right = e }))

abbrev pub supply_value : Supply → Value
supply_value level.Zero = Zero
supply_value level.One = One

abbrev pub member_of_item : SpecifyItem → Option Member
member_of_item (specparams p ps) = None
member_of_item (a_path p) = Some (path p)
member_of_item (pulse_style p s ts) = None
member_of_item (a_check c) = Some (check c)

abbrev pub members_of_item : Item → List Member
members_of_item (ports p d t r ns) = []
members_of_item (nets p t r ns) = filter_map (λ n. assignment_to n.name n.value) ns
members_of_item (supplies p s r ns) = map (λ n. supply n (supply_value s)) ns
members_of_item (registers p ns) = []
members_of_item (assigns p js) = map assignment js
members_of_item (gates p g d is) = map (gate g d) is
members_of_item (instances n d is) = map (instance n d) is
members_of_item (specify_block b) = filter_map member_of_item b.items

abbrev pub members : Module → List Member
members m = flat_map members_of_item m.items

-- the expressions that stand in connections, in text order; a connection may be empty (12.3.5, 12.3.6)
abbrev pub connection_values : Connections → List Expression
connection_values (by_order es) = filter_map (λ e. e) es
connection_values (by_name cs) = filter_map (λ c. c.value) cs

-- the names that a timing check gives to delayed copies of its signals (15.8)
abbrev pub listed : Option Named → List Named
listed None = []
listed (Some n) = n ∷ []

abbrev pub delayed_names : Check → List Named
delayed_names (one_limit_check p k r d l n) = []
delayed_names (two_limit_check p k r d l m n f g) = listed f ++ listed g
delayed_names (width_check p r l t n) = []
delayed_names (period_check p r l n) = []

-- the expressions of a member, in text order; what a specify path and a timing check name otherwise are terms, which declare nothing
abbrev pub member_values : Member → List Expression
member_values (assignment j) = j.left ∷ j.right ∷ []
member_values (supply n v) = []
member_values (gate g d i) = i.terminals
member_values (instance n d i) = connection_values i.connections
member_values (path p) = []
member_values (check c) = map (λ n. signal n None) (delayed_names c)
