-- Faults of a module's declarations (IEEE 1364-2005, 4.2, 4.3, 12.3.3).
use Rattle.std.specs.Prelude.{ℕ, List, [], ◌∷◌, ◌++◌, Bool, true, false, ◌&&◌, not, nat_lt, Option, Some, None, map, flat_map, filter_map, bytes_eq, ℤ, int_le}
use Rattle.std.specs.List.{list_any}
use Rattle.sg_circuit.specs.declared.scopes.Range.{Range}
use Rattle.sg_circuit.specs.Closed.{width_of}
use Rattle.vl_tree.specs.Tree.{Named, PortDeclaration, Module}
use Rattle.elab_model.specs.declared.kinds.ElabKind.TheVariants.{UnknownName, WidthMismatch, BadTerminal, TooMany}
use Rattle.std.specs.Option.{option_map}
use Rattle.elab_model.specs.Members.{Member, assignment, supply, gate, instance, path, check, members}
use Rattle.elab_model.specs.Ports.{port_list, ports_of_head, ports_of_item, port_declarations, NetDeclaration, nets_of_item, net_declarations}
use Rattle.elab_model.specs.Names.{bounds}
use Rattle.elab_model.specs.Faults.{Fault, fault_if, missing, duplicates, all_of}

-- two ports, two directions of a port, two nets or two instances have one name
abbrev pub twice_in_list : Module → List Fault
twice_in_list m = duplicates (port_list m)

abbrev pub declared_ports : Module → List Named
declared_ports m = map (λ d. d.name) (port_declarations m)

abbrev pub two_directions : Module → List Fault
two_directions m = duplicates (declared_ports m)

abbrev pub declared_nets : Module → List Named
declared_nets m = map (λ d. d.name) (net_declarations m)

abbrev pub two_nets : Module → List Fault
two_nets m = duplicates (declared_nets m)

abbrev pub instance_name : Member → Option Named
instance_name (assignment j) = None
instance_name (supply n v) = None
instance_name (gate g d i) = i.name
instance_name (instance n d i) = i.name
instance_name (path p) = None
instance_name (check c) = None

abbrev pub instance_names : Module → List Named
instance_names m = filter_map instance_name (members m)

abbrev pub two_instances : Module → List Fault
two_instances m = duplicates (instance_names m)

-- a direction is declared of what isn't in the list of ports
abbrev pub no_port : Module → List Fault
no_port m = missing UnknownName (declared_ports m) (port_list m)

-- a port has no direction
abbrev pub no_direction : Module → List Fault
no_direction m = missing BadTerminal (port_list m) (declared_ports m)

abbrev pub name_faults : Module → List Fault
name_faults m = all_of (twice_in_list m ∷ two_directions m ∷ two_nets m ∷ two_instances m ∷ no_port m ∷ no_direction m ∷ [])

-- what is said of a name's range, by a declaration of a port or of a net
pub record RangeText : Type 0 where
  pub name : Named
  pub range : Option Range
  pub is_port : Bool

abbrev pub port_range : PortDeclaration → RangeText
port_range d = record { name = d.name; range = option_map bounds d.range; is_port = true }

abbrev pub net_range : NetDeclaration → RangeText
net_range d = record { name = d.name; range = option_map bounds d.range; is_port = false }

-- in text order
abbrev pub range_texts : Module → List RangeText
range_texts m = map port_range (ports_of_head m.head) ++ flat_map (λ i. map port_range (ports_of_item i) ++ map net_range (nets_of_item i)) m.items

abbrev pub is_same_int : ℤ → ℤ → Bool
is_same_int a b = int_le a b && int_le b a

abbrev pub is_same_range : Option Range → Option Range → Bool
is_same_range None None = true
is_same_range None (Some r) = false
is_same_range (Some q) None = false
is_same_range (Some q) (Some r) = is_same_int q.left r.left && is_same_int q.right r.right

abbrev pub is_xor : Bool → Bool → Bool
is_xor true b = not b
is_xor false b = b

-- whether they are a port and its own net, of different ranges
abbrev pub differs_from : RangeText → RangeText → Bool
differs_from s t = bytes_eq s.name.text t.name.text && (is_xor s.is_port t.is_port && not (is_same_range s.range t.range))

-- a port and its own net have different ranges: the second is the place
abbrev pub differing_ranges : List RangeText → List RangeText → List Fault
differing_ranges before [] = []
differing_ranges before (s ∷ ss) = fault_if (list_any (differs_from s) before) WidthMismatch s.name.place ++ differing_ranges (s ∷ before) ss

abbrev pub two_ranges : Module → List Fault
two_ranges m = differing_ranges [] (range_texts m)

-- the most bits of a vector
abbrev pub width_limit : ℕ
width_limit = 65536

abbrev pub too_wide : Module → List Fault
too_wide m = flat_map (λ s. fault_if (nat_lt width_limit (width_of s.range)) TooMany s.name.place) (range_texts m)

abbrev pub declaration_faults : Module → List Fault
declaration_faults m = name_faults m ++ (two_ranges m ++ too_wide m)
