-- The variables of a module: its ports, then declared nets, then implicit nets by first use (IEEE 1364-2005, 4.2, 4.5).
use Rattle.std.specs.Prelude.{ℕ, List, [], ◌∷◌, ◌++◌, Bool, false, Option, Some, None, map, find, flat_map, bytes_eq, if◌then◌else◌}
use Rattle.std.specs.List.{list_any}
use Rattle.std.specs.Option.{option_map}
use Rattle.sg_circuit.specs.declared.scopes.Port.{Port}
use Rattle.sg_circuit.specs.declared.scopes.Port.TheVariants as port
use Rattle.sg_circuit.specs.declared.scopes.Range.{Range}
use Rattle.vl_tree.specs.declared.names.Direction.{Direction}
use Rattle.vl_tree.specs.declared.names.Direction.TheVariants as direction
use Rattle.vl_tree.specs.declared.names.Range as written
use Rattle.vl_tree.specs.Tree.{PortDeclaration, Module}
use Rattle.elab_model.specs.Members.{members, member_values}
use Rattle.elab_model.specs.Ports.{port_names, port_declarations, NetDeclaration, net_declarations}
use Rattle.elab_model.specs.Leaves.{Leaf, whole, part, constants, leaves}

abbrev pub is_among : List ℕ → List (List ℕ) → Bool
is_among n ns = list_any (bytes_eq n) ns

-- each name once, where it stands first, without those seen before
abbrev pub first_of_each : List (List ℕ) → List (List ℕ) → List (List ℕ)
first_of_each seen [] = []
first_of_each seen (n ∷ ns) = if is_among n seen then first_of_each seen ns else n ∷ first_of_each (n ∷ seen) ns

-- a name that is used whole may be an implicit net
abbrev pub whole_name : Leaf → List (List ℕ)
whole_name (whole n) = n.text ∷ []
whole_name (part n s) = []
whole_name (constants p vs) = []

abbrev pub whole_names : Module → List (List ℕ)
whole_names m = flat_map (λ i. flat_map (λ e. flat_map whole_name (leaves e)) (member_values i)) (members m)

abbrev pub variable_names : Module → List (List ℕ)
variable_names m =
    first_of_each [] (port_names m ++ (map (λ d. d.name.text) (net_declarations m) ++ (if m.settings.implicit then whole_names m else [])))

pub record Variable : Type 0 where
  pub name : List ℕ
  pub range : Option Range
  pub is_reg : Bool
  pub port : Port

abbrev pub bounds : written.Range → Range
bounds r = record { left = r.left; right = r.right }

-- the range of a port's declaration, or else that of the net's
abbrev pub range_of : Option PortDeclaration → Option NetDeclaration → Option Range
range_of (Some p) d = option_map bounds p.range
range_of None (Some d) = option_map bounds d.range
range_of None None = None

abbrev pub is_reg_of : Option NetDeclaration → Bool
is_reg_of (Some d) = d.is_reg
is_reg_of None = false

abbrev pub port_of_direction : Direction → Port
port_of_direction direction.Input = port.Input
port_of_direction direction.Output = port.Output

abbrev pub port_of : Option PortDeclaration → Port
port_of (Some p) = port_of_direction p.direction
port_of None = port.Inner

-- what the module says of a name, by the first declarations of it
abbrev pub variable : Module → List ℕ → Variable
variable m n =
    let declared_as_port = find (λ d. bytes_eq n d.name.text) (port_declarations m) in
    let declared_as_net = find (λ d. bytes_eq n d.name.text) (net_declarations m) in
    record {
      name = n;
      range = range_of declared_as_port declared_as_net;
      is_reg = is_reg_of declared_as_net;
      port = if is_among n (port_names m) then port_of declared_as_port else port.Inner;
    }

abbrev pub variables : Module → List Variable
variables m = map (variable m) (variable_names m)
