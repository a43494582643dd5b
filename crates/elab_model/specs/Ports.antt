-- The ports of a module, and what is declared of them and of its nets.
use Rattle.std.specs.Prelude.{ℕ, List, [], ◌∷◌, ◌++◌, Bool, true, false, Option, Some, None, map, flat_map}
use Rattle.vl_tree.specs.declared.names.Direction.{Direction}
use Rattle.vl_tree.specs.declared.names.NetType.{NetType}
use Rattle.vl_tree.specs.declared.names.Range.{Range}
use Rattle.sg_text.specs.declared.places.Place.{Place}
use Rattle.vl_tree.specs.Tree.{Named, Item, ports, nets, supplies, registers, assigns, gates, instances, specify_block, PortDeclaration, HeadPort, declared_port, named_port, Head, head_names, head_declarations, Module}

-- the list of ports: their names in order (IEEE 1364-2005, 12.3.2)
abbrev pub name_of_port : HeadPort → Named
name_of_port (declared_port d) = d.name
name_of_port (named_port n) = n

abbrev pub names_of_head : Option (Option Head) → List Named
names_of_head None = []
names_of_head (Some None) = []
names_of_head (Some (Some (head_names ns))) = ns
names_of_head (Some (Some (head_declarations d ps))) = d.name ∷ map name_of_port ps

abbrev pub port_list : Module → List Named
port_list m = names_of_head m.head

abbrev pub port_names : Module → List (List ℕ)
port_names m = map (λ n. n.text) (port_list m)

-- ports that are declared in the list of ports: a name alone is declared as the port before it (12.3.4)
abbrev pub with_name : PortDeclaration → Named → PortDeclaration
with_name d n = record { place = d.place; direction = d.direction; net = d.net; range = d.range; name = n }

abbrev pub ports_after : PortDeclaration → List HeadPort → List PortDeclaration
ports_after before [] = []
ports_after before (declared_port d ∷ ps) = d ∷ ports_after d ps
ports_after before (named_port n ∷ ps) = with_name before n ∷ ports_after before ps

abbrev pub ports_of_head : Option (Option Head) → List PortDeclaration
ports_of_head None = []
ports_of_head (Some None) = []
ports_of_head (Some (Some (head_names ns))) = []
ports_of_head (Some (Some (head_declarations d ps))) = d ∷ ports_after d ps

-- ports that are declared by an item (12.3.3)
abbrev pub port_as : Place → Direction → Option NetType → Option Range → Named → PortDeclaration
port_as p d t r n = record { place = p; direction = d; net = t; range = r; name = n }

abbrev pub ports_of_item : Item → List PortDeclaration
ports_of_item (ports p d t r ns) = map (port_as p d t r) ns
ports_of_item (nets p t r ns) = []
ports_of_item (supplies p s r ns) = []
ports_of_item (registers p ns) = []
ports_of_item (assigns p js) = []
ports_of_item (gates p g d is) = []
ports_of_item (instances n d is) = []
ports_of_item (specify_block b) = []

abbrev pub port_declarations : Module → List PortDeclaration
port_declarations m = ports_of_head m.head ++ flat_map ports_of_item m.items

-- a declaration of a net or a reg (4.2)
pub record NetDeclaration : Type 0 where
  pub name : Named
  pub range : Option Range
  pub is_reg : Bool

abbrev pub net_as : Bool → Option Range → Named → NetDeclaration
net_as is_reg r n = record { name = n; range = r; is_reg = is_reg }

abbrev pub nets_of_item : Item → List NetDeclaration
nets_of_item (ports p d t r ns) = []
nets_of_item (nets p t r ns) = map (λ n. net_as false r n.name) ns
nets_of_item (supplies p s r ns) = map (net_as false r) ns
nets_of_item (registers p ns) = map (net_as true None) ns
nets_of_item (assigns p js) = []
nets_of_item (gates p g d is) = []
nets_of_item (instances n d is) = []
nets_of_item (specify_block b) = []

abbrev pub net_declarations : Module → List NetDeclaration
net_declarations m = flat_map nets_of_item m.items
