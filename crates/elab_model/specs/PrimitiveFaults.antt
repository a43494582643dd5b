-- Faults of a user-defined primitive's declarations, and those of its table (IEEE 1364-2005, 8.1); the primitives that a top reaches.
use Rattle.std.specs.Prelude.{List, [], ◌∷◌, ◌++◌, Bool, not, Option, Some, None, Result, Ok, Err, filter_map, flat_map}
use Rattle.sg_text.specs.declared.places.Place.{Place}
use Rattle.vl_tree.specs.UdpKind.{UdpKind}
use Rattle.vl_tree.specs.Faults as rows
use Rattle.vl_tree.specs.Tree.{Named, Primitive, Initial, Module, Source}
use Rattle.elab_model.specs.declared.kinds.ElabKind.{ElabKind}
use Rattle.elab_model.specs.declared.kinds.ElabKind.TheVariants.{UnknownName, BadTerminal}
use Rattle.elab_model.specs.Definitions.{primitive_of}
use Rattle.elab_model.specs.Hierarchy.{instances}
use Rattle.elab_model.specs.Members.{Member, assignment, supply, gate, instance, path, check, members}
use Rattle.elab_model.specs.Names.{is_among}
use Rattle.elab_model.specs.Faults.{Fault, fault_if, texts_of, missing, duplicates, all_of}
use Rattle.elab_model.specs.Primitives.{outputs, inputs, regs, is_sequential, input_count}

abbrev pub initial_names : Option Initial → List Named
initial_names None = []
initial_names (Some i) = i.name ∷ []

abbrev pub is_in : List Named → Named → Bool
is_in ns n = is_among n.text (texts_of ns)

-- two ports, two directions or two regs have one name
abbrev pub named_twice : Primitive → List Fault
named_twice p = all_of (duplicates p.ports ∷ duplicates (outputs p ++ inputs p) ∷ duplicates (regs p) ∷ [])

-- the names of declarations
abbrev pub declared_names : Primitive → List Named
declared_names p = outputs p ++ (inputs p ++ (regs p ++ initial_names p.initial))

-- a name that isn't one of the ports
abbrev pub not_a_port : Primitive → List Fault
not_a_port p = missing UnknownName (declared_names p) p.ports

-- the first port isn't an output, or another isn't an input
abbrev pub wrong_directions : Primitive → List Named → List Fault
wrong_directions p [] = []
wrong_directions p (n ∷ ns) = missing BadTerminal (n ∷ []) (outputs p) ++ missing BadTerminal ns (inputs p)

-- another port than the first is a reg, or has an initial value
abbrev pub wrong_regs : Primitive → List Named → List Fault
wrong_regs p [] = []
wrong_regs p (n ∷ ns) = flat_map (λ m. fault_if (is_in ns m) BadTerminal m.place) (regs p ++ initial_names p.initial)

-- a combinational primitive has an initial value
abbrev pub no_state : Primitive → List Fault
no_state p = flat_map (λ n. fault_if (not (is_sequential p)) BadTerminal n.place) (initial_names p.initial)

abbrev pub primitive_faults : Primitive → List Fault
primitive_faults p = all_of (named_twice p ∷ not_a_port p ∷ wrong_directions p p.ports ∷ wrong_regs p p.ports ∷ no_state p ∷ [])

-- a fault of a kind stands in the table at a place
abbrev pub TableFault : Primitive → UdpKind → Place → Type 0
TableFault p kind place = rows.FaultStands (input_count p) (is_sequential p) p.rows kind place

-- the primitives that a member is an instance of, and all that a top reaches
abbrev pub member_primitive : Source → Member → Option Primitive
member_primitive source (assignment j) = None
member_primitive source (supply n v) = None
member_primitive source (gate g d i) = None
member_primitive source (instance n d i) = primitive_of source n.text
member_primitive source (path p) = None
member_primitive source (check c) = None

abbrev pub primitives : Source → Result Module ElabKind → List Primitive
primitives source (Err k) = []
primitives source (Ok top) = flat_map (λ s. filter_map (member_primitive source) (members s.step.definition)) (instances source top)
