-- The elements in order, and what else drives nets: the stimulus, and the timing checks that toggle a reg (IEEE 1364-2005, 15.5).
use Rattle.std.specs.Prelude.{List, [], Option, Some, None, map, find, flat_map, bytes_eq, if◌then◌else◌}
use Rattle.sg_circuit.specs.declared.nets.Driver.{Driver}
use Rattle.sg_circuit.specs.declared.nets.Driver.TheVariants.{Stimulus, Notifier}
use Rattle.sg_circuit.specs.Corner.{Corner}
use Rattle.sg_text.specs.declared.places.Place.{Place}
use Rattle.vl_tree.specs.Tree.{PortDeclaration, Module, Source}
use Rattle.elab_model.specs.Ports.{port_declarations, NetDeclaration, net_declarations}
use Rattle.elab_model.specs.Names.{Variable, variables}
use Rattle.elab_model.specs.Bits.{positions}
use Rattle.elab_model.specs.Hierarchy.{Instance, instances, top_instance}
use Rattle.elab_model.specs.Homes.{Spot, is_input, home_of}
use Rattle.elab_model.specs.Delays.{tick_of}
use Rattle.elab_model.specs.Elements.{Component, elements_of}

-- all elements of the hierarchy, in order
abbrev pub elements : Source → Module → Corner → List Component
elements source top corner = flat_map (elements_of source corner (tick_of source top)) (instances source top)

-- that something drives a net, and where that is said
pub record Drive : Type 0 where
  pub driver : Driver
  pub place : Place
  pub spot : Spot

abbrev pub drive : Driver → Place → Spot → Drive
drive d p spot = record { driver = d; place = p; spot = spot }

-- the nets of a variable are driven, as a place says
abbrev pub variable_drives : Source → Instance → Driver → Place → Variable → List Drive
variable_drives source s d p v = map (λ i. drive d p (home_of source s v.name i)) (positions v.range)

-- the stimulus drives the inputs of the top, where they are declared as ports
abbrev pub port_place : Option PortDeclaration → Place → Place
port_place None p = p
port_place (Some d) p = d.name.place

abbrev pub input_drives : Source → Instance → Variable → List Drive
input_drives source s v =
    let declared = find (λ d. bytes_eq v.name d.name.text) (port_declarations s.step.definition) in
    if is_input v.port then variable_drives source s Stimulus (port_place declared s.step.place) v else []

abbrev pub stimulus_drives : Source → Module → List Drive
stimulus_drives source top = flat_map (input_drives source (top_instance top)) (variables top)

-- the timing checks may toggle each reg
abbrev pub net_place : Option NetDeclaration → Place → Place
net_place None p = p
net_place (Some d) p = d.name.place

abbrev pub reg_drives : Source → Instance → Variable → List Drive
reg_drives source s v =
    let declared = find (λ d. bytes_eq v.name d.name.text) (net_declarations s.step.definition) in
    if v.is_reg then variable_drives source s Notifier (net_place declared s.step.place) v else []

abbrev pub check_drives : Source → Module → List Drive
check_drives source top = flat_map (λ s. flat_map (reg_drives source s) (variables s.step.definition)) (instances source top)
