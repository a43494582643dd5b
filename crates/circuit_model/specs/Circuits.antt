-- The circuit of a netlist below a top, before the Lates have their delays.
use Rattle.std.specs.Prelude.{ℕ, List, [], Bool, if◌then◌else◌, length, map, zip}
use Rattle.std.specs.List.{list_any}
use Rattle.sg_circuit.specs.Circuit.{Circuit}
use Rattle.sg_circuit.specs.declared.nets.Driver.{Driver}
use Rattle.sg_circuit.specs.declared.nets.Net.{Net}
use Rattle.sg_delay.specs.declared.corners.Corner.{Corner}
use Rattle.sg_text.specs.declared.places.Place.{Place}
use Rattle.vl_tree.specs.Tree.{Module, Source}
use Rattle.elab_model.specs.Delays.{tick_of}
use Rattle.elab_model.specs.Drivers.{elements, Drive, stimulus_drives, check_drives}
use Rattle.elab_model.specs.Elements.{Component}
use Rattle.elab_model.specs.Hierarchy.{instances}
use Rattle.elab_model.specs.Homes.{Spot, is_same_spot}
use Rattle.elab_model.specs.Nets.{OwnNet, nets, number_of}
use Rattle.elab_model.specs.Numbered.{undriven}
use Rattle.elab_model.specs.Scopes.{scope_of}
use Rattle.elab_model.specs.UsedPrimitives.{used_primitives}
use Rattle.circuit_model.specs.CheckUses.{check_uses, check_of_use, timing_of_use, written_of_use}
use Rattle.circuit_model.specs.PathUses.{circuit_elements}
use Rattle.circuit_model.specs.Driving.{Driving, drivers}

-- what drives nets, by their numbers
abbrev pub input_at : List OwnNet → Drive → Place × ℕ
input_at all d = (d.place, number_of all d.spot)

-- what an element drives may be no net, as a bit of what isn't declared: it then has a number past all nets
abbrev pub is_net : List OwnNet → Spot → Bool
is_net all spot = list_any (λ o. is_same_spot spot o.spot) all

abbrev pub output_at : List OwnNet → Component → Place × ℕ
output_at all c = (c.place, if is_net all c.output then number_of all c.output else length all)

abbrev pub driving : Source → Module → Corner → Driving
driving source top corner = record {
  inputs = map (input_at (nets source top)) (stimulus_drives source top);
  outputs = map (output_at (nets source top)) (elements source top corner);
  regs = map (λ d. number_of (nets source top) d.spot) (check_drives source top);
}

-- a net with its driver
abbrev pub with_driver : Net × Driver → Net
with_driver n = record n.0 { driver = n.1 }

abbrev pub driven_nets : List Net → Driving → List Net
driven_nets ns d = map with_driver (zip ns (drivers d (length ns)))

abbrev pub circuit : Source → Module → Corner → Circuit
circuit source top corner = record {
  tick = tick_of source top;
  nets = driven_nets (map undriven (nets source top)) (driving source top corner);
  elements = circuit_elements source top corner;
  udps = used_primitives source top;
  checks = map check_of_use (check_uses source top corner);
  check_timings = map timing_of_use (check_uses source top corner);
  check_conditions = map written_of_use (check_uses source top corner);
  scopes = map (scope_of (nets source top) source) (instances source top);
  zeroed = [];
}
