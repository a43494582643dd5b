-- What the stimulus drives, and what timing checks may toggle, are nets.
use Rattle.std.specs.Prelude.{◌<◌, List, flat_map, find, bytes_eq}
use Rattle.std.specs.List.{AllByRecursion}
use Rattle.std.proofs.Common.{arith}
use Rattle.sg_circuit.specs.Closed.{width_of}
use Rattle.sg_circuit.specs.declared.nets.Driver.{Driver}
use Rattle.sg_circuit.specs.declared.nets.Driver.TheVariants.{Stimulus, Notifier}
use Rattle.sg_text.specs.declared.places.Place.{Place}
use Rattle.vl_tree.specs.Tree.{Module, Source}
use Rattle.elab_model.specs.Names.{Variable, variables}
use Rattle.elab_model.specs.Bits.{positions}
use Rattle.elab_model.specs.Ports.{port_declarations, net_declarations}
use Rattle.elab_model.specs.Hierarchy.{Instance, instances, top_instance, levels_below_top}
use Rattle.elab_model.specs.Homes.{home_of, is_input}
use Rattle.elab_model.specs.Nets.{nets}
use Rattle.elab_model.specs.Drivers.{Drive, drive, variable_drives, port_place, input_drives, stimulus_drives, net_place, reg_drives, check_drives}
use Rattle.elab_laws.specs.Words.{Owns}
use Rattle.elab_laws.proofs.Lists.{In, all-map, all-range, all-weaker}
use Rattle.elab_laws.proofs.PartsApart.{all-if}
use Rattle.elab_laws.proofs.NoFaults.{in-own}
use Rattle.elab_laws.proofs.Stated.{bits-have_nets}
use Rattle.elab_laws.specs.ElementLaws.{DrivesHaveNets}
use Rattle.elab_laws.proofs.HaveNets.{all-flat_from}

-- these drive nets
abbrev DriveNets : Source → Module → List Drive → Type 0
DriveNets source top ds = AllByRecursion (λ d. Owns d.spot (nets source top)) ds

variable-driven : (source : Source) (top : Module) (s : Instance) (d : Driver) (at : Place) (v : Variable) → In s (instances source top) → In v (variables s.step.definition)
    → DriveNets source top (variable_drives source s d at v)
variable-driven source top s d at v there known =
    all-map (λ d. Owns d.spot (nets source top)) (λ p. drive d at (home_of source s v.name p)) (positions v.range)
    (all-weaker (λ p. p < width_of v.range) (λ p. Owns (home_of source s v.name p) (nets source top)) (positions v.range) (λ p lt. (bits-have_nets source top s v p there known lt).0)
    (all-range (width_of v.range) 0 (width_of v.range) (omega arith)))

stimulus-drives : (source : Source) (top : Module) → DriveNets source top (stimulus_drives source top)
stimulus-drives source top =
    let s = top_instance top in
    all-flat_from (λ d. Owns d.spot (nets source top)) (input_drives source s) (variables top)
    (λ v h. let at = port_place (find (λ d. bytes_eq v.name d.name.text) (port_declarations top)) s.step.place in
    all-if (λ d. Owns d.spot (nets source top)) (is_input v.port) (variable_drives source s Stimulus at v) (variable-driven source top s Stimulus at v (in-own source levels_below_top s) h))

checks-drive : (source : Source) (top : Module) → DriveNets source top (check_drives source top)
checks-drive source top =
    all-flat_from (λ d. Owns d.spot (nets source top)) (λ s. flat_map (reg_drives source s) (variables s.step.definition)) (instances source top)
    (λ s there. all-flat_from (λ d. Owns d.spot (nets source top)) (reg_drives source s) (variables s.step.definition)
    (λ v h. let at = net_place (find (λ d. bytes_eq v.name d.name.text) (net_declarations s.step.definition)) s.step.place in
    all-if (λ d. Owns d.spot (nets source top)) v.is_reg (variable_drives source s Notifier at v) (variable-driven source top s Notifier at v there h)))

pub drives-have_nets : DrivesHaveNets
drives-have_nets source top = (stimulus-drives source top, checks-drive source top)
