-- Who drives each net, by the numbers of nets: the stimulus, then elements in order; or the timing checks, which may toggle each reg (IEEE 1364-2005, 6.1, 7.1, 15.5).
use Rattle.std.specs.Prelude.{ℕ, List, [], ◌∷◌, ◌++◌, Bool, true, false, ◌==◌, filter, flat_map, map, if◌then◌else◌}
use Rattle.std.specs.List.{enumerate_from, range_with_len}
use Rattle.sg_circuit.specs.FanOut.{has}
use Rattle.sg_circuit.specs.declared.nets.Driver.{Driver}
use Rattle.sg_circuit.specs.declared.nets.Driver.TheVariants.{Nobody, Stimulus, Element, Notifier}
use Rattle.sg_text.specs.declared.places.Place.{Place}
use Rattle.elab_model.specs.declared.kinds.ElabKind.TheVariants.{SecondDriver, BadTerminal}
use Rattle.elab_model.specs.Faults.{Fault, fault}

-- what is driven: nets with the places that say so, and regs
pub record Driving : Type 0 where
  pub inputs : List (Place × ℕ)
  pub outputs : List (Place × ℕ)
  pub regs : List ℕ

-- that the stimulus or an element drives a net
pub record NetDrive : Type 0 where
  pub driver : Driver
  pub place : Place
  pub net : ℕ

abbrev pub by_stimulus : Place × ℕ → NetDrive
by_stimulus i = record { driver = Stimulus; place = i.0; net = i.1 }

abbrev pub by_element : ℕ × (Place × ℕ) → NetDrive
by_element e = record { driver = Element e.0; place = e.1.0; net = e.1.1 }

abbrev pub net_drives : Driving → List NetDrive
net_drives d = map by_stimulus d.inputs ++ map by_element (enumerate_from 0 d.outputs)

-- those that drive one net
abbrev pub drives_of : List NetDrive → ℕ → List NetDrive
drives_of ds net = filter (λ d. d.net == net) ds

-- its driver: the first of them
abbrev pub driver_of : (is_reg : Bool) → List NetDrive → Driver
driver_of is_reg (d ∷ ds) = d.driver
driver_of true [] = Notifier
driver_of false [] = Nobody

abbrev pub driver_at : Driving → ℕ → Driver
driver_at d net = driver_of (has net d.regs) (drives_of (net_drives d) net)

abbrev pub drivers : Driving → (count : ℕ) → List Driver
drivers d count = map (driver_at d) (range_with_len 0 count)

-- a net has a second one; the place is that of the second
abbrev pub second_of : List NetDrive → List Fault
second_of [] = []
second_of (d ∷ []) = []
second_of (d ∷ e ∷ ds) = fault SecondDriver e.place ∷ []

-- a reg is driven otherwise than by timing checks
abbrev pub reg_faults : (is_reg : Bool) → List NetDrive → List Fault
reg_faults is_reg ds = if is_reg then map (λ d. fault BadTerminal d.place) ds else []

abbrev pub net_faults : (is_reg : Bool) → List NetDrive → List Fault
net_faults is_reg ds = second_of ds ++ reg_faults is_reg ds

abbrev pub faults_at : Driving → ℕ → List Fault
faults_at d net = net_faults (has net d.regs) (drives_of (net_drives d) net)

abbrev pub driving_faults : Driving → (count : ℕ) → List Fault
driving_faults d count = flat_map (faults_at d) (range_with_len 0 count)
