-- What adding elements to the code's lists does, and what it rests on.
use Rattle.std.specs.Prelude.{◌≡◌, ◌⊎◌, ℕ, List, [], ◌∷◌, ◌++◌, Option, Some, length, map}
use Rattle.std.specs.List.{AllByRecursion, range_with_len}
use Rattle.sg_circuit.specs.declared.elements.UdpUse.{UdpUse}
use Rattle.sg_delay.specs.declared.gates.GateDelays.{GateDelays}
use Rattle.vl_tree.specs.Tree.{Source}
use Rattle.elab_model.specs.Bits.{Bit, net}
use Rattle.elab_model.specs.Numbered.{element_of}
use Rattle.elab_model.specs.Elements.{Component}
use Rattle.elab_model.specs.Ends.{driven}
use Rattle.elab_model.specs.Connections.{connection_at, port_values}
use Rattle.elab_model.specs.Hierarchy.{Step, Instance}
use Rattle.elab_model.specs.Names.{Variable}
use Rattle.elab_model.specs.Nets.{OwnNet, number_of, terminal_nets}
use Rattle.elab_model.specs.Ports.{port_list}
use Rattle.elab_laws.specs.Handing.{all_bits}
use Rattle.elab_laws.specs.NumberLaws.{numbers_in}
use Rattle.elab_nets.specs.Numbers.{HasNumbers}
use Rattle.elab_nets.specs.Outside.{outer_number}
use Rattle.elab_elements.specs.declared.placing.Placing.{Placing}
use Rattle.elab_elements.specs.Seen.{element_in, NamesPlaces}

-- these elements come behind those that were there, each with its place
pub record Adds (delays : List GateDelays) (udps : List UdpUse) (all : List OwnNet) (old new : Placing) (cs : List Component) : Type 0 where
  pub elements : map (element_in delays udps) new.elements.items ≡ map (element_in delays udps) old.elements.items ++ map (element_of all) cs
  pub places : new.places.items ≡ old.places.items ++ map (λ c. c.place) cs
  pub named : AllByRecursion (λ e. NamesPlaces delays udps e.kind) old.elements.items → AllByRecursion (λ e. NamesPlaces delays udps e.kind) new.elements.items

-- the number of the net that is driven inside at a bit of a variable of an instance
abbrev pub driven_at : List OwnNet → Source → Instance → Variable × ℕ → ℕ
driven_at all source s b = number_of all (driven source s b.0.name b.1)

-- an instance, as the code has it: its number, its table and its row
pub record IsHere (all : List OwnNet) (source : Source) (s : Instance) (scope : ℕ) (vs : List Variable) (row : List ℕ) : Type 0 where
  pub number : s.step.number ≡ scope
  pub numbers : HasNumbers all source s vs row

-- and what is driven inside at its bits
pub record HasDriven (all : List OwnNet) (source : Source) (s : Instance) (vs : List Variable) (inside : List ℕ) : Type 0 where
  pub numbers : inside ≡ map (driven_at all source s) (all_bits vs)

-- and what lies outside its bits
pub record HasOutside (all : List OwnNet) (source : Source) (s : Instance) (vs : List Variable) (outer : List (Option ℕ)) : Type 0 where
  pub numbers : outer ≡ map (outer_number all source s.step s.above) (all_bits vs)

-- the terminals of a member: where it has inputs, the first output is a bit of a net, and the nets of constants at inputs have the numbers from `first` on
pub record HasTerminals (all : List OwnNet) (s : Instance) (k first : ℕ) (outputs inputs : List Bit) : Type 0 where
  pub output : (inputs ≡ []) ⊎ ((m : List ℕ) × ((q : ℕ) × ((rest : List Bit) × (outputs ≡ net m q ∷ rest))))
  pub constants : numbers_in all (terminal_nets s k outputs inputs) ≡ range_with_len first (length (terminal_nets s k outputs inputs))

-- each port that is connected is connected once
abbrev pub IsConnectedOnce : Step → Type 0
IsConnectedOnce c = AllByRecursion (λ e. connection_at c.connections (port_list c.definition) e.0 ≡ Some e.1) (port_values c.connections (port_list c.definition))
