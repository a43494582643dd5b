-- The laws of elaboration, as statements.
use Rattle.std.specs.Prelude.{◌≡◌, ℕ, ◌<◌, List, [], ◌∷◌, ◌++◌, map, flat_map, length}
use Rattle.std.specs.List.{AllByRecursion, range_with_len}
use Rattle.sg_circuit.specs.Closed.{width_of}
use Rattle.sg_delay.specs.declared.corners.Corner.{Corner}
use Rattle.vl_tree.specs.Tree.{Module, Source}
use Rattle.elab_model.specs.Names.{Variable, variables}
use Rattle.elab_model.specs.Hierarchy.{Instance, instances}
use Rattle.elab_model.specs.Homes.{home_of}
use Rattle.elab_model.specs.Nets.{nets, nets_of, number_of}
use Rattle.elab_model.specs.Delays.{tick_of}
use Rattle.elab_model.specs.ModuleFaults.{module_faults}
use Rattle.elab_laws.specs.Words.{In, Owns}
use Rattle.elab_laws.specs.Handing.{IsHandedDown}

-- no module of the hierarchy has a fault of its own
abbrev pub AreSound : Source → Module → Corner → Type 0
AreSound source top corner = AllByRecursion (λ s. module_faults source corner (tick_of source top) s.step.definition ≡ []) (instances source top)

-- the number of an instance is its place among the instances
abbrev pub InstancesHavePlaces : Type 0
InstancesHavePlaces = (source : Source) (top : Module) → map (λ s. s.step.number) (instances source top) ≡ range_with_len 0 (length (instances source top))

-- each bit of each variable of each instance has a net
abbrev pub BitsHaveNets : Type 0
BitsHaveNets = (source : Source) (top : Module) (s : Instance) (v : Variable) (p : ℕ) → In s (instances source top) → In v (variables s.step.definition) → p < width_of v.range
    → Owns (home_of source s v.name p) (nets source top) × (number_of (nets source top) (home_of source s v.name p) < length (nets source top))

-- where no module has a fault, the nets are distinct: the number of a net is its place among the nets
abbrev pub NetsHavePlaces : Type 0
NetsHavePlaces = (source : Source) (top : Module) (corner : Corner) → AreSound source top corner
    → map (λ o. number_of (nets source top) o.spot) (nets source top) ≡ range_with_len 0 (length (nets source top))

-- and the numbers of an instance's bits are those that are handed down from its parent, and for the others the next that are free
abbrev pub NumbersAreHandedDown : Type 0
NumbersAreHandedDown = (source : Source) (top : Module) (corner : Corner) (before after : List Instance) (s : Instance) → AreSound source top corner
    → instances source top ≡ before ++ s ∷ after → IsHandedDown source top s (length (flat_map (nets_of source) before))
