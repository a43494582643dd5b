-- The laws, as statements: what elements read and drive is among the nets.
use Rattle.std.specs.Prelude.{List}
use Rattle.std.specs.List.{AllByRecursion}
use Rattle.sg_delay.specs.declared.corners.Corner.{Corner}
use Rattle.vl_tree.specs.Tree.{Module, Source}
use Rattle.elab_model.specs.Elements.{Component}
use Rattle.elab_model.specs.Nets.{OwnNet, nets}
use Rattle.elab_model.specs.Drivers.{elements, stimulus_drives, check_drives}
use Rattle.elab_laws.specs.Words.{Owns}
use Rattle.elab_laws.specs.Laws.{AreSound}

-- what an element drives and what it reads are among these nets
pub record HasNets (all : List OwnNet) (c : Component) : Type 0 where
  pub output : Owns c.output all
  pub inputs : AllByRecursion (λ i. Owns i all) c.inputs

-- where no module has a fault, what an element reads and what it drives are nets
abbrev pub ElementsHaveNets : Type 0
ElementsHaveNets = (source : Source) (top : Module) (corner : Corner) → AreSound source top corner → AllByRecursion (HasNets (nets source top)) (elements source top corner)

-- what the stimulus drives, and what timing checks may toggle, are nets
abbrev pub DrivesHaveNets : Type 0
DrivesHaveNets = (source : Source) (top : Module)
    → AllByRecursion (λ d. Owns d.spot (nets source top)) (stimulus_drives source top) × AllByRecursion (λ d. Owns d.spot (nets source top)) (check_drives source top)
