-- What stands ready of an instance: its module, and the numbers of the nets of its bits.
use Rattle.std.specs.Prelude.{◌≡◌, ℕ, List, ◌∷◌, ◌++◌, Option, Some, None, length, map}
use Rattle.sg_delay.specs.declared.corners.Corner.{Corner}
use Rattle.vl_tree.specs.Tree.{Module, Source}
use Rattle.elab_model.specs.Hierarchy.{Instance, instances}
use Rattle.elab_model.specs.Names.{variables}
use Rattle.elab_model.specs.Nets.{OwnNet, nets}
use Rattle.elab_laws.specs.Handing.{all_bits, number_at}
use Rattle.elab_hierarchy.specs.declared.instances.Placed.{Placed}
use Rattle.elab_hierarchy.specs.Placing.{IsPlaced}
use Rattle.elab_nets.specs.Library.{Library}
use Rattle.elab_nets.specs.ReadyOfModules.{IsPrepared}
use Rattle.elab_nets.specs.Reached.{IsLibrary}
use Rattle.elab_nets.specs.declared.rows.Rows.{Rows}
use Rattle.elab_nets.specs.Rows.{HaveRows}
use Rattle.elab_scopes.specs.declared.here.Here.{Here}

-- the instances and the nets below a top, and what the code has of them
pub record AreRead (source : Source) (top : Module) (corner : Corner) (library : Library) (rows : Rows) (ss : List Instance) (all : List OwnNet) : Type 0 where
  pub are_instances : ss ≡ instances source top
  pub are_nets : all ≡ nets source top
  pub is_ready : IsLibrary source corner top library
  pub have_rows : HaveRows source top rows

-- an element of the code's list, and the instance of its number
pub record Stands (source : Source) (top : Module) (corner : Corner) (library : Library) (rows : Rows) (ss : List Instance) (all : List OwnNet) (number : ℕ) (p : Placed) (s : Instance) : Type 0 where
  pub are_read : AreRead source top corner library rows ss all
  pub is_placed : IsPlaced source p s
  pub before : List Instance
  pub after : List Instance
  pub there : ss ≡ before ++ s ∷ after
  pub count : number ≡ length before

pub record IsHere (all : List OwnNet) (source : Source) (s : Instance) (h : Here) : Type 0 where
  pub prepared : IsPrepared h.prepared.now s.step.definition
  pub row : h.row.now ≡ map (number_at all source s) (all_bits (variables s.step.definition))

abbrev pub StandsHere : List OwnNet → Source → Instance → Option Here → Type 0
StandsHere all source s None = ⊥
StandsHere all source s (Some h) = IsHere all source s h
