-- The instances of the code's list, as the definitions see them.
use Rattle.std.specs.Prelude.{◌≡◌, ◌+◌, List, [], ◌∷◌, ◌++◌, Option, Some, None, drop, flat_map}
use Rattle.std.specs.Borrow.{Bor}
use Rattle.vl_tree.specs.Tree.{by_order, Module, Source}
use Rattle.vl_tree.specs.Seen.{view_instance}
use Rattle.vl_tree.specs.declared.items.Instance as code_instance
use Rattle.elab_model.specs.Faults.{Fault}
use Rattle.elab_model.specs.Hierarchy.{Step, Instance, text_of, size, instances}
use Rattle.elab_model.specs.HierarchyFaults.{self_instances, too_deep, first_too_many, count_limit}
use Rattle.elab_model.specs.Scopes.{parent_of}
use Rattle.elab_hierarchy.specs.Tops.{StandsAt}
use Rattle.elab_hierarchy.specs.declared.instances.Placed.{Placed}

-- what the text of an instance says of it; the top has none
pub record SaysTop (s : Step) : Type 0 where
  pub name : s.name ≡ s.definition.name.text
  pub place : s.place ≡ s.definition.name.place
  pub connections : s.connections ≡ by_order []

pub record SaysInstance (i : code_instance.Instance) (s : Step) : Type 0 where
  pub name : s.name ≡ text_of (view_instance i).name
  pub place : s.place ≡ (view_instance i).place
  pub connections : s.connections ≡ (view_instance i).connections

abbrev pub SaysStep : Option (Bor code_instance.Instance) → Step → Type 0
SaysStep None s = SaysTop s
SaysStep (Some i) s = SaysInstance i.now s

-- an element of the code's list is this instance
pub record IsPlaced (source : Source) (p : Placed) (s : Instance) : Type 0 where
  pub definition : StandsAt source p.definition s.step.definition
  pub parent : p.parent ≡ parent_of s.above
  pub member : p.member ≡ s.step.member
  pub text : SaysStep p.text s.step
  pub end : p.end ≡ s.step.number + size source s.step.levels s.step.definition

abbrev pub ArePlaced : Source → List Placed → List Instance → Type 0
ArePlaced source [] [] = Unit {0}
ArePlaced source [] (s ∷ ss) = ⊥
ArePlaced source (p ∷ ps) [] = ⊥
ArePlaced source (p ∷ ps) (s ∷ ss) = IsPlaced source p s × ArePlaced source ps ss

-- what is wrong with the hierarchy itself
abbrev pub tree_faults : Source → Module → List Fault
tree_faults source top = flat_map (self_instances source) (instances source top) ++ (too_deep source top ++ first_too_many (drop count_limit (instances source top)))
