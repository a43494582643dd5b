-- The instances of modules in each module, as the code keeps them.
use Rattle.std.specs.Prelude.{◌≡◌, ℕ, ◌<◌, List, [], ◌∷◌, Option, Some, None, length, slice_get}
use Rattle.std.specs.Global.{Vec}
use Rattle.std.specs.List.{AllByRecursion}
use Rattle.vl_tree.specs.Seen.{view_instance}
use Rattle.vl_tree.specs.Tree.{Module, Part, a_module, a_primitive, Source}
use Rattle.elab_model.specs.Hierarchy.{Child, children_in}
use Rattle.elab_model.specs.HierarchyFaults.{two_definitions}
use Rattle.elab_hierarchy.specs.Tops.{StandsAt}
use Rattle.elab_hierarchy.specs.declared.children.Child as code_child

-- an instance that the code keeps is this one
pub record IsChild (source : Source) (c : code_child.Child) (d : Child) : Type 0 where
  pub stands : StandsAt source c.definition d.definition
  pub member : c.member ≡ d.member
  pub name : (view_instance c.text.now).name ≡ d.name
  pub place : (view_instance c.text.now).place ≡ d.place
  pub connections : (view_instance c.text.now).connections ≡ d.connections

abbrev pub AreChildren : Source → List code_child.Child → List Child → Type 0
AreChildren source [] [] = Unit {0}
AreChildren source [] (d ∷ ds) = ⊥
AreChildren source (c ∷ cs) [] = ⊥
AreChildren source (c ∷ cs) (d ∷ ds) = IsChild source c d × AreChildren source cs ds

-- the code's answer is this one
abbrev pub IsChildAnswer : Source → Option Child → Option code_child.Child → Type 0
IsChildAnswer source None None = Unit {0}
IsChildAnswer source None (Some c) = ⊥
IsChildAnswer source (Some d) None = ⊥
IsChildAnswer source (Some d) (Some c) = (c.definition < length source) × IsChild source c d

-- the children of a definition
abbrev pub part_children : Source → Part → List Child
part_children source (a_module m) = children_in source m
part_children source (a_primitive p) = []

abbrev pub AreWithin : ℕ → List code_child.Child → Type 0
AreWithin n cs = AllByRecursion (λ c. c.definition < n) cs

-- the children of each definition
abbrev pub AreAllChildren : Source → List (Vec code_child.Child) → List Part → Type 0
AreAllChildren source [] [] = Unit {0}
AreAllChildren source [] (p ∷ ps) = ⊥
AreAllChildren source (v ∷ vs) [] = ⊥
AreAllChildren source (v ∷ vs) (p ∷ ps) = AreChildren source v.items (part_children source p) × AreAllChildren source vs ps

abbrev pub AreAllWithin : ℕ → List (Vec code_child.Child) → Type 0
AreAllWithin n all = AllByRecursion (λ v. AreWithin n v.items) all

-- the children of a module stand at its place
pub record HasChildren (source : Source) (all : List (Vec code_child.Child)) (i : ℕ) (m : Module) : Type 0 where
  pub list : Vec code_child.Child
  pub there : slice_get all i ≡ Some list
  pub are : AreChildren source list.items (children_in source m)

-- what is known of the definitions and of their children
pub record IsTree (source : Source) (all : List (Vec code_child.Child)) : Type 0 where
  pub once : two_definitions source ≡ []
  pub each : (i : ℕ) (m : Module) → StandsAt source i m → HasChildren source all i m
