-- The instances of a netlist below a top, in depth-first text order (IEEE 1364-2005, 12.1.2). Their numbers are sums of sizes here; that these are their places in the list is the law `InstancesHavePlaces` of elab_laws.
use Rattle.std.specs.Prelude.{ℕ, zero, suc, ◌+◌, List, [], ◌∷◌, Bool, true, false, ◌&&◌, not, Option, Some, None, flat_map, filter_map, sum_by}
use Rattle.std.specs.List.{enumerate_from}
use Rattle.sg_text.specs.declared.places.Place.{Place}
use Rattle.vl_tree.specs.Tree.{Named, Connections, by_order, Instance as instance_text, Module, Source}
use Rattle.elab_model.specs.Members.{Member, assignment, supply, gate, instance, path, check, members}
use Rattle.elab_model.specs.Definitions.{module_of}

-- an instance of a module in a module: what it is an instance of, and the number of the member that it is
pub record Child : Type 0 where
  pub definition : Module
  pub member : ℕ
  pub place : Place
  pub name : Option Named
  pub connections : Connections

abbrev pub child_of : Option Module → ℕ → instance_text → Option Child
child_of None k i = None
child_of (Some m) k i = Some (record { definition = m; member = k; place = i.place; name = i.name; connections = i.connections })

abbrev pub child_of_member : Source → ℕ → Member → Option Child
child_of_member source k (assignment j) = None
child_of_member source k (supply n v) = None
child_of_member source k (gate g d i) = None
child_of_member source k (instance n d i) = child_of (module_of source n.text) k i
child_of_member source k (path p) = None
child_of_member source k (check c) = None

-- the instances of modules in a module
abbrev pub children_in : Source → Module → List Child
children_in source m = filter_map (λ i. child_of_member source i.0 i.1) (enumerate_from 0 (members m))

-- an instance in the hierarchy: its number in depth-first text order, and how many levels may still stand below it
pub record Step : Type 0 where
  pub definition : Module
  pub name : List ℕ
  pub place : Place
  pub member : ℕ
  pub connections : Connections
  pub number : ℕ
  pub levels : ℕ

-- an instance, and those that it lies in, from the inside out
pub record Instance : Type 0 where
  pub step : Step
  pub above : List Step

-- how many instances an instance of the module has, itself included
abbrev pub size : Source → ℕ → Module → ℕ
size source zero m = 1
size source (suc levels) m = suc (sum_by (λ c. size source levels c.definition) (children_in source m))

abbrev pub text_of : Option Named → List ℕ
text_of None = []
text_of (Some n) = n.text

-- the children, of which the first has the number next
abbrev pub children_from : Source → ℕ → List Step → ℕ → List Child → List Instance
children_from source levels above next [] = []
children_from source levels above next (c ∷ cs) =
    let step : Step = record { definition = c.definition; name = text_of c.name; place = c.place; member = c.member; connections = c.connections; number = next; levels = levels } in
    record { step = step; above = above } ∷ children_from source levels above (next + size source levels c.definition) cs

abbrev pub children_at : Source → ℕ → Instance → List Instance
children_at source zero s = []
children_at source (suc levels) s = children_from source levels (s.step ∷ s.above) (suc s.step.number) (children_in source s.step.definition)

-- the instances directly in it
abbrev pub children : Source → Instance → List Instance
children source s = children_at source s.step.levels s

-- it and all below it
abbrev pub instances_from : Source → ℕ → Instance → List Instance
instances_from source zero s = s ∷ []
instances_from source (suc levels) s = s ∷ flat_map (instances_from source levels) (children_at source (suc levels) s)

-- the hierarchy has 64 levels
abbrev pub levels_below_top : ℕ
levels_below_top = 63

-- the top has the name of its module, and nothing is connected to it (12.1.1)
abbrev pub top_instance : Module → Instance
top_instance m = record {
  step = record { definition = m; name = m.name.text; place = m.name.place; member = 0; connections = by_order []; number = 0; levels = levels_below_top };
  above = [];
}

abbrev pub instances : Source → Module → List Instance
instances source top = instances_from source levels_below_top (top_instance top)

abbrev pub is_empty : {A : Type 0} → List A → Bool
is_empty [] = true
is_empty (x ∷ xs) = false

-- whether its module has no instance of a module
abbrev pub has_no_child : Source → Step → Bool
has_no_child source s = is_empty (children_in source s.definition)

-- a leaf isn't the top, and has no child
abbrev pub is_leaf : Source → Instance → Bool
is_leaf source s = not (is_empty s.above) && has_no_child source s.step
