-- Faults of the hierarchy below a top, and the counts that it may have.
use Rattle.std.specs.Prelude.{ℕ, List, [], ◌∷◌, ◌++◌, Bool, false, ◌||◌, ◌==◌, ◌^◌, map, flat_map, bytes_eq, if◌then◌else◌}
use Rattle.std.specs.List.{list_any}
use Rattle.sg_circuit.specs.Corner.{Corner}
use Rattle.sg_text.specs.declared.places.Place.{Place}
use Rattle.vl_tree.specs.Tree.{Module, Source}
use Rattle.elab_model.specs.declared.kinds.ElabKind.TheVariants.{SelfInstance, TooDeep, TooMany}
use Rattle.elab_model.specs.Definitions.{name_of}
use Rattle.elab_model.specs.Hierarchy.{Child, Step, Instance, children_in, instances}
use Rattle.elab_model.specs.Delays.{tick_of}
use Rattle.elab_model.specs.Faults.{Fault, fault, fault_if, duplicates}
use Rattle.elab_model.specs.ModuleFaults.{module_faults}

-- two modules or primitives have one name
abbrev pub two_definitions : Source → List Fault
two_definitions source = duplicates (map name_of source)

-- a module reaches itself, at the instance that closes the round (12.1.2); what lies in a round that is closed says nothing more
abbrev pub is_one_of : List Step → Module → Bool
is_one_of ts m = list_any (λ t. bytes_eq m.name.text t.definition.name.text) ts

abbrev pub has_round : List Step → Bool
has_round [] = false
has_round (t ∷ ts) = is_one_of ts t.definition || has_round ts

abbrev pub is_above : Instance → Module → Bool
is_above s m = is_one_of (s.step ∷ s.above) m

abbrev pub self_instances : Source → Instance → List Fault
self_instances source s =
    if has_round (s.step ∷ s.above) then [] else flat_map (λ c. fault_if (is_above s c.definition) SelfInstance c.place) (children_in source s.step.definition)

-- an instance that may have no level below it has some
abbrev pub past_limit : Source → Instance → List Child
past_limit source s = if s.step.levels == 0 then children_in source s.step.definition else []

-- the first of all those
abbrev pub first_too_deep : List Child → List Fault
first_too_deep [] = []
first_too_deep (c ∷ cs) = fault TooDeep c.place ∷ []

abbrev pub too_deep : Source → Module → List Fault
too_deep source top = first_too_deep (flat_map (past_limit source) (instances source top))

-- the most instances, nets, elements, specify paths and timing checks
abbrev pub count_limit : ℕ
count_limit = 2 ^ 22

abbrev pub start : Place
start = record { file = 0; byte = 0 }

-- the first instance past the limit
abbrev pub first_too_many : List Instance → List Fault
first_too_many [] = []
first_too_many (s ∷ ss) = fault TooMany s.step.place ∷ []

-- what an instance says of the hierarchy, and the faults of its module
abbrev pub instance_faults_below : Source → Module → Corner → Instance → List Fault
instance_faults_below source top corner s = self_instances source s ++ module_faults source corner (tick_of source top) s.step.definition
