-- What a search for the top answers.
use Rattle.std.specs.Prelude.{◌≡◌, ℕ, List, Bool, false, not, ◌&&◌, Option, Some, Ok, Err, slice_get, filter, filter_map}
use Rattle.std.specs.List.{list_any}
use Rattle.sg_text.specs.declared.refusals.Refused.{Refused}
use Rattle.sg_text.specs.declared.refusals.Refused.TheVariants as refused
use Rattle.vl_tree.specs.Tree.{Module, Part, a_module, a_primitive, Source}
use Rattle.elab_model.specs.declared.kinds.ElabKind.{ElabKind}
use Rattle.elab_model.specs.Definitions.{as_module}
use Rattle.elab_model.specs.Members.{members}
use Rattle.elab_model.specs.Tops.{top_of, only_one, is_instance_of}
use Rattle.elab_model.specs.HierarchyFaults.{start}

-- the part at a place is this module
abbrev pub StandsAt : Source → ℕ → Module → Type 0
StandsAt source i m = slice_get source i ≡ Some (a_module m)

-- there is no top, for this kind of reason
abbrev pub RefusesTop : Source → Option (List ℕ) → Refused ElabKind → Type 0
RefusesTop source name (refused.Fault kind place) = (top_of source name ≡ Err kind) × (place ≡ start)
RefusesTop source name refused.NoMemory = Unit {0}

-- whether a part is a module that is no cell, and whose name isn't used
abbrev pub is_candidate_of : (List ℕ → Bool) → Part → Bool
is_candidate_of used (a_module m) = not m.settings.cell && not (used m.name.text)
is_candidate_of used (a_primitive p) = false

-- whether a part is a module that has an instance of this name
abbrev pub part_has : List ℕ → Part → Bool
part_has n (a_module m) = list_any (is_instance_of n) (members m)
part_has n (a_primitive p) = false

-- the candidates among some parts
abbrev pub chosen : (List ℕ → Bool) → Source → List Module
chosen used ps = filter (λ m. not m.settings.cell && not (used m.name.text)) (filter_map as_module ps)

-- the only one stands at this place
abbrev pub IsOnly : List Module → Source → ℕ → Type 0
IsOnly ms source i = (m : Module) × (only_one ms ≡ Ok m) × StandsAt source i m

-- there is none, or more than one
abbrev pub RefusesChoice : List Module → Refused ElabKind → Type 0
RefusesChoice ms (refused.Fault kind place) = (only_one ms ≡ Err kind) × (place ≡ start)
RefusesChoice ms refused.NoMemory = ⊥
