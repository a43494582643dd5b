-- Which module is the top (IEEE 1364-2005, 12.1.1).
use Rattle.std.specs.Prelude.{ℕ, List, [], ◌∷◌, Bool, false, ◌&&◌, not, Option, Some, None, Result, Ok, Err, filter, filter_map, bytes_eq}
use Rattle.std.specs.List.{list_any}
use Rattle.vl_tree.specs.Tree.{Module, Source}
use Rattle.elab_model.specs.declared.kinds.ElabKind.{ElabKind}
use Rattle.elab_model.specs.declared.kinds.ElabKind.TheVariants.{NoTop, SeveralTops}
use Rattle.elab_model.specs.Members.{Member, assignment, supply, gate, instance, path, check, members}
use Rattle.elab_model.specs.Definitions.{as_module, module_of}

abbrev pub modules : Source → List Module
modules source = filter_map as_module source

abbrev pub is_instance_of : List ℕ → Member → Bool
is_instance_of n (assignment j) = false
is_instance_of n (supply m v) = false
is_instance_of n (gate g d i) = false
is_instance_of n (instance m d i) = bytes_eq n m.text
is_instance_of n (path p) = false
is_instance_of n (check c) = false

-- whether any module has an instance of it, be it one that the top reaches or not
abbrev pub has_instance : Source → List ℕ → Bool
has_instance source n = list_any (λ m. list_any (is_instance_of n) (members m)) (modules source)

-- modules that aren't cells (19.1), and of which no module has an instance
abbrev pub candidates : Source → List Module
candidates source = filter (λ m. not m.settings.cell && not (has_instance source m.name.text)) (modules source)

abbrev pub only_one : List Module → Result Module ElabKind
only_one [] = Err NoTop
only_one (m ∷ []) = Ok m
only_one (m ∷ n ∷ ms) = Err SeveralTops

abbrev pub or_no_top : Option Module → Result Module ElabKind
or_no_top None = Err NoTop
or_no_top (Some m) = Ok m

-- the module of the name that is given, or else the only candidate
abbrev pub top_of : Source → Option (List ℕ) → Result Module ElabKind
top_of source None = only_one (candidates source)
top_of source (Some n) = or_no_top (module_of source n)
