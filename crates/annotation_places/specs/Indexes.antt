-- What an index holds: those of the numbers from 0 on that have a key.
use Rattle.std.specs.Prelude.{◌≡◌, ℕ, ◌&&◌, nat_lt, bytes_eq, Bool, if◌then◌else◌, List, [], ◌++◌, slice_index_or}
use Rattle.std.specs.List.{filter, range_with_len}
use Rattle.sg_circuit.specs.Circuit.{Circuit, Variable, scope_at}
use Rattle.annotation_model.specs.Scopes.{is_scope}
use Rattle.annotation_model.specs.Spots.{scope_of}
use Rattle.annotation_model.specs.Finding.{spot_at, check_at}
use Rattle.annotation_index.specs.declared.index.Index.{Index}
use Rattle.annotation_index.specs.Index.{list_at, same_key, one_if, AreNamed}
use Rattle.annotation_places.specs.Places.{no_variable, variables_of}

-- an item more where a test of keys holds
pub record HasMore (old new : Index) (test : ℕ → List ℕ → Bool) (item : ℕ) : Type 0 where
  pub named : AreNamed new
  pub items : (o : ℕ) (name : List ℕ) → list_at new o name ≡ list_at old o name ++ one_if (test o name) item

abbrev pub nothing : ℕ → List ℕ → List ℕ
nothing o name = []

-- behind what was there before, the first numbers whose keys pass
pub record Holds (before : ℕ → List ℕ → List ℕ) (index : Index) (test : ℕ → ℕ → List ℕ → Bool) (n : ℕ) : Type 0 where
  pub named : AreNamed index
  pub items : (o : ℕ) (name : List ℕ) → list_at index o name ≡ before o name ++ filter (λ k. test k o name) (range_with_len 0 n)

-- ---- keys

-- a scope stands in another under a name
abbrev pub is_inside : Circuit → ℕ → ℕ → List ℕ → Bool
is_inside c s o name = bytes_eq (scope_at c s).name name && is_scope o (scope_at c s).parent

-- a scope is of a module
abbrev pub is_of_module : Circuit → ℕ → ℕ → List ℕ → Bool
is_of_module c s o name = same_key 0 (scope_at c s).module_name o name

-- a leg or a path stands in a scope
abbrev pub stands_in : Circuit → ℕ → ℕ → List ℕ → Bool
stands_in c k o name = same_key (scope_of (spot_at c k)) [] o name

-- a timing check refers to a net
abbrev pub refers_to : Circuit → ℕ → ℕ → List ℕ → Bool
refers_to c k o name = same_key (check_at c k).timing.refer.net [] o name

-- a variable of a scope has a name
abbrev pub is_called : ℕ → List Variable → ℕ → ℕ → List ℕ → Bool
is_called s variables place o name = same_key s (slice_index_or variables place no_variable).name o name

-- those of the first scopes are there
pub record HoldsVariables (c : Circuit) (index : Index) (n : ℕ) : Type 0 where
  pub named : AreNamed index
  pub items : (o : ℕ) (name : List ℕ) → list_at index o name ≡ (if nat_lt o n then variables_of c o name else [])
