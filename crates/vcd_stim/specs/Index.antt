-- The nets of inputs that a code stands for.
use Rattle.std.specs.Prelude.{◌≡◌, ℕ, Bool, List, [], ◌∷◌, ◌++◌, map, filter, flat_map, bytes_eq, Option, Some, None, option_and_then, option_map, option_to_list, unwrap_or, if◌then◌else◌}
use Rattle.std.specs.Borrow.{Bor}
use Rattle.std.specs.List.{list_any}
use Rattle.std.specs.Global.{Vec}
use Rattle.indexmap.specs.IndexMap.{IndexMap, get_by}
use Rattle.sg_circuit.specs.Circuit.{Circuit}
use Rattle.vcd_form.specs.Written.{Declaration, Section}
use Rattle.vcd_model.specs.Inputs.{all_declared, has_scope, input_of, nets_at, own, scopes_after}
use Rattle.vcd_model.specs.Values.{is_of_code}
use Rattle.vcd_model.specs.Faults.{variable_faults, Fault}
use Rattle.vcd_stim.specs.Paths.{fronts}

-- the nets that a declaration of an input stands for
abbrev pub nets_meant : Circuit → Declaration → Option (List ℕ)
nets_meant circuit d = option_and_then (nets_at d) (input_of circuit d)

-- those of each declaration in the scope with a code
abbrev pub nets_coded : Circuit → List Declaration → List ℕ → List (List ℕ)
nets_coded circuit ds code = flat_map (λ d. option_to_list (nets_meant circuit d)) (filter (is_of_code code) ds)

-- none where no declaration has the code
abbrev pub indexed : Circuit → (all own : List Declaration) → List ℕ → Option (List (List ℕ))
indexed circuit all own code = if list_any (is_of_code code) all then Some (nets_coded circuit own code) else None

-- what a table has for a code
abbrev pub nets_in : Vec (Bor (List ℕ)) → List (List ℕ)
nets_in list = map (λ nets. nets.now) list.items

abbrev pub listed : {S : Type 0} → IndexMap (Bor (List ℕ)) (Vec (Bor (List ℕ))) S → List ℕ → Option (List (List ℕ))
listed table code = option_map nets_in (get_by (λ key. bytes_eq code key.now) table)

-- a code's nets, and some more of one code
abbrev pub with_nets : (List ℕ → Option (List (List ℕ))) → List ℕ → Option (List ℕ) → List ℕ → Option (List (List ℕ))
with_nets known code nets c = if bytes_eq code c then Some (unwrap_or (known c) [] ++ option_to_list nets) else known c

abbrev pub declared_faults : Circuit → Bool → Declaration → List Fault
declared_faults circuit is_own d = if is_own then variable_faults d (input_of circuit d) else []

abbrev pub own_faults : Circuit → List ℕ → List Section → List Fault
own_faults circuit scope ss = flat_map (λ d. variable_faults d (input_of circuit d)) (own scope ss)

-- the scopes open behind sections
abbrev pub scopes_behind : List (List ℕ) → List Section → List (List ℕ)
scopes_behind scopes [] = scopes
scopes_behind scopes (s ∷ ss) = scopes_behind (scopes_after scopes s) ss

-- what is known behind some sections, in which no fault stands
pub record IsKnown (circuit : Circuit) (scope : List ℕ) (ss : List Section) (read : List (Option ℕ)) (found : Bool) (table : List ℕ → Option (List (List ℕ))) : Type 0 where
  pub fronts_are : read ≡ fronts scope (scopes_behind [] ss)
  pub found_is : found ≡ has_scope scope ss
  pub faultless : own_faults circuit scope ss ≡ []
  pub table_is : (code : List ℕ) → table code ≡ indexed circuit (all_declared ss) (own scope ss) code
