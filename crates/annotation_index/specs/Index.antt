-- An index by a number and a name: which items have it, as they were added.
use Rattle.std.specs.Prelude.{◌≡◌, ℕ, ◌&&◌, nat_eq, bytes_eq, Bool, true, false, List, [], ◌∷◌, Option, Some, None}
use Rattle.std.specs.List.{list_any}
use Rattle.std.specs.Global.{Vec}
use Rattle.indexmap.specs.IndexMap.{get_by}
use Rattle.annotation_index.specs.declared.index.Index.{Index}

abbrev pub same_key : ℕ → List ℕ → ℕ → List ℕ → Bool
same_key owner name o n = nat_eq owner o && bytes_eq name n

abbrev pub items_in : Option (Vec ℕ) → List ℕ
items_in None = []
items_in (Some list) = list.items

-- the items that have a number and a name
abbrev pub list_at : Index → ℕ → List ℕ → List ℕ
list_at index owner name = items_in (get_by (λ key. same_key owner name key.0 key.1.now) index.lists)

-- the item, where it has the key
abbrev pub one_if : Bool → ℕ → List ℕ
one_if true item = item ∷ []
one_if false item = []

-- the names that items have are known
pub record AreNamed (index : Index) : Type 0 where
  pub unknown : (owner : ℕ) (name : List ℕ) → list_any (λ known. bytes_eq name known.now) index.names.keys ≡ false → list_at index owner name ≡ []
