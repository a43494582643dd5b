-- Sets of names, and which of them hold all that is below the top of a netlist.
use Rattle.std.specs.Prelude.{◌≡◌, ℕ, Bool, true, false, not, ◌&&◌, List, [], ◌∷◌, Option, Some, None, All, Contains, bytes_eq, filter}
use Rattle.std.specs.Borrow.{Bor}
use Rattle.std.specs.List.{list_any}
use Rattle.vl_tree.specs.Tree.{Part, Source}
use Rattle.fit_parts.specs.Parts.{Heading}
use Rattle.fit_parts.specs.Trees.{name_of, defines, used_by, uses}
use Rattle.fit_parts.specs.declared.below.Below.{Below}
use Rattle.fit_parts.specs.declared.below.Below.TheVariants.{All as Every, Names}

-- whether a text is one of those that the code keeps
abbrev pub is_seen : List ℕ → List (Bor (List ℕ)) → Bool
is_seen n keys = list_any (λ y. bytes_eq n y.now) keys

-- whether a set holds a name
abbrev pub holds : Below → List ℕ → Bool
holds Every n = true
holds (Names names) n = is_seen n names.keys

-- with each part of a tree a set holds what the part uses
abbrev pub IsClosedBelow : (List ℕ → Bool) → Source → Type 0
IsClosedBelow below tree = All (λ p. below (name_of p) ≡ true → All (λ n. below n ≡ true) (used_by p)) tree

abbrev pub is_used : (List ℕ → Bool) → Option (List ℕ) → Bool
is_used used None = false
is_used used (Some n) = used n

-- whether a part may be a top: a module that is no cell, and whose name isn't used (IEEE 1364-2005, 12.1.1)
abbrev pub may_be_top : (List ℕ → Bool) → Heading → Bool
may_be_top used h = h.outer && not (is_used used h.name)

-- the name of the only one of some parts
abbrev pub only_name : List Heading → Option (List ℕ)
only_name [] = None
only_name (h ∷ []) = h.name
only_name (h ∷ g ∷ hs) = None

-- the name of the only part that may be a top
abbrev pub only_top : (List ℕ → Bool) → List Heading → Option (List ℕ)
only_top used read = only_name (filter (may_be_top used) read)

-- a set holds a name, and where there is none every name
abbrev pub HoldsName : (List ℕ → Bool) → Option (List ℕ) → Type 0
HoldsName below (Some n) = below n ≡ true
HoldsName below None = (n : List ℕ) → below n ≡ true

-- a set holds the top: the one of the name, or else the only part that may be one; where none may be, or several, every name
abbrev pub HoldsTop : (List ℕ → Bool) → Option (List ℕ) → List Heading → Source → Type 0
HoldsTop below (Some n) read tree = below n ≡ true
HoldsTop below None read tree = HoldsName below (only_top (uses tree) read)

-- a part is in a tree, by its name, if a set holds the name; and it has one
abbrev pub Stays : (List ℕ → Bool) → Source → Option (List ℕ) → Type 0
Stays below tree None = ⊥
Stays below tree (Some n) = below n ≡ true → defines tree n ≡ true

-- All that is below the top stays: of the parts that were read those that a set holds are in the tree, and the set holds the top, and with
-- each part what that has instances of. What is below the top is in each such set.
pub record IsWhole (top : Option (List ℕ)) (read : List Heading) (tree : Source) (below : List ℕ → Bool) : Type 0 where
  pub holds_top : HoldsTop below top read tree
  pub is_closed : IsClosedBelow below tree
  pub stays : All (λ h. Stays below tree h.name) read

-- A name is below the top if it is the top's, or a part of such a name has instances of it.
pub data IsBelow (tree : Source) (top : List ℕ) : List ℕ → Type 0 where
  is_top : (n : List ℕ) → n ≡ top → IsBelow tree top n
  has_instances : (p : Part) (n : List ℕ) → IsBelow tree top (name_of p) → Contains tree p → Contains (used_by p) n → IsBelow tree top n
