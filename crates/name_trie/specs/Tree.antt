-- A tree of names: to which node a text leads, and whether a name ends there.
use Rattle.std.specs.Prelude.{◌≡◌, ℕ, ◌<◌, ◌&&◌, nat_eq, Bool, false, List, [], ◌∷◌, ◌++◌, Option, Some, None, length, option_and_then, slice_index_or}
use Rattle.indexmap.specs.IndexMap.{get_by}
use Rattle.name_trie.specs.declared.tries.Trie.{Trie}

-- from a node and a byte to the next node
abbrev pub NextNode : Type 0
NextNode = ℕ → ℕ → Option ℕ

abbrev pub steps_of : Trie → NextNode
steps_of t node byte = get_by (λ key. nat_eq node key.0 && nat_eq byte key.1) t.steps

-- the node to which a text leads from a node
abbrev pub follow : NextNode → ℕ → List ℕ → Option ℕ
follow steps node [] = Some node
follow steps node (b ∷ bs) = option_and_then (λ next. follow steps next bs) (steps node b)

-- whether a name ends at a node
abbrev pub flag : List Bool → Option ℕ → Bool
flag ends None = false
flag ends (Some node) = slice_index_or ends node false

-- whether a text is a name
abbrev pub has : Trie → List ℕ → Bool
has t text = flag t.ends.items (follow (steps_of t) 0 text)

-- Of so many nodes each but the first is reached by one step alone.
pub record AreTree (steps : NextNode) (count : ℕ) : Type 0 where
  pub rooted : 0 < count
  pub from_node : (node byte next : ℕ) → steps node byte ≡ Some next → node < count
  pub to_node : (node byte next : ℕ) → steps node byte ≡ Some next → (0 < next) × (next < count)
  pub apart : (node byte other letter next : ℕ) → steps node byte ≡ Some next → steps other letter ≡ Some next → (node ≡ other) × (byte ≡ letter)

abbrev pub IsTree : Trie → Type 0
IsTree t = AreTree (steps_of t) (length t.ends.items)

-- A byte leads from a node to the next, which may be new; the names stay.
pub record Steps (old new : Trie) (node byte next : ℕ) : Type 0 where
  pub tree : IsTree new
  pub within : next < length new.ends.items
  pub names : (text : List ℕ) → has new text ≡ has old text
  pub leads : (text : List ℕ) → follow (steps_of old) 0 text ≡ Some node → follow (steps_of new) 0 (text ++ byte ∷ []) ≡ Some next
