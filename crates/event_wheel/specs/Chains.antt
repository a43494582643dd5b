-- Chains of nodes.
use Rattle.std.specs.Prelude.{◌≡◌, ℕ, zero, suc, ◌≤◌, List, [], ◌∷◌, length}
use Rattle.std.specs.declared.option.Option.{Option}
use Rattle.std.specs.declared.option.Option.TheVariants.{Some, None}
use Rattle.event_wheel.specs.declared.nodes.Node.{Node}
use Rattle.event_wheel.specs.Slots.{link_of}
use Rattle.event_wheel.specs.Links.{Store}

-- the first key of a list, or what comes after it
abbrev pub head_or : Option ℕ → List ℕ → Option ℕ
head_or next [] = next
head_or next (k ∷ ks) = Some k

-- the last key of a list, or what comes before it
abbrev pub last_or : Option ℕ → List ℕ → Option ℕ
last_or previous [] = previous
last_or previous (k ∷ ks) = last_or (Some k) ks

-- the node at a key has these links before and after
pub record IsLinked (m : Store) (back on : ℕ) (key : ℕ) (previous next : Option ℕ) : Type 0 where
  pub node : Node
  pub held : m key ≡ Some node
  pub four : 4 ≤ length node.links
  pub before : link_of node back ≡ previous
  pub after : link_of node on ≡ next

-- the keys follow one another, between what comes before and what comes after
abbrev pub Chain : Store → ℕ → ℕ → Option ℕ → List ℕ → Option ℕ → Type 0
Chain m back on previous [] next = Unit {0}
Chain m back on previous (k ∷ ks) next = IsLinked m back on k previous (head_or next ks) × Chain m back on (Some k) ks next

-- the link of what stands at a key
abbrev pub next_of : Option Node → ℕ → Option ℕ
next_of None on = None
next_of (Some node) on = link_of node on

-- the keys that links lead to from a key on, at most so many
abbrev pub walk : ℕ → Store → ℕ → Option ℕ → List ℕ
walk zero m on at = []
walk (suc n) m on None = []
walk (suc n) m on (Some k) = k ∷ walk n m on (next_of (m k) on)
