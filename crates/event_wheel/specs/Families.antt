-- Chains in which each node stands once, by a number that its data gives, and in order of time.
use Rattle.std.specs.Prelude.{◌≡◌, ℕ, ◌<◌, List, [], ◌∷◌, length, map, slice_index_or}
use Rattle.std.specs.declared.option.Option.{Option}
use Rattle.std.specs.declared.option.Option.TheVariants.{Some, None}
use Rattle.sg_logic.specs.declared.values.Value.{Value}
use Rattle.sg_logic.specs.declared.values.Value.TheVariants.{X}
use Rattle.event_wheel.specs.declared.nodes.Node.{Node}
use Rattle.event_wheel.specs.declared.chains.Ends.{Ends}
use Rattle.event_wheel.specs.Slots.{with_link}
use Rattle.event_wheel.specs.Keys.{Has, AreDistinct}
use Rattle.event_wheel.specs.Links.{Store}
use Rattle.event_wheel.specs.Chains.{head_or, last_or, Chain}

-- a number that a node's data gives, whatever its links
pub record IsHome (home : Node → ℕ) : Type 0 where
  pub links : (node : Node) (side : ℕ) (to : Option ℕ) → home (with_link node side to) ≡ home node

-- chain i has exactly the nodes whose number is i, each once
pub record IsFamily (m : Store) (back on : ℕ) (home : Node → ℕ) (n : ℕ) (chains : ℕ → List ℕ) : Type 0 where
  pub chain : (i : ℕ) → i < n → Chain m back on None (chains i) None
  pub distinct : (i : ℕ) → i < n → AreDistinct (chains i)
  pub sound : (i k : ℕ) → i < n → Has k (chains i) → (node : Node) × (m k ≡ Some node) × (home node ≡ i)
  pub complete : (k : ℕ) (node : Node) → m k ≡ Some node → (home node < n) × Has k (chains (home node))

-- the transition of a node
abbrev pub pair_of : Option Node → ℕ × Value
pair_of None = (0, X)
pair_of (Some node) = (node.time, node.value)

-- those of the nodes at these keys
abbrev pub pairs_at : Store → List ℕ → List (ℕ × Value)
pairs_at m keys = map (λ k. pair_of (m k)) keys

-- a time stands in order before all of a list, and after all of it
abbrev pub IsBefore : (ℕ → ℕ → Type 0) → ℕ → List (ℕ × Value) → Type 0
IsBefore R t [] = Unit {0}
IsBefore R t (p ∷ ps) = R t p.0 × IsBefore R t ps

abbrev pub IsAfter : (ℕ → ℕ → Type 0) → ℕ → List (ℕ × Value) → Type 0
IsAfter R t [] = Unit {0}
IsAfter R t (p ∷ ps) = R p.0 t × IsAfter R t ps

-- each time stands in order before all later ones
abbrev pub IsOrdered : (ℕ → ℕ → Type 0) → List (ℕ × Value) → Type 0
IsOrdered R [] = Unit {0}
IsOrdered R (p ∷ ps) = IsBefore R p.0 ps × IsOrdered R ps

-- no chain, and the ends of one
abbrev pub no_ends : Ends
no_ends = record { first = None; last = None }

abbrev pub ends_of : List ℕ → Ends
ends_of keys = record { first = head_or None keys; last = last_or None keys }

-- the chains of a family, in order of time, and their ends
pub record IsIndexed (m : Store) (back on : ℕ) (home : Node → ℕ) (R : ℕ → ℕ → Type 0) (ends : List Ends) (chains : ℕ → List ℕ) : Type 0 where
  pub family : IsFamily m back on home (length ends) chains
  pub ordered : (i : ℕ) → i < length ends → IsOrdered R (pairs_at m (chains i))
  pub ends_are : (i : ℕ) → i < length ends → slice_index_or ends i no_ends ≡ ends_of (chains i)
