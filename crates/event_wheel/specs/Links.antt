-- What a change of links does to a store of nodes, key by key.
use Rattle.std.specs.Prelude.{◌≡◌, ◌≢◌, ℕ, ◌+◌, ◌<◌, ◌==◌, Bool, false, if◌then◌else◌, List, IsSome, slice_index_or}
use Rattle.std.specs.declared.option.Option.{Option}
use Rattle.std.specs.declared.option.Option.TheVariants.{Some, None}
use Rattle.event_wheel.specs.declared.nodes.Node.{Node}
use Rattle.event_wheel.specs.declared.chains.Ends.{Ends}
use Rattle.event_wheel.specs.Slots.{link_of, with_link}

-- what stands under each key
abbrev pub Store : Type 0
Store = ℕ → Option Node

-- whether an optional key is this one
abbrev pub is_key : Option ℕ → ℕ → Bool
is_key None key = false
is_key (Some k) key = k == key

-- what stands at a key after one link was set of the node at another key, if there is one
abbrev pub slot_with_link : Option ℕ → ℕ → Option ℕ → ℕ → Option Node → Option Node
slot_with_link at side to key None = None
slot_with_link at side to key (Some node) = Some (if is_key at key then with_link node side to else node)

-- after what comes after one key was set, and what comes before another: links back have one side, links on the next
abbrev pub slot_with_links : Option ℕ → Option ℕ → ℕ → Option ℕ → Option ℕ → ℕ → Option Node → Option Node
slot_with_links before after back next previous key slot = slot_with_link after back previous key (slot_with_link before (back + 1) next key slot)

-- each key has what f makes of what it had
pub record Becomes (old new : Store) (f : ℕ → Option Node → Option Node) : Type 0 where
  pub each : (key : ℕ) → new key ≡ f key (old key)

-- the store after one link was set
abbrev pub store_with_link : Store → Option ℕ → ℕ → Option ℕ → Store
store_with_link m at side to = λ k. slot_with_link at side to k (m k)

abbrev pub store_with_links : Store → Option ℕ → Option ℕ → ℕ → Option ℕ → Option ℕ → Store
store_with_links m before after back next previous = λ k. slot_with_links before after back next previous k (m k)

-- the store without a key
abbrev pub store_without : Store → ℕ → Store
store_without m k = λ j. if j == k then None else m j

-- the store with a node under a key
abbrev pub store_with : Store → ℕ → Node → Store
store_with m k node = λ j. if j == k then Some node else m j

-- the store after a node was taken out of it and of both of its chains
abbrev pub store_after_taking : Store → ℕ → Node → Store
store_after_taking m k node =
    store_with_links
    (store_with_links (store_without m k) (link_of node 0) (link_of node 1) 0 (link_of node 1) (link_of node 0))
    (link_of node 2) (link_of node 3) 2 (link_of node 3) (link_of node 2)

-- the store after a node was put between its neighbours in both of its chains
abbrev pub store_after_putting : Store → ℕ → Node → Store
store_after_putting m k node =
    store_with_links
    (store_with_links (store_with m k node) (link_of node 0) (link_of node 1) 0 (Some k) (Some k))
    (link_of node 2) (link_of node 3) 2 (Some k) (Some k)

-- each of these links leads to a node
pub record AreNeighbours (m : Store) (links : List (Option ℕ)) : Type 0 where
  pub each : (side key : ℕ) → slice_index_or links side None ≡ Some key → IsSome (m key)

-- each link of the node at a key leads to another node
pub record HasNeighbours (m : Store) (key : ℕ) : Type 0 where
  pub each : (node : Node) (side other : ℕ) → m key ≡ Some node → side < 4 → link_of node side ≡ Some other → (other ≢ key) × IsSome (m other)

-- the new end of a chain where nothing stands there, else the old one
abbrev pub end_or : Option ℕ → Option ℕ → Option ℕ → Option ℕ
end_or None new old = new
end_or (Some key) new old = old

-- the ends of a chain after a change between two keys
abbrev pub ends_between : Ends → Option ℕ → Option ℕ → Option ℕ → Option ℕ → Ends
ends_between ends before after first last = record { first = end_or before first ends.first; last = end_or after last ends.last }

-- a key that is known, after this one was taken from between two others
abbrev pub known_without : Option ℕ → ℕ → Option ℕ → Option ℕ → Option ℕ
known_without None key before after = None
known_without (Some near) key before after = if near == key then end_or before after before else Some near
