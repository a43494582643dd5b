-- What a store of nodes shows.
use Rattle.std.specs.Prelude.{◌≡◌, ◌≢◌, ℕ, List, slice_index_or, slice_set}
use Rattle.std.specs.declared.option.Option.{Option}
use Rattle.std.specs.declared.option.Option.TheVariants.{None}
use Rattle.event_wheel.specs.declared.nodes.Node.{Node}

-- what each key has, and for how many nodes more there is room
pub record Held : Type 0 where
  pub slots : List (Option Node)
  pub room : ℕ

-- the node at a key
abbrev pub node_at : Held → ℕ → Option Node
node_at held key = slice_index_or held.slots key None

-- one key changes, and every other keeps what it had
pub record Puts (old new : Held) (key : ℕ) (slot : Option Node) : Type 0 where
  pub changed : node_at new key ≡ slot
  pub others : (other : ℕ) → other ≢ key → node_at new other ≡ node_at old other

-- a node's link on a side
abbrev pub link_of : Node → ℕ → Option ℕ
link_of node side = slice_index_or node.links side None

abbrev pub with_link : Node → ℕ → Option ℕ → Node
with_link node side to = record node { links = slice_set node.links side to }
