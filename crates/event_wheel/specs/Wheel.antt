-- What contracts see of a wheel, and how its nodes and its buckets follow from the transitions that are pending.
use Rattle.std.specs.Prelude.{◌≡◌, ℕ, ◌<◌, ◌%◌, List, [], ◌∷◌, length}
use Rattle.std.specs.List.{Contains}
use Rattle.std.specs.declared.option.Option.{Option}
use Rattle.std.specs.declared.option.Option.TheVariants.{Some, None}
use Rattle.sg_logic.specs.declared.values.Value.{Value}
use Rattle.sg_model.specs.Agenda.{list_at}
use Rattle.event_wheel.specs.declared.nodes.Node.{Node}
use Rattle.event_wheel.specs.Slots.{Held, node_at, link_of}
use Rattle.event_wheel.specs.Keys.{Has, AreDistinct}

-- the list of each driver, its earliest transition first; how many can be appended; the nodes; how many buckets there are
pub record WheelView : Type 0 where
  pub lists : List (List (ℕ × Value))
  pub spare : ℕ
  pub nodes : Held
  pub buckets : ℕ

-- the node at a key is that of a driver's transition
abbrev pub IsNodeOf : Held → ℕ → ℕ → ℕ × Value → Type 0
IsNodeOf held key driver pair =
    (node : Node) × (node_at held key ≡ Some node) × (node.driver ≡ driver) × ((node.time, node.value) ≡ pair)

-- each transition has exactly one node, and there is no other node
pub record HoldsPairs (held : Held) (lists : List (List (ℕ × Value))) : Type 0 where
  pub some : (driver : ℕ) (pair : ℕ × Value) → driver < length lists → Contains (list_at lists driver) pair → (key : ℕ) × IsNodeOf held key driver pair
  pub once : (driver key other : ℕ) (pair : ℕ × Value) → IsNodeOf held key driver pair → IsNodeOf held other driver pair → key ≡ other
  pub only : (key driver : ℕ) (pair : ℕ × Value) → IsNodeOf held key driver pair → (driver < length lists) × Contains (list_at lists driver) pair

-- links on one side lead from a key through these keys, and end there
abbrev pub Leads : Held → ℕ → Option ℕ → List ℕ → Type 0
Leads held side at [] = at ≡ None
Leads held side at (key ∷ keys) =
    (at ≡ Some key) × ((node : Node) × (node_at held key ≡ Some node) × Leads held side (link_of node side) keys)

-- the chain from a key on has exactly the nodes of a bucket, each once
pub record IsBucket (held : Held) (buckets bucket : ℕ) (first : Option ℕ) : Type 0 where
  pub keys : List ℕ
  pub chain : Leads held 1 first keys
  pub once : AreDistinct keys
  pub only : (key : ℕ) → Has key keys → (node : Node) × (node_at held key ≡ Some node) × (node.time % buckets ≡ bucket)
  pub all : (key : ℕ) (node : Node) → node_at held key ≡ Some node → node.time % buckets ≡ bucket → Has key keys
