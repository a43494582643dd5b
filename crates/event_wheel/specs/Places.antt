-- Places in the chains of buckets.
use Rattle.std.specs.Prelude.{◌≡◌, ℕ, ◌<◌, ◌≤◌, ◌⊎◌, List, ◌++◌}
use Rattle.std.specs.declared.option.Option.{Option}
use Rattle.std.specs.declared.option.Option.TheVariants.{Some, None}
use Rattle.event_wheel.specs.declared.nodes.Node.{Node}
use Rattle.event_wheel.specs.Slots.{link_of}
use Rattle.event_wheel.specs.Keys.{Has, AreDistinct}
use Rattle.event_wheel.specs.Links.{Store}
use Rattle.event_wheel.specs.Chains.{head_or, last_or, Chain}
use Rattle.event_wheel.specs.Families.{pairs_at, IsBefore, IsAfter, IsOrdered}

-- these keys are a chain of a bucket, in which all nodes of its times stand
pub record IsSorted (m : Store) (keys : List ℕ) : Type 0 where
  pub chain : Chain m 0 1 None keys None
  pub distinct : AreDistinct keys
  pub ordered : IsOrdered (λ s t. s ≤ t) (pairs_at m keys)
  pub closed : (key other : ℕ) (node same : Node) → Has key keys → m key ≡ Some node → m other ≡ Some same → same.time ≡ node.time → Has other keys

-- it begins with this one, and this other one is among them
pub record IsBucketChain (m : Store) (keys : List ℕ) (near first : Option ℕ) : Type 0 where
  pub sorted : IsSorted m keys
  pub begins : first ≡ head_or None keys
  pub has : (key : ℕ) → near ≡ Some key → Has key keys

-- these two keys follow one another in the chain
pub record IsBetween (m : Store) (keys : List ℕ) (before after : Option ℕ) : Type 0 where
  pub sorted : IsSorted m keys
  pub front : List ℕ
  pub back : List ℕ
  pub whole : keys ≡ front ++ back
  pub before_is : before ≡ last_or None front
  pub after_is : after ≡ head_or None back

-- and up to the first one no time is later
pub record IsEarlier (m : Store) (keys : List ℕ) (time : ℕ) (before after : Option ℕ) : Type 0 where
  pub between : IsBetween m keys before after
  pub earlier : IsAfter (λ s t. s ≤ t) time (pairs_at m between.front)

-- between these two keys a time is in order
pub record IsPlace (m : Store) (keys : List ℕ) (time : ℕ) (before after : Option ℕ) : Type 0 where
  pub front : List ℕ
  pub back : List ℕ
  pub whole : keys ≡ front ++ back
  pub before_is : before ≡ last_or None front
  pub after_is : after ≡ head_or None back
  pub earlier : IsAfter (λ s t. s ≤ t) time (pairs_at m front)
  pub later : IsBefore (λ s t. s ≤ t) time (pairs_at m back)

-- a node's time
abbrev pub HasTime : Option Node → ℕ → Type 0
HasTime None time = ⊥
HasTime (Some node) time = node.time ≡ time

-- the first node's time
abbrev pub StartsAt : Store → Option ℕ → ℕ → Type 0
StartsAt m None time = ⊥
StartsAt m (Some key) time = HasTime (m key) time

-- a node is later than a time, and so is what stands at a key, if anything
abbrev pub IsLaterNode : Option Node → ℕ → Type 0
IsLaterNode None time = ⊥
IsLaterNode (Some node) time = time < node.time

abbrev pub IsLater : Store → Option ℕ → ℕ → Type 0
IsLater m None time = Unit {0}
IsLater m (Some key) time = IsLaterNode (m key) time

-- a node of this time and what comes after it, which is later
pub record IsRunEnd (m : Store) (time : ℕ) (before after : Option ℕ) : Type 0 where
  pub key : ℕ
  pub node : Node
  pub is : before ≡ Some key
  pub held : m key ≡ Some node
  pub same : node.time ≡ time
  pub next : after ≡ link_of node 1
  pub later : IsLater m after time

-- behind a node, or behind the last one of its time
abbrev pub IsBeyond : Store → ℕ → Node → Option ℕ → Option ℕ → Type 0
IsBeyond m key node before after = ((before ≡ Some key) × (after ≡ link_of node 1)) ⊎ IsRunEnd m node.time before after
