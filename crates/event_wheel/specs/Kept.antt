-- What a wheel keeps, and what it stands for.
use Rattle.std.specs.Prelude.{◌≡◌, ℕ, ◌<◌, ◌≤◌, ◌%◌, List, [], ◌∷◌, ◌++◌, length, map, slice_index_or}
use Rattle.std.specs.declared.option.Option.{Option}
use Rattle.std.specs.declared.option.Option.TheVariants.{Some, None}
use Rattle.sg_logic.specs.declared.values.Value.{Value}
use Rattle.sg_model.specs.Agenda.{list_at, with_list}
use Rattle.event_wheel.specs.declared.nodes.Node.{Node}
use Rattle.event_wheel.specs.declared.chains.Ends.{Ends}
use Rattle.event_wheel.specs.Slots.{Held, node_at}
use Rattle.event_wheel.specs.Keys.{Has}
use Rattle.event_wheel.specs.Links.{Store}
use Rattle.event_wheel.specs.Chains.{walk}
use Rattle.event_wheel.specs.Families.{IsIndexed, pairs_at, no_ends}
use Rattle.event_wheel.specs.Wheel.{WheelView}
use Rattle.event_wheel.specs.Least.{AreFirsts}

-- the transitions of a driver, along its chain
abbrev pub list_of : Held → Ends → List (ℕ × Value)
list_of held ends = pairs_at (node_at held) (walk (length held.slots) (node_at held) 3 ends.first)

abbrev pub table_of : Held → List Ends → List (List (ℕ × Value))
table_of held drivers = map (list_of held) drivers

abbrev pub view_of : Held → List Ends → List Ends → WheelView
view_of held buckets drivers = record { lists = table_of held drivers; spare = held.room; nodes = held; buckets = length buckets }

-- the bucket of a node, and its driver
abbrev pub bucket_of : ℕ → Node → ℕ
bucket_of n node = node.time % n

abbrev pub driver_of : Node → ℕ
driver_of node = node.driver

-- each node stands in the chain of its bucket, where times don't fall
pub record AreBuckets (m : Store) (buckets : List Ends) : Type 0 where
  pub chains : ℕ → List ℕ
  pub indexed : IsIndexed m 0 1 (bucket_of (length buckets)) (λ s t. s ≤ t) buckets chains

-- and in the chain of its driver, where times rise
pub record AreDrivers (m : Store) (drivers : List Ends) : Type 0 where
  pub chains : ℕ → List ℕ
  pub indexed : IsIndexed m 2 3 driver_of (λ s t. s < t) drivers chains

-- and for each bucket one of its nodes may be known
pub record AreChained (held : Held) (buckets drivers : List Ends) (near : List (Option ℕ)) : Type 0 where
  pub some : 0 < length buckets
  pub by_time : AreBuckets (node_at held) buckets
  pub by_driver : AreDrivers (node_at held) drivers
  pub as_many : length near ≡ length buckets
  pub near_in : (i key : ℕ) → i < length buckets → slice_index_or near i None ≡ Some key → Has key (by_time.chains i)

-- no node's time is below this one
pub record NoNodeBelow (m : Store) (time : ℕ) : Type 0 where
  pub each : (key : ℕ) (node : Node) → m key ≡ Some node → time ≤ node.time

-- there is no node
pub record NoNode (m : Store) : Type 0 where
  pub each : (key : ℕ) → m key ≡ None

-- it is the time of a node
abbrev pub IsNodesTime : Store → ℕ → Type 0
IsNodesTime m time = (key : ℕ) × (node : Node) × (m key ≡ Some node) × (node.time ≡ time)

-- what a wheel keeps
pub record IsWheel (held : Held) (buckets drivers : List Ends) (near firsts : List (Option ℕ)) : Type 0 where
  pub few : length buckets ≤ 1048576
  pub chained : AreChained held buckets drivers near
  pub noted : AreFirsts (node_at held) buckets firsts

-- a driver has one transition more, its latest
pub record HasPut (old : Held) (old_buckets old_drivers : List Ends) (new : Held) (new_buckets new_drivers : List Ends) (new_near : List (Option ℕ)) (driver : ℕ) (pair : ℕ × Value) : Type 0 where
  pub chained : AreChained new new_buckets new_drivers new_near
  pub buckets : length new_buckets ≡ length old_buckets
  pub table : table_of new new_drivers ≡ with_list (table_of old old_drivers) driver (list_at (table_of old old_drivers) driver ++ pair ∷ [])

-- a driver has one transition less, that of the node at a key
pub record HasTaken (old : Held) (old_buckets old_drivers : List Ends) (new : Held) (new_buckets new_drivers : List Ends) (new_near : List (Option ℕ)) (key : ℕ) (node : Node) : Type 0 where
  pub held : node_at old key ≡ Some node
  pub chained : AreChained new new_buckets new_drivers new_near
  pub buckets : length new_buckets ≡ length old_buckets
  pub driver : node.driver < length old_drivers
  pub front : List (ℕ × Value)
  pub back : List (ℕ × Value)
  pub list : list_at (table_of old old_drivers) node.driver ≡ front ++ (node.time, node.value) ∷ back
  pub table : table_of new new_drivers ≡ with_list (table_of old old_drivers) node.driver (front ++ back)
  -- where it was a driver's last, none came after it
  pub last : (driver : ℕ) → driver < length old_drivers → (slice_index_or old_drivers driver no_ends).last ≡ Some key → (node.driver ≡ driver) × (back ≡ [])
