-- The least time of all, by a tree over the first times of buckets.
use Rattle.std.specs.Prelude.{◌≡◌, ◌≢◌, ℕ, ◌+◌, ◌*◌, ◌<◌, ◌≤◌, ◌⊎◌, List, IsSome, length, min, slice_index_or}
use Rattle.std.specs.declared.option.Option.{Option}
use Rattle.std.specs.declared.option.Option.TheVariants.{Some, None}
use Rattle.event_wheel.specs.declared.nodes.Node.{Node}
use Rattle.event_wheel.specs.declared.chains.Ends.{Ends}
use Rattle.event_wheel.specs.Links.{Store}
use Rattle.event_wheel.specs.Families.{no_ends}

-- the lesser of two times, where there are such
abbrev pub lesser_of : Option ℕ → Option ℕ → Option ℕ
lesser_of None other = other
lesser_of (Some time) None = Some time
lesser_of (Some time) (Some other) = Some (min time other)

-- the time at a place
abbrev pub time_at : List (Option ℕ) → ℕ → Option ℕ
time_at tree place = slice_index_or tree place None

-- the lesser of the times at the two places below one
abbrev pub time_below : List (Option ℕ) → ℕ → Option ℕ
time_below tree place = lesser_of (time_at tree (2 * place)) (time_at tree (2 * place + 1))

-- from place n on stand the times of n buckets, and each place from 1 to n - 1 has the lesser of the two below it
pub record IsTree (tree : List (Option ℕ)) (n : ℕ) : Type 0 where
  pub twice : length tree ≡ n + n
  pub each : (place : ℕ) → 0 < place → place < n → time_at tree place ≡ time_below tree place

-- the time of one bucket was set, and that of each other stayed
pub record HasSet (old new : List (Option ℕ)) (n bucket : ℕ) (time : Option ℕ) : Type 0 where
  pub tree : IsTree new n
  pub here : time_at new (n + bucket) ≡ time
  pub others : (place : ℕ) → n ≤ place → place ≢ n + bucket → time_at new place ≡ time_at old place

-- the time of a node, and of the node at a key
abbrev pub time_in : Option Node → Option ℕ
time_in None = None
time_in (Some node) = Some node.time

abbrev pub time_of : Store → Option ℕ → Option ℕ
time_of m None = None
time_of m (Some key) = time_in (m key)

-- the time of a bucket is that of its first node
abbrev pub IsNoted : Store → List Ends → List (Option ℕ) → ℕ → Type 0
IsNoted m buckets tree bucket = time_at tree (length buckets + bucket) ≡ time_of m (slice_index_or buckets bucket no_ends).first

pub record AreFirsts (m : Store) (buckets : List Ends) (tree : List (Option ℕ)) : Type 0 where
  pub is_tree : IsTree tree (length buckets)
  pub noted : (bucket : ℕ) → bucket < length buckets → IsNoted m buckets tree bucket

-- all that are noted but one bucket's, which is too where a node stands before what changed
pub record AreOtherFirsts (m : Store) (buckets : List Ends) (tree : List (Option ℕ)) (bucket : ℕ) (before : Option ℕ) : Type 0 where
  pub is_tree : IsTree tree (length buckets)
  pub noted : (other : ℕ) → other < length buckets → (other ≢ bucket) ⊎ IsSome before → IsNoted m buckets tree other
