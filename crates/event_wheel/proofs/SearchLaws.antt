-- The first nodes of buckets.
use Rattle.std.proofs.Common.{◌≡◌, ℕ, ◌<◌, ◌≤◌, ◌%◌, List, [], ◌∷◌, length, refl, sym, ◌∙◌, ap, subst, arith, inl, inr, IsSome}
use Rattle.std.specs.Prelude.{slice_index_or}
use Rattle.std.specs.Option.{ForSome}
use Rattle.std.specs.declared.option.Option.{Option}
use Rattle.std.specs.declared.option.Option.TheVariants.{Some, None}
use Rattle.event_wheel.specs.declared.nodes.Node.{Node}
use Rattle.event_wheel.specs.declared.chains.Ends.{Ends}
use Rattle.event_wheel.specs.Keys.{Has}
use Rattle.event_wheel.specs.Links.{Store}
use Rattle.event_wheel.specs.Chains.{head_or}
use Rattle.event_wheel.specs.Families.{pair_of, pairs_at, IsOrdered, no_ends}
use Rattle.event_wheel.specs.Kept.{AreBuckets, NoNodeBelow}
use Rattle.event_wheel.specs.Places.{StartsAt, HasTime}
use Rattle.event_wheel.proofs.LinkLaws.{is_some-of}
use Rattle.event_wheel.proofs.KeyLaws.{head-has}
use Rattle.event_wheel.proofs.OrderLaws.{before-has}
use Rattle.event_wheel.proofs.WheelLaws.{time_is}

-- the first node of a bucket has its least time
pub record IsFirst (m : Store) (n i key : ℕ) : Type 0 where
  pub node : Node
  pub held : m key ≡ Some node
  pub here : node.time % n ≡ i
  pub least : (k : ℕ) (other : Node) → m k ≡ Some other → other.time % n ≡ i → node.time ≤ other.time

least_in : (m : Store) (ks : List ℕ) (key : ℕ) (node : Node) → head_or None ks ≡ Some key → m key ≡ Some node → IsOrdered (λ s t. s ≤ t) (pairs_at m ks) → (k : ℕ) (other : Node) → Has k ks → m k ≡ Some other → node.time ≤ other.time
least_in m [] key node e h o k other g w = absurd g
least_in m (x ∷ xs) key node e h o k other g w =
    let same : x ≡ key = cc in
    let first : (pair_of (m x)).0 ≡ node.time = ap (λ y. (pair_of (m y)).0) same ∙ time_is m key node h in
    elim g [
      | inl here ↦ (let s : node.time ≡ other.time = sym first ∙ (ap (λ y. (pair_of (m y)).0) here ∙ time_is m k other w) in omega arith)
      | inr rest ↦ (let l : (pair_of (m x)).0 ≤ (pair_of (m k)).0 = before-has (λ s t. s ≤ t) (pair_of (m x)).0 m xs k o.0 rest in
          let t : (pair_of (m k)).0 ≡ other.time = time_is m k other w in
          omega arith)
    ]

pub is_first : (m : Store) (buckets : List Ends) (i key : ℕ) → AreBuckets m buckets → i < length buckets → (slice_index_or buckets i no_ends).first ≡ Some key → IsFirst m (length buckets) i key
is_first m buckets i key b l e =
    let head : head_or None (b.chains i) ≡ Some key = sym (ap (λ (x : Ends). x.first) (b.indexed.ends_are i l)) ∙ e in
    let s = b.indexed.family.sound i key l (head-has (b.chains i) key head) in
    record {
      node = s.0;
      held = s.1;
      here = s.2;
      least = λ k other h g. least_in m (b.chains i) key s.0 head s.1 (b.indexed.ordered i l) k other (subst (λ j. Has k (b.chains j)) g (b.indexed.family.complete k other h).1) h;
    }

pub none_first : (m : Store) (buckets : List Ends) (i : ℕ) → AreBuckets m buckets → i < length buckets → (slice_index_or buckets i no_ends).first ≡ None → (k : ℕ) (other : Node) → m k ≡ Some other → other.time % length buckets ≡ i → ⊥
none_first m buckets i b l e k other h g =
    nothing (b.chains i) (sym (ap (λ (x : Ends). x.first) (b.indexed.ends_are i l)) ∙ e) (subst (λ j. Has k (b.chains j)) g (b.indexed.family.complete k other h).1)
  where
    nothing : (ks : List ℕ) → head_or None ks ≡ None → Has k ks → ⊥
    nothing [] n has = has
    nothing (x ∷ xs) n has = cc

-- the first key of a bucket is that of a node
pub first_held : (m : Store) (buckets : List Ends) (i : ℕ) (first : Option ℕ) → AreBuckets m buckets → i < length buckets → first ≡ (slice_index_or buckets i no_ends).first → ForSome first (λ key. IsSome (m key))
first_held m buckets i first b l e = λ key g. let f = is_first m buckets i key b l (sym e ∙ g) in is_some-of (m key) f.node f.held

-- the time of the first node
pub begins_is : (m : Store) (first : Option ℕ) (time : ℕ) → StartsAt m first time → (key : ℕ) × (node : Node) × (first ≡ Some key) × (m key ≡ Some node) × (node.time ≡ time)
begins_is m None time h = absurd h
begins_is m (Some key) time h = at (m key) refl h
  where
    at : (slot : Option Node) → m key ≡ slot → HasTime slot time → (k : ℕ) × (node : Node) × (Some key ≡ Some k) × (m k ≡ Some node) × (node.time ≡ time)
    at None e g = absurd g
    at (Some node) e g = (key, node, refl, e, g)

is_begin : (m : Store) (key time : ℕ) (node : Node) → m key ≡ Some node → node.time ≡ time → StartsAt m (Some key) time
is_begin m key time node e h = subst (λ s. HasTime s time) (sym e) h

-- where the first node of its bucket isn't of a time from which on all are, none is of it
pub none_at : (m : Store) (buckets : List Ends) (i time : ℕ) (first : Option ℕ) → AreBuckets m buckets → 0 < length buckets → i ≡ time % length buckets → first ≡ (slice_index_or buckets i no_ends).first → NoNodeBelow m time → (StartsAt m first time → ⊥)
    → (k : ℕ) (node : Node) → m k ≡ Some node → node.time ≡ time → ⊥
none_at m buckets i time None b some ei e below unmet k node h g =
    none_first m buckets i b (let l : time % length buckets < length buckets = omega arith in omega arith) (sym e) k node h (ap (λ t. t % length buckets) g ∙ sym ei)
none_at m buckets i time (Some key) b some ei e below unmet k node h g =
    let l : time % length buckets < length buckets = omega arith in
    let f = is_first m buckets i key b (omega arith) (sym e) in
    let low : f.node.time ≤ node.time = f.least k node h (ap (λ t. t % length buckets) g ∙ sym ei) in
    let high : time ≤ f.node.time = below.each key f.node f.held in
    unmet (is_begin m key time f.node f.held (omega arith))
