-- Both families after a node was taken out of the store or put into it.
use Rattle.std.proofs.Common.{◌≡◌, ◌≢◌, ℕ, zero, suc, ◌+◌, ◌<◌, ◌≤◌, List, ◌∷◌, ◌++◌, length, refl, sym, ◌∙◌, ap, subst, arith, inl, inr, IsSome}
use Rattle.std.specs.Prelude.{slice_index_or, slice_set}
use Rattle.std.specs.declared.option.Option.{Option}
use Rattle.std.specs.declared.option.Option.TheVariants.{Some, None}
use Rattle.event_wheel.specs.declared.nodes.Node.{Node}
use Rattle.event_wheel.specs.declared.chains.Ends.{Ends}
use Rattle.event_wheel.specs.Slots.{link_of}
use Rattle.event_wheel.specs.Links.{Store, slot_with_link, store_with_link, store_with_links, store_without, store_with, store_after_taking, store_after_putting, HasNeighbours, ends_between}
use Rattle.event_wheel.specs.Chains.{head_or, last_or}
use Rattle.event_wheel.specs.Families.{IsHome, IsIndexed, IsBefore, IsAfter, pair_of, pairs_at, no_ends}
use Rattle.event_wheel.specs.Kept.{bucket_of, driver_of}
use Rattle.event_wheel.proofs.LinkLaws.{linked-forth, linked-none, linked-removed, linked-added, pair-linked, removed-other}
use Rattle.event_wheel.proofs.FamilyLaws.{with_chain, neighbour}
use Rattle.event_wheel.proofs.OrderLaws.{pairs-same}
use Rattle.event_wheel.proofs.IndexLaws.{indexed-same, indexed-side, indexed-taken, indexed-put, TakenFrom}

pub bucket_home : (n : ℕ) → IsHome (bucket_of n)
bucket_home n = record { links = λ node side to. refl }

pub driver_home : IsHome driver_of
driver_home = record { links = λ node side to. refl }

-- a node's transition stays under other keys
pub pair-relinked : (m : Store) (p q : Option ℕ) (b : ℕ) (s t : Option ℕ) (x : ℕ) → pair_of (store_with_links m p q b s t x) ≡ pair_of (m x)
pair-relinked m p q b s t x = pair-linked q b t x (store_with_link m p (b + 1) s x) ∙ pair-linked p (b + 1) s x (m x)

pub pair-taken : (m : Store) (k : ℕ) (node : Node) (x : ℕ) → x ≢ k → pair_of (store_after_taking m k node x) ≡ pair_of (m x)
pair-taken m k node x o =
    pair-relinked (store_with_links (store_without m k) (link_of node 0) (link_of node 1) 0 (link_of node 1) (link_of node 0)) (link_of node 2) (link_of node 3) 2 (link_of node 3) (link_of node 2) x
    ∙ (pair-relinked (store_without m k) (link_of node 0) (link_of node 1) 0 (link_of node 1) (link_of node 0) x ∙ ap pair_of (removed-other m k x o))

pub pair-put : (m : Store) (k : ℕ) (node : Node) (x : ℕ) → pair_of (store_after_putting m k node x) ≡ pair_of (store_with m k node x)
pair-put m k node x =
    pair-relinked (store_with_links (store_with m k node) (link_of node 0) (link_of node 1) 0 (Some k) (Some k)) (link_of node 2) (link_of node 3) 2 (Some k) (Some k) x
    ∙ pair-relinked (store_with m k node) (link_of node 0) (link_of node 1) 0 (Some k) (Some k) x

-- what a node's links are on other sides after two were set
forth_twice : (m : Store) (home : Node → ℕ) → IsHome home → (p q s t : Option ℕ) (k : ℕ) (node : Node) → m k ≡ Some node
    → (after : Node) × (store_with_links m p q 0 s t k ≡ Some after) × (home after ≡ home node) × (link_of after 2 ≡ link_of node 2) × (link_of after 3 ≡ link_of node 3)
forth_twice m home hm p q s t k node e =
    let r0 = linked-forth m home hm p 1 s k node e in
    let r1 = linked-forth (store_with_link m p 1 s) home hm q 0 t k r0.0 r0.1 in (
      r1.0,
      r1.1,
      r1.2.number ∙ r0.2.number,
      r1.2.links 2 (λ x. omega (arith, x)) ∙ r0.2.links 2 (λ x. omega (arith, x)),
      r1.2.links 3 (λ x. omega (arith, x)) ∙ r0.2.links 3 (λ x. omega (arith, x)),
    )

module _ (m : Store) (R : ℕ → ℕ → Type 0) (ends ends' : List Ends) (chains : ℕ → List ℕ) (k : ℕ) (node : Node) where
  -- the chains of the buckets
  pub buckets-taken : (home : Node → ℕ) (i : ℕ) → IsHome home → IsIndexed m 0 1 home R ends chains → m k ≡ Some node → home node ≡ i
      → ends' ≡ slice_set ends i (ends_between (slice_index_or ends i no_ends) (link_of node 0) (link_of node 1) (link_of node 1) (link_of node 0))
      → TakenFrom (store_after_taking m k node) 0 1 home R ends' (chains i) chains i k (link_of node 0) (link_of node 1)
  buckets-taken home i hm f e hi he =
      let p : Option ℕ = link_of node 0 in
      let q : Option ℕ = link_of node 1 in
      let s : Option ℕ = link_of node 2 in
      let t : Option ℕ = link_of node 3 in
      let r = indexed-taken m 0 1 home R ends ends' chains k node i p q hm (λ x. omega (arith, x)) (omega arith) (omega arith) f e hi refl refl he in
      let m1 : Store = store_with_link (store_with_link (store_without m k) p 1 q) q 0 p in
      let same : (j : ℕ) → m1 j ≡ store_without (store_with_link (store_with_link m p 1 q) q 0 p) k j =
      (λ j. sym (linked-removed (store_with_link m p 1 q) q 0 p k j ∙ ap (slot_with_link q 0 p j) (linked-removed m p 1 q k j))) in
      let c : ℕ → List ℕ = with_chain chains i (r.front ++ r.back) in
      let f1 : IsIndexed m1 0 1 home R ends' c = indexed-same (store_without (store_with_link (store_with_link m p 1 q) q 0 p) k) m1 0 1 home R ends' c same r.indexed in
      let f2 = indexed-side m1 0 1 home R ends' c s 3 t hm (λ x. omega (arith, x)) (λ x. omega (arith, x)) f1 in
      record {
        front = r.front;
        back = r.back;
        whole = r.whole;
        before_is = r.before_is;
        after_is = r.after_is;
        outside = r.outside;
        indexed = indexed-side (store_with_link m1 s 3 t) 0 1 home R ends' c t 2 s hm (λ x. omega (arith, x)) (λ x. omega (arith, x)) f2;
      }

  -- those of the drivers
  pub drivers-taken : (home : Node → ℕ) (i : ℕ) → IsHome home → IsIndexed m 2 3 home R ends chains → m k ≡ Some node → home node ≡ i
      → ends' ≡ slice_set ends i (ends_between (slice_index_or ends i no_ends) (link_of node 2) (link_of node 3) (link_of node 3) (link_of node 2))
      → TakenFrom (store_after_taking m k node) 2 3 home R ends' (chains i) chains i k (link_of node 2) (link_of node 3)
  drivers-taken home i hm f e hi he =
      let p : Option ℕ = link_of node 0 in
      let q : Option ℕ = link_of node 1 in
      let s : Option ℕ = link_of node 2 in
      let t : Option ℕ = link_of node 3 in
      let m0 : Store = store_with_link m p 1 q in
      let m1 : Store = store_with_link m0 q 0 p in
      let f0 = indexed-side m 2 3 home R ends chains p 1 q hm (λ x. omega (arith, x)) (λ x. omega (arith, x)) f in
      let f1 = indexed-side m0 2 3 home R ends chains q 0 p hm (λ x. omega (arith, x)) (λ x. omega (arith, x)) f0 in
      let g = forth_twice m home hm p q q p k node e in
      let r = indexed-taken m1 2 3 home R ends ends' chains k g.0 i s t hm (λ x. omega (arith, x)) (omega arith) (omega arith) f1 g.1 (g.2 ∙ hi) g.3 g.4 he in
      let c : ℕ → List ℕ = with_chain chains i (r.front ++ r.back) in
      let same : (j : ℕ) → store_after_taking m k node j ≡ store_without (store_with_link (store_with_link m1 s 3 t) t 2 s) k j =
      (λ j. sym (linked-removed (store_with_link m1 s 3 t) t 2 s k j
      ∙ ap (slot_with_link t 2 s j) (linked-removed m1 s 3 t k j
      ∙ ap (slot_with_link s 3 t j) (linked-removed m0 q 0 p k j ∙ ap (slot_with_link q 0 p j) (linked-removed m p 1 q k j))))) in
      record {
        front = r.front;
        back = r.back;
        whole = r.whole;
        before_is = r.before_is;
        after_is = r.after_is;
        outside = r.outside;
        indexed = indexed-same (store_without (store_with_link (store_with_link m1 s 3 t) t 2 s) k) (store_after_taking m k node) 2 3 home R ends' c same r.indexed;
      }

  pub buckets-put : (home : Node → ℕ) (xs ys : List ℕ) → IsHome home → 4 ≤ length node.links → IsIndexed m 0 1 home R ends chains → m k ≡ None → home node < length ends → chains (home node) ≡ xs ++ ys
      → link_of node 0 ≡ last_or None xs → link_of node 1 ≡ head_or None ys → IsAfter R node.time (pairs_at m xs) → IsBefore R node.time (pairs_at m ys)
      → ends' ≡ slice_set ends (home node) (ends_between (slice_index_or ends (home node) no_ends) (link_of node 0) (link_of node 1) (Some k) (Some k))
      → IsIndexed (store_after_putting m k node) 0 1 home R ends' (with_chain chains (home node) (xs ++ k ∷ ys))
  buckets-put home xs ys hm four f free l whole ep eq after before he =
      let to : Option ℕ = Some k in
      let c : ℕ → List ℕ = with_chain chains (home node) (xs ++ k ∷ ys) in
      let m1 : Store = store_with_link (store_with_link (store_with m k node) (link_of node 0) 1 to) (link_of node 1) 0 to in
      let f1 : IsIndexed m1 0 1 home R ends' c = indexed-put m 0 1 home R ends ends' chains k node xs ys hm (λ x. omega (arith, x)) (omega arith) (omega arith) four f free l whole ep eq after before he in
      let f2 = indexed-side m1 0 1 home R ends' c (link_of node 2) 3 to hm (λ x. omega (arith, x)) (λ x. omega (arith, x)) f1 in
      indexed-side (store_with_link m1 (link_of node 2) 3 to) 0 1 home R ends' c (link_of node 3) 2 to hm (λ x. omega (arith, x)) (λ x. omega (arith, x)) f2

  pub drivers-put : (home : Node → ℕ) (xs ys : List ℕ) → IsHome home → 4 ≤ length node.links → IsIndexed m 2 3 home R ends chains → m k ≡ None → home node < length ends → chains (home node) ≡ xs ++ ys
      → link_of node 2 ≡ last_or None xs → link_of node 3 ≡ head_or None ys → IsAfter R node.time (pairs_at m xs) → IsBefore R node.time (pairs_at m ys)
      → link_of node 0 ≢ Some k → link_of node 1 ≢ Some k
      → ends' ≡ slice_set ends (home node) (ends_between (slice_index_or ends (home node) no_ends) (link_of node 2) (link_of node 3) (Some k) (Some k))
      → IsIndexed (store_after_putting m k node) 2 3 home R ends' (with_chain chains (home node) (xs ++ k ∷ ys))
  drivers-put home xs ys hm four f free l whole ep eq after before dp dq he =
      let to : Option ℕ = Some k in
      let p : Option ℕ = link_of node 0 in
      let q : Option ℕ = link_of node 1 in
      let s : Option ℕ = link_of node 2 in
      let t : Option ℕ = link_of node 3 in
      let c : ℕ → List ℕ = with_chain chains (home node) (xs ++ k ∷ ys) in
      let m0 : Store = store_with_link m p 1 to in
      let m1 : Store = store_with_link m0 q 0 to in
      let f0 = indexed-side m 2 3 home R ends chains p 1 to hm (λ x. omega (arith, x)) (λ x. omega (arith, x)) f in
      let f1 = indexed-side m0 2 3 home R ends chains q 0 to hm (λ x. omega (arith, x)) (λ x. omega (arith, x)) f0 in
      let pairs : (ks : List ℕ) → pairs_at m1 ks ≡ pairs_at m ks = (λ ks. pairs-same m m1 ks (λ x h. pair-linked q 0 to x (m0 x) ∙ pair-linked p 1 to x (m x))) in
      let none : m1 k ≡ None = linked-none q 0 to k (m0 k) (linked-none p 1 to k (m k) free) in
      let g = indexed-put m1 2 3 home R ends ends' chains k node xs ys hm (λ x. omega (arith, x)) (omega arith) (omega arith) four f1 none l whole ep eq
      (subst (IsAfter R node.time) (sym (pairs xs)) after) (subst (IsBefore R node.time) (sym (pairs ys)) before) he in
      let same : (j : ℕ) → store_after_putting m k node j ≡ store_with_link (store_with_link (store_with m1 k node) s 3 to) t 2 to j =
      (λ j. sym (ap (λ z. slot_with_link t 2 to j (slot_with_link s 3 to j z)) (linked-added m0 q 0 to k node j dq ∙ ap (slot_with_link q 0 to j) (linked-added m p 1 to k node j dp)))) in
      indexed-same (store_with_link (store_with_link (store_with m1 k node) s 3 to) t 2 to) (store_after_putting m k node) 2 3 home R ends' c same g

-- each neighbour of a node in two families is another node
pub has_neighbours : (m : Store) (n : ℕ) (R Q : ℕ → ℕ → Type 0) (buckets drivers : List Ends) (chains others : ℕ → List ℕ) (k : ℕ) → IsIndexed m 0 1 (bucket_of n) R buckets chains → IsIndexed m 2 3 driver_of Q drivers others → HasNeighbours m k
has_neighbours m n R Q buckets drivers chains others k f g =
    record {
      each = each;
    }
  where
    each : (node : Node) (side other : ℕ) → m k ≡ Some node → side < 4 → link_of node side ≡ Some other → (other ≢ k) × IsSome (m other)
    each node zero other e s h = neighbour m 0 1 (bucket_of n) (length buckets) chains k node other f.family e (inl h)
    each node (suc zero) other e s h = neighbour m 0 1 (bucket_of n) (length buckets) chains k node other f.family e (inr h)
    each node (suc (suc zero)) other e s h = neighbour m 2 3 driver_of (length drivers) others k node other g.family e (inl h)
    each node (suc (suc (suc zero))) other e s h = neighbour m 2 3 driver_of (length drivers) others k node other g.family e (inr h)
    each node (suc (suc (suc (suc side)))) other e s h = absurd (omega arith)
