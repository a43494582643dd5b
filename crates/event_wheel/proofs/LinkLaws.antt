-- What a write to links leaves.
use Rattle.std.proofs.Common.{◌≡◌, ◌≢◌, ℕ, ap, ◌∙◌, sym, refl, arith, true, false, inl, inr, IsSome, ◌==◌, if◌then◌else◌}
use Rattle.std.proofs.lemmas.Bool.Decides.{nat_tests}
use Rattle.std.proofs.lemmas.Bool.{cases_eq}
use Rattle.std.proofs.lemmas.List.{get_or-set_other}
use Rattle.std.specs.declared.option.Option.{Option}
use Rattle.std.specs.declared.option.Option.TheVariants.{Some, None}
use Rattle.event_wheel.specs.declared.nodes.Node.{Node}
use Rattle.event_wheel.specs.Slots.{Held, node_at, Puts, link_of, with_link}
use Rattle.event_wheel.specs.Links.{Store, is_key, slot_with_link, slot_with_links, Becomes, store_with_link, store_without, store_with, store_after_putting}
use Rattle.event_wheel.specs.Families.{IsHome, pair_of}

pub some_node : (slot : Option Node) → IsSome slot → (n : Node) × (slot ≡ Some n)
some_node None h = cc
some_node (Some n) h = (n, refl)

pub is_some-of : (slot : Option Node) (n : Node) → slot ≡ Some n → IsSome slot
is_some-of None n e = cc
is_some-of (Some m) n e = refl

linked_other : (key side k : ℕ) (to : Option ℕ) (slot : Option Node) → k ≢ key → slot_with_link (Some key) side to k slot ≡ slot
linked_other key side k to None d = refl
linked_other key side k to (Some n) d = let e : (key == k) ≡ false = grind (arith, nat_tests) in ap (λ b. Some (if b then with_link n side to else n)) e

-- one link that was set
pub becomes-linked : (old new : Held) (key side : ℕ) (to : Option ℕ) → IsSome (node_at old key) → ((n : Node) → node_at old key ≡ Some n → Puts old new key (Some (with_link n side to))) → Becomes (node_at old) (node_at new) (slot_with_link (Some key) side to)
becomes-linked old new key side to held h =
    let found = some_node (node_at old key) held in
    let puts = h found.0 found.1 in
    record {
      each = λ k. elim (cases_eq k key) [
        | inl same ↦ (let e : (key == k) ≡ true = grind (arith, nat_tests) in
            let at : node_at old k ≡ Some found.0 = ap (node_at old) same ∙ found.1 in
            ap (node_at new) same ∙ (puts.changed ∙ sym (ap (slot_with_link (Some key) side to k) at ∙ ap (λ b. Some (if b then with_link found.0 side to else found.0)) e)))
        | inr other ↦ puts.others k other ∙ sym (linked_other key side k to (node_at old k) other)
      ];
    }

pub is_key-other : (at : Option ℕ) (k : ℕ) → (at ≢ Some k) → is_key at k ≡ false
is_key-other None k d = refl
is_key-other (Some x) k d = let n : x ≢ k = (λ e. d (ap Some e)) in grind (arith, nat_tests)

-- a set link leaves what stands at another key
pub linked-apart : (at : Option ℕ) (side : ℕ) (to : Option ℕ) (k : ℕ) (slot : Option Node) → at ≢ Some k → slot_with_link at side to k slot ≡ slot
linked-apart at side to k None d = refl
linked-apart at side to k (Some n) d = ap (λ b. Some (if b then with_link n side to else n)) (is_key-other at k d)

-- it leaves where nodes are, and their transitions
pub linked-none : (at : Option ℕ) (side : ℕ) (to : Option ℕ) (k : ℕ) (slot : Option Node) → slot ≡ None → slot_with_link at side to k slot ≡ None
linked-none at side to k None e = refl
linked-none at side to k (Some n) e = cc

pub pair-linked : (at : Option ℕ) (side : ℕ) (to : Option ℕ) (k : ℕ) (slot : Option Node) → pair_of (slot_with_link at side to k slot) ≡ pair_of slot
pair-linked at side to k None = refl
pair-linked at side to k (Some n) =
    elim (is_key at k) as (λ c. pair_of (Some (if c then with_link n side to else n)) ≡ pair_of (Some n)) [ true ↦ refl | false ↦ refl ]

pub is_some-linked : (at : Option ℕ) (side : ℕ) (to : Option ℕ) (k : ℕ) (slot : Option Node) → IsSome slot → IsSome (slot_with_link at side to k slot)
is_some-linked at side to k None h = h
is_some-linked at side to k (Some n) h = refl

-- the node after a link was set: its number stays, and its links on other sides
pub record IsLike (home : Node → ℕ) (side : ℕ) (node after : Node) : Type 0 where
  pub number : home after ≡ home node
  pub links : (other : ℕ) → other ≢ side → link_of after other ≡ link_of node other

pub linked-forth : (m : Store) (home : Node → ℕ) → IsHome home → (at : Option ℕ) (side : ℕ) (to : Option ℕ) (k : ℕ) (node : Node) → m k ≡ Some node → (after : Node) × (store_with_link m at side to k ≡ Some after) × IsLike home side node after
linked-forth m home hm at side to k node e =
    (elim (is_key at k) as (λ c. slot_with_link at side to k (m k) ≡ Some (if c then with_link node side to else node) → (after : Node) × (slot_with_link at side to k (m k) ≡ Some after) × IsLike home side node after) [
      | true ↦ λ s. (with_link node side to, s, record { number = hm.links node side to; links = λ o d. get_or-set_other node.links side o to None d })
      | false ↦ λ s. (node, s, record { number = refl; links = λ o d. refl })
    ]) (ap (slot_with_link at side to k) e)

pub linked-back : (at : Option ℕ) (side : ℕ) (to : Option ℕ) (k : ℕ) (slot : Option Node) (after : Node) → slot_with_link at side to k slot ≡ Some after → (node : Node) × (slot ≡ Some node)
linked-back at side to k None after e = cc
linked-back at side to k (Some node) after e = (node, refl)

pub removed-other : (m : Store) (k j : ℕ) → j ≢ k → store_without m k j ≡ m j
removed-other m k j d = let t : (j == k) ≡ false = grind (arith, nat_tests) in ap (λ c. if c then None else m j) t

pub removed-same : (m : Store) (k j : ℕ) → j ≡ k → store_without m k j ≡ None
removed-same m k j d = let t : (j == k) ≡ true = grind (arith, nat_tests) in ap (λ c. if c then None else m j) t

pub removed-key : (m : Store) (k j : ℕ) (node : Node) → store_without m k j ≡ Some node → j ≢ k
removed-key m k j node e same = let x : None ≡ Some node = sym (removed-same m k j same) ∙ e in cc

pub added-other : (m : Store) (k : ℕ) (node : Node) (j : ℕ) → j ≢ k → store_with m k node j ≡ m j
added-other m k node j d = let t : (j == k) ≡ false = grind (arith, nat_tests) in ap (λ c. if c then Some node else m j) t

pub added-key : (m : Store) (k : ℕ) (node : Node) → store_with m k node k ≡ Some node
added-key m k node = let t : (k == k) ≡ true = grind (arith, nat_tests) in ap (λ c. if c then Some node else m k) t

-- a key that is taken out or put in before links are set, and after
pub linked-removed : (m : Store) (at : Option ℕ) (side : ℕ) (to : Option ℕ) (k j : ℕ) → store_without (store_with_link m at side to) k j ≡ store_with_link (store_without m k) at side to j
linked-removed m at side to k j =
    elim (j == k) as (λ c. (if c then None else slot_with_link at side to j (m j)) ≡ slot_with_link at side to j (if c then None else m j)) [ true ↦ refl | false ↦ refl ]

pub linked-added : (m : Store) (at : Option ℕ) (side : ℕ) (to : Option ℕ) (k : ℕ) (node : Node) (j : ℕ) → at ≢ Some k → store_with (store_with_link m at side to) k node j ≡ store_with_link (store_with m k node) at side to j
linked-added m at side to k node j d =
    elim (cases_eq j k) [
      | inl same ↦ (let t : (j == k) ≡ true = grind (arith, nat_tests) in
          let e : at ≢ Some j = (λ x. d (x ∙ ap Some same)) in
          ap (λ c. if c then Some node else slot_with_link at side to j (m j)) t
          ∙ sym (ap (λ c. slot_with_link at side to j (if c then Some node else m j)) t ∙ linked-apart at side to j (Some node) e))
      | inr other ↦ (let t : (j == k) ≡ false = grind (arith, nat_tests) in
          ap (λ c. if c then Some node else slot_with_link at side to j (m j)) t ∙ sym (ap (λ c. slot_with_link at side to j (if c then Some node else m j)) t))
    ]

-- a node that was put in, and then linked to by its neighbours on both sides
pub puts-with : (old new : Held) (k : ℕ) (node : Node) → Puts old new k (Some node) → (j : ℕ) → node_at new j ≡ store_with (node_at old) k node j
puts-with old new k node h j =
    elim (cases_eq j k) [
      | inl same ↦ ap (node_at new) same ∙ (h.changed ∙ sym (ap (store_with (node_at old) k node) same ∙ added-key (node_at old) k node))
      | inr other ↦ h.others j other ∙ sym (added-other (node_at old) k node j other)
    ]

pub put-between : (m m0 m1 m2 : Store) (k : ℕ) (node : Node) (b a p n link : Option ℕ) → ((j : ℕ) → m0 j ≡ store_with m k node j) → Becomes m0 m1 (slot_with_links b a 0 link link) → Becomes m1 m2 (slot_with_links p n 2 link link)
    → b ≡ link_of node 0 → a ≡ link_of node 1 → p ≡ link_of node 2 → n ≡ link_of node 3 → link ≡ Some k → (j : ℕ) → m2 j ≡ store_after_putting m k node j
put-between m m0 m1 m2 k node b a p n link h0 h1 h2 eb ea ep en el j =
    let made : Option ℕ → Option ℕ → Option ℕ → Option ℕ → Option ℕ → Option Node = (λ p n b a l. slot_with_links p n 2 l l j (slot_with_links b a 0 l l j (store_with m k node j))) in
    h2.each j
    ∙ (ap (slot_with_links p n 2 link link j) (h1.each j ∙ ap (slot_with_links b a 0 link link j) (h0 j))
    ∙ (ap (λ (l : Option ℕ). made p n b a l) el
    ∙ (ap (λ (l : Option ℕ). made l n b a (Some k)) ep
    ∙ (ap (λ (l : Option ℕ). made (link_of node 2) l b a (Some k)) en
    ∙ (ap (λ (l : Option ℕ). made (link_of node 2) (link_of node 3) l a (Some k)) eb
    ∙ ap (λ (l : Option ℕ). made (link_of node 2) (link_of node 3) (link_of node 0) l (Some k)) ea)))))
