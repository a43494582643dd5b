-- What a change of links does to chains.
use Rattle.std.proofs.Common.{◌≡◌, ◌≢◌, ℕ, zero, suc, ◌<◌, ◌≤◌, ◌==◌, Bool, true, false, if◌then◌else◌, List, [], ◌∷◌, ◌++◌, length, refl, sym, ◌∙◌, ap, subst, arith, reverse, inl, inr}
use Rattle.std.proofs.lemmas.Bool.Decides.{nat_tests}
use Rattle.std.proofs.lemmas.List.{get_or-set_same, get_or-set_other, length-set, reverse-append}
use Rattle.std.specs.declared.option.Option.{Option}
use Rattle.std.specs.declared.option.Option.TheVariants.{Some, None}
use Rattle.event_wheel.specs.declared.nodes.Node.{Node}
use Rattle.event_wheel.specs.Slots.{link_of, with_link}
use Rattle.event_wheel.specs.Keys.{IsOutside, AreDistinct, Has}
use Rattle.event_wheel.specs.Links.{Store, is_key, slot_with_link, store_with_link, store_without, store_with}
use Rattle.event_wheel.specs.Chains.{head_or, last_or, IsLinked, Chain, walk, next_of}
use Rattle.event_wheel.proofs.LinkLaws.{is_key-other, removed-other, added-other, added-key}
use Rattle.event_wheel.proofs.KeyLaws.{outside-parts, distinct-parts, distinct-without, last_or-append}

-- a chain is that of its two parts
pub chain-split : (m : Store) (b a : ℕ) (prev : Option ℕ) (xs ys : List ℕ) (next : Option ℕ) → Chain m b a prev (xs ++ ys) next → Chain m b a prev xs (head_or next ys) × Chain m b a (last_or prev xs) ys next
chain-split m b a prev [] ys next h = (tt, h)
chain-split m b a prev (x ∷ []) ys next h = ((h.0, tt), h.1)
chain-split m b a prev (x ∷ y ∷ zs) ys next h = let r = chain-split m b a (Some x) (y ∷ zs) ys next h.1 in ((h.0, r.0), r.1)

pub chain-join : (m : Store) (b a : ℕ) (prev : Option ℕ) (xs ys : List ℕ) (next : Option ℕ) → Chain m b a prev xs (head_or next ys) → Chain m b a (last_or prev xs) ys next → Chain m b a prev (xs ++ ys) next
chain-join m b a prev [] ys next h k = k
chain-join m b a prev (x ∷ []) ys next h k = (h.0, k)
chain-join m b a prev (x ∷ y ∷ zs) ys next h k = (h.0, chain-join m b a (Some x) (y ∷ zs) ys next h.1 k)

-- a node that isn't the one whose link was set keeps its links
pub linked-other : (m : Store) (b a : ℕ) (at : Option ℕ) (side : ℕ) (to : Option ℕ) (k : ℕ) (prev next : Option ℕ) → at ≢ Some k → IsLinked m b a k prev next → IsLinked (store_with_link m at side to) b a k prev next
linked-other m b a at side to k prev next d h =
    record {
      node = h.node;
      held = ap (slot_with_link at side to k) h.held ∙ ap (λ c. Some (if c then with_link h.node side to else h.node)) (is_key-other at k d);
      four = h.four;
      before = h.before;
      after = h.after;
    }

-- the node whose link on side a was set
linked-after : (m : Store) (b a : ℕ) (to : Option ℕ) (k : ℕ) (prev next : Option ℕ) → b ≢ a → a < 4 → IsLinked m b a k prev next → IsLinked (store_with_link m (Some k) a to) b a k prev to
linked-after m b a to k prev next d l h =
    let e : (k == k) ≡ true = grind (arith, nat_tests) in
    let f = h.four in
    record {
      node = with_link h.node a to;
      held = ap (slot_with_link (Some k) a to k) h.held ∙ ap (λ c. Some (if c then with_link h.node a to else h.node)) e;
      four = rw length-set h.four;
      before = get_or-set_other h.node.links a b to None d ∙ h.before;
      after = get_or-set_same h.node.links a to None (omega arith);
    }

linked-before : (m : Store) (b a : ℕ) (to : Option ℕ) (k : ℕ) (prev next : Option ℕ) → a ≢ b → b < 4 → IsLinked m b a k prev next → IsLinked (store_with_link m (Some k) b to) b a k to next
linked-before m b a to k prev next d l h =
    let e : (k == k) ≡ true = grind (arith, nat_tests) in
    let f = h.four in
    record {
      node = with_link h.node b to;
      held = ap (slot_with_link (Some k) b to k) h.held ∙ ap (λ c. Some (if c then with_link h.node b to else h.node)) e;
      four = rw length-set h.four;
      before = get_or-set_same h.node.links b to None (omega arith);
      after = get_or-set_other h.node.links b a to None d ∙ h.after;
    }

-- the optional key isn't in the list
abbrev pub IsApart : Option ℕ → List ℕ → Type 0
IsApart at [] = Unit {0}
IsApart at (x ∷ xs) = (at ≢ Some x) × IsApart at xs

pub apart-from : (k : ℕ) (ks : List ℕ) → IsOutside k ks → IsApart (Some k) ks
apart-from k [] u = tt
apart-from k (x ∷ xs) u = ((λ e. u.0 (let f : k ≡ x = cc in sym f)), apart-from k xs u.1)

pub apart-none : (ks : List ℕ) → IsApart None ks
apart-none [] = tt
apart-none (x ∷ xs) = ((λ e. cc), apart-none xs)

pub apart-by : (at : Option ℕ) (ks : List ℕ) → ((x : ℕ) → at ≡ Some x → Has x ks → ⊥) → IsApart at ks
apart-by at [] h = tt
apart-by at (x ∷ xs) h = ((λ e. h x e (inl refl)), apart-by at xs (λ y e g. h y e (inr g)))

-- a chain without the key stays
pub chain-other : (m : Store) (b a : ℕ) (at : Option ℕ) (side : ℕ) (to : Option ℕ) (prev : Option ℕ) (ks : List ℕ) (next : Option ℕ) → IsApart at ks → Chain m b a prev ks next → Chain (store_with_link m at side to) b a prev ks next
chain-other m b a at side to prev [] next d h = tt
chain-other m b a at side to prev (k ∷ ks) next d h =
    (linked-other m b a at side to k prev (head_or next ks) d.0 h.0, chain-other m b a at side to (Some k) ks next d.1 h.1)

last-outside : (j : ℕ) (js : List ℕ) (k : ℕ) → IsOutside k (j ∷ js) → last_or (Some j) js ≢ Some k
last-outside j [] k u e = u.0 (cc)
last-outside j (i ∷ is) k u e = last-outside i is k u.1 e

-- the last link of a chain is set
pub chain-end : (m : Store) (b a : ℕ) (to prev : Option ℕ) (ks : List ℕ) (next : Option ℕ) → b ≢ a → a < 4 → AreDistinct ks → IsApart prev ks → Chain m b a prev ks next → Chain (store_with_link m (last_or prev ks) a to) b a prev ks to
chain-end m b a to prev [] next d l u p h = tt
chain-end m b a to prev (k ∷ []) next d l u p h = (linked-after m b a to k prev next d l h.0, tt)
chain-end m b a to prev (k ∷ j ∷ js) next d l u p h =
    (linked-other m b a (last_or (Some j) js) a to k prev (Some j) (last-outside j js k u.0) h.0, chain-end m b a to (Some k) (j ∷ js) next d l u.1 (apart-from k (j ∷ js) u.0) h.1)

-- the first link of a chain is set
pub chain-begin : (m : Store) (b a : ℕ) (to prev : Option ℕ) (ks : List ℕ) (next : Option ℕ) → a ≢ b → b < 4 → AreDistinct ks → IsApart next ks → Chain m b a prev ks next → Chain (store_with_link m (head_or next ks) b to) b a to ks next
chain-begin m b a to prev [] next d l u p h = tt
chain-begin m b a to prev (k ∷ ks) next d l u p h =
    (linked-before m b a to k prev (head_or next ks) d l h.0, chain-other m b a (Some k) b to (Some k) ks next (apart-from k ks u.0) h.1)

-- the last key of the first part isn't in the second
pub last-apart : (prev : Option ℕ) (xs ys : List ℕ) → IsApart prev ys → AreDistinct (xs ++ ys) → IsApart (last_or prev xs) ys
last-apart prev [] ys p h = p
last-apart prev (x ∷ xs) ys p h = last-apart (Some x) xs ys (apart-from x ys (outside-parts x xs ys h.0).1) h.1

-- the first key of the second part isn't in the first
pub first-apart : (xs ys : List ℕ) → AreDistinct (xs ++ ys) → IsApart (head_or None ys) xs
first-apart [] ys h = tt
first-apart (x ∷ xs) [] h = apart-none (x ∷ xs)
first-apart (x ∷ xs) (y ∷ ys) h = ((λ e. (outside-parts x xs (y ∷ ys) h.0).1.0 (let f : y ≡ x = cc in f)), first-apart xs (y ∷ ys) h.1)

-- a link on another side leaves a chain, also at its own keys
linked-side : (m : Store) (b a : ℕ) (at : Option ℕ) (side : ℕ) (to : Option ℕ) (k : ℕ) (prev next : Option ℕ) → b ≢ side → a ≢ side → IsLinked m b a k prev next → IsLinked (store_with_link m at side to) b a k prev next
linked-side m b a at side to k prev next d e h = go (is_key at k) (ap (slot_with_link at side to k) h.held)
  where
    go : (c : Bool) → slot_with_link at side to k (m k) ≡ Some (if c then with_link h.node side to else h.node) → IsLinked (store_with_link m at side to) b a k prev next
    go true s = record {
      node = with_link h.node side to;
      held = s;
      four = rw length-set h.four;
      before = get_or-set_other h.node.links side b to None d ∙ h.before;
      after = get_or-set_other h.node.links side a to None e ∙ h.after;
    }
    go false s = record { node = h.node; held = s; four = h.four; before = h.before; after = h.after }

pub chain-side : (m : Store) (b a : ℕ) (at : Option ℕ) (side : ℕ) (to : Option ℕ) (prev : Option ℕ) (ks : List ℕ) (next : Option ℕ) → b ≢ side → a ≢ side → Chain m b a prev ks next → Chain (store_with_link m at side to) b a prev ks next
chain-side m b a at side to prev [] next d e h = tt
chain-side m b a at side to prev (k ∷ ks) next d e h = (linked-side m b a at side to k prev (head_or next ks) d e h.0, chain-side m b a at side to (Some k) ks next d e h.1)

-- a chain in one store is one in another that holds the same
pub chain-same : (m m' : Store) (b a : ℕ) (prev : Option ℕ) (ks : List ℕ) (next : Option ℕ) → ((k : ℕ) → m' k ≡ m k) → Chain m b a prev ks next → Chain m' b a prev ks next
chain-same m m' b a prev [] next e h = tt
chain-same m m' b a prev (k ∷ ks) next e h =
    (record { node = h.0.node; held = e k ∙ h.0.held; four = h.0.four; before = h.0.before; after = h.0.after }, chain-same m m' b a (Some k) ks next e h.1)

-- a chain without a key stays when the key is removed, and when it is put in
pub chain-removed : (m : Store) (b a k : ℕ) (prev : Option ℕ) (ks : List ℕ) (next : Option ℕ) → IsOutside k ks → Chain m b a prev ks next → Chain (store_without m k) b a prev ks next
chain-removed m b a k prev [] next u h = tt
chain-removed m b a k prev (x ∷ xs) next u h =
    (record { node = h.0.node; held = removed-other m k x u.0 ∙ h.0.held; four = h.0.four; before = h.0.before; after = h.0.after }, chain-removed m b a k (Some x) xs next u.1 h.1)

pub chain-added : (m : Store) (b a k : ℕ) (node : Node) (prev : Option ℕ) (ks : List ℕ) (next : Option ℕ) → IsOutside k ks → Chain m b a prev ks next → Chain (store_with m k node) b a prev ks next
chain-added m b a k node prev [] next u h = tt
chain-added m b a k node prev (x ∷ xs) next u h =
    (record { node = h.0.node; held = added-other m k node x u.0 ∙ h.0.held; four = h.0.four; before = h.0.before; after = h.0.after }, chain-added m b a k node (Some x) xs next u.1 h.1)

-- a key was taken out of its chain: the links that go past it join the two sides
pub chain-unlinked : (m : Store) (b a : ℕ) (xs : List ℕ) (k : ℕ) (ys : List ℕ) → b ≢ a → b < 4 → a < 4 → AreDistinct (xs ++ k ∷ ys) → Chain m b a None (xs ++ k ∷ ys) None
    → Chain (store_with_link (store_with_link m (last_or None xs) a (head_or None ys)) (head_or None ys) b (last_or None xs)) b a None (xs ++ ys) None
chain-unlinked m b a xs k ys d lb la u h =
    let p : Option ℕ = last_or None xs in
    let q : Option ℕ = head_or None ys in
    let parts = chain-split m b a None xs (k ∷ ys) None h in
    let us = distinct-parts xs (k ∷ ys) u in
    let v : AreDistinct (xs ++ ys) = distinct-without xs k ys u in
    let m1 : Store = store_with_link m p a q in
    let left1 : Chain m1 b a None xs q = chain-end m b a q None xs (Some k) d la us.0 (apart-none xs) parts.0 in
    let right1 : Chain m1 b a (Some k) ys None = chain-other m b a p a q (Some k) ys None (last-apart None xs ys (apart-none ys) v) parts.1.1 in
    let left2 : Chain (store_with_link m1 q b p) b a None xs q = chain-other m1 b a q b p None xs q (first-apart xs ys v) left1 in
    let right2 : Chain (store_with_link m1 q b p) b a p ys None = chain-begin m1 b a p (Some k) ys None (λ e. d (sym e)) lb us.1.1 (apart-none ys) right1 in
    chain-join (store_with_link m1 q b p) b a None xs ys None left2 right2

head-apart : (ks : List ℕ) (k : ℕ) → IsOutside k ks → head_or None ks ≢ Some k
head-apart [] k u e = cc
head-apart (x ∷ xs) k u e = u.0 (cc)

last-apart-key : (prev : Option ℕ) (ks : List ℕ) (k : ℕ) → prev ≢ Some k → IsOutside k ks → last_or prev ks ≢ Some k
last-apart-key prev [] k d u e = d e
last-apart-key prev (x ∷ xs) k d u e = last-apart-key (Some x) xs k (λ f. u.0 (let g : x ≡ k = cc in g)) u.1 e

-- a node was put into a chain
pub chain-inserted : (m : Store) (b a : ℕ) (xs : List ℕ) (k : ℕ) (ys : List ℕ) (node : Node) → b ≢ a → b < 4 → a < 4 → 4 ≤ length node.links → IsOutside k (xs ++ ys) → AreDistinct (xs ++ ys)
    → link_of node b ≡ last_or None xs → link_of node a ≡ head_or None ys → Chain m b a None (xs ++ ys) None
    → Chain (store_with_link (store_with_link (store_with m k node) (last_or None xs) a (Some k)) (head_or None ys) b (Some k)) b a None (xs ++ k ∷ ys) None
chain-inserted m b a xs k ys node d lb la four o u before after h =
    let p : Option ℕ = last_or None xs in
    let q : Option ℕ = head_or None ys in
    let m0 : Store = store_with m k node in
    let parts = chain-split m0 b a None xs ys None (chain-added m b a k node None (xs ++ ys) None o h) in
    let us = distinct-parts xs ys u in
    let os = outside-parts k xs ys o in
    let here : IsLinked m0 b a k p q = record { node = node; held = added-key m k node; four = four; before = before; after = after } in
    let m1 : Store = store_with_link m0 p a (Some k) in
    let left1 : Chain m1 b a None xs (Some k) = chain-end m0 b a (Some k) None xs q d la us.0 (apart-none xs) parts.0 in
    let right1 : Chain m1 b a p ys None = chain-other m0 b a p a (Some k) p ys None (last-apart None xs ys (apart-none ys) u) parts.1 in
    let here1 : IsLinked m1 b a k p q = linked-other m0 b a p a (Some k) k p q (last-apart-key None xs k (λ e. cc) os.0) here in
    let left2 : Chain (store_with_link m1 q b (Some k)) b a None xs (Some k) = chain-other m1 b a q b (Some k) None xs (Some k) (first-apart xs ys u) left1 in
    let right2 : Chain (store_with_link m1 q b (Some k)) b a (Some k) ys None = chain-begin m1 b a (Some k) p ys None (λ e. d (sym e)) lb us.1 (apart-none ys) right1 in
    let here2 : IsLinked (store_with_link m1 q b (Some k)) b a k p q = linked-other m1 b a q b (Some k) k p q (head-apart ys k os.1) here1 in
    chain-join (store_with_link m1 q b (Some k)) b a None xs (k ∷ ys) None left2 (here2, right2)

-- the walk along a chain finds its keys
pub walk-chain : (n : ℕ) (m : Store) (b a : ℕ) (prev : Option ℕ) (ks : List ℕ) → length ks ≤ n → Chain m b a prev ks None → walk n m a (head_or None ks) ≡ ks
walk-chain zero m b a prev [] l h = refl
walk-chain zero m b a prev (k ∷ ks) l h = absurd (omega arith)
walk-chain (suc n) m b a prev [] l h = refl
walk-chain (suc n) m b a prev (k ∷ ks) l h =
    let step : next_of (m k) a ≡ head_or None ks = ap (λ s. next_of s a) h.0.held ∙ h.0.after in
    ap (λ o. k ∷ walk n m a o) step ∙ ap (λ l. k ∷ l) (walk-chain n m b a (Some k) ks (omega arith) h.1)

pub last_or-reverse : (next : Option ℕ) (ks : List ℕ) → last_or next (reverse ks) ≡ head_or next ks
last_or-reverse next [] = refl
last_or-reverse next (k ∷ ks) = ap (last_or next) (reverse-append (k ∷ []) ks) ∙ last_or-append next (reverse ks) k []

-- the chain from its end on
pub chain-reverse : (m : Store) (b a : ℕ) (prev : Option ℕ) (ks : List ℕ) (next : Option ℕ) → Chain m b a prev ks next → Chain m a b next (reverse ks) prev
chain-reverse m b a prev [] next h = tt
chain-reverse m b a prev (k ∷ ks) next h =
    let back : IsLinked m a b k (last_or next (reverse ks)) prev =
    record { node = h.0.node; held = h.0.held; four = h.0.four; before = h.0.after ∙ sym (last_or-reverse next ks); after = h.0.before } in
    subst (λ zs. Chain m a b next zs prev) (sym (reverse-append (k ∷ []) ks))
    (chain-join m a b next (reverse ks) (k ∷ []) prev (chain-reverse m b a (Some k) ks next h.1) (back, tt))
