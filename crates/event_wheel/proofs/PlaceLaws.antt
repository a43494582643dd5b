-- The walk along a bucket's chain to the place of a time.
use Rattle.std.proofs.Common.{◌≡◌, ℕ, ◌+◌, ◌<◌, ◌≤◌, List, [], ◌∷◌, ◌++◌, length, refl, sym, ◌∙◌, ap, subst, arith, inl, inr, IsSome}
use Rattle.std.proofs.lemmas.Bool.{cases_lt}
use Rattle.std.proofs.lemmas.List.{length-append}
use Rattle.std.specs.declared.option.Option.{Option}
use Rattle.std.specs.declared.option.Option.TheVariants.{Some, None}
use Rattle.sg_logic.specs.declared.values.Value.{Value}
use Rattle.event_wheel.specs.declared.nodes.Node.{Node}
use Rattle.event_wheel.specs.Slots.{Held, node_at, link_of}
use Rattle.event_wheel.specs.Keys.{Has, AreDistinct}
use Rattle.event_wheel.specs.Links.{Store}
use Rattle.event_wheel.specs.Chains.{head_or, last_or, Chain, walk}
use Rattle.event_wheel.specs.Families.{pair_of, pairs_at, IsBefore, IsAfter, IsOrdered}
use Rattle.event_wheel.specs.Places.{IsSorted, IsBucketChain, IsBetween, IsEarlier, IsPlace, IsLaterNode, IsLater, IsBeyond}
use Rattle.event_wheel.proofs.LinkLaws.{is_some-of}
use Rattle.event_wheel.proofs.KeyLaws.{has-middle, has-split, distinct-parts, last_or-append, last_or-some, length_below}
use Rattle.event_wheel.proofs.ChainLaws.{chain-split, walk-chain}
use Rattle.event_wheel.proofs.OrderLaws.{pairs-append, ordered-parts, after-last, before-first, before-has}
use Rattle.event_wheel.proofs.TableLaws.{slot_below}

-- a list by its last key
pub last_split : (ks : List ℕ) (k : ℕ) → last_or None ks ≡ Some k → (front : List ℕ) × (ks ≡ front ++ k ∷ [])
last_split [] k e = cc
last_split (x ∷ []) k e = ([], (let q : x ≡ k = cc in ap (λ y. y ∷ []) q))
last_split (x ∷ y ∷ ys) k e = let r = last_split (y ∷ ys) k e in (x ∷ r.0, ap (λ zs. x ∷ zs) r.1)

pub last_none : (ks : List ℕ) → last_or None ks ≡ None → ks ≡ []
last_none [] e = refl
last_none (x ∷ xs) e = let s = last_or-some x xs in (let y : None ≡ Some s.0 = sym e ∙ s.1 in cc)

-- the node at a key of a chain
held_in : (m : Store) (b a : ℕ) (prev : Option ℕ) (ks : List ℕ) (next : Option ℕ) (k : ℕ) → Chain m b a prev ks next → Has k ks → (node : Node) × (m k ≡ Some node)
held_in m b a prev [] next k h g = absurd g
held_in m b a prev (x ∷ xs) next k h (inl e) = (h.0.node, ap m (sym e) ∙ h.0.held)
held_in m b a prev (x ∷ xs) next k h (inr g) = held_in m b a (Some x) xs next k h.1 g

again : (xs : List ℕ) (k : ℕ) (ys : List ℕ) → (xs ++ k ∷ []) ++ ys ≡ xs ++ k ∷ ys
again [] k ys = refl
again (x ∷ xs) k ys = ap (λ zs. x ∷ zs) (again xs k ys)

nil : (ks : List ℕ) → ks ++ [] ≡ ks
nil [] = refl
nil (k ∷ ks) = ap (λ xs. k ∷ xs) (nil ks)

-- the key before a place
pub record AtKey (m : Store) (key : ℕ) (keys back : List ℕ) : Type 0 where
  pub front : List ℕ
  pub whole : keys ≡ (front ++ key ∷ []) ++ back
  pub node : Node
  pub held : m key ≡ Some node
  pub before : link_of node 0 ≡ last_or None front
  pub after : link_of node 1 ≡ head_or None back

at_key : (m : Store) (key : ℕ) (keys xs back : List ℕ) → Chain m 0 1 None keys None → keys ≡ xs ++ back → last_or None xs ≡ Some key → AtKey m key keys back
at_key m key keys xs back c e l =
    let s = last_split xs key l in
    let whole : keys ≡ (s.0 ++ key ∷ []) ++ back = e ∙ ap (λ zs. zs ++ back) s.1 in
    let parts = chain-split m 0 1 None (s.0 ++ key ∷ []) back None (subst (λ ks. Chain m 0 1 None ks None) whole c) in
    let here = (chain-split m 0 1 None s.0 (key ∷ []) (head_or None back) parts.0).1.0 in
    record { front = s.0; whole = whole; node = here.node; held = here.held; before = here.before; after = here.after }

-- a key of the chain, and what comes after it
between_at : (m : Store) (keys : List ℕ) (key : ℕ) (node : Node) → IsSorted m keys → Has key keys → m key ≡ Some node → (front : List ℕ) × (back : List ℕ) × (keys ≡ (front ++ key ∷ []) ++ back) × (link_of node 1 ≡ head_or None back)
between_at m keys key node h has at =
    let s = has-split key keys has in
    let whole : keys ≡ (s.0 ++ key ∷ []) ++ s.1 = s.2 ∙ sym (again s.0 key s.1) in
    let k = at_key m key keys (s.0 ++ key ∷ []) s.1 h.chain whole (last_or-append None s.0 key []) in
    let same : k.node ≡ node = (let y : Some k.node ≡ Some node = sym k.held ∙ at in cc) in
    (s.0, s.1, whole, ap (λ (x : Node). link_of x 1) (sym same) ∙ k.after)

-- behind a node that isn't later
behind : (m : Store) (keys : List ℕ) (key : ℕ) (node : Node) (time : ℕ) → IsSorted m keys → Has key keys → m key ≡ Some node → node.time ≤ time → IsEarlier m keys time (Some key) (link_of node 1)
behind m keys key node time h has at l =
    let k = between_at m keys key node h has at in
    let xs : List (ℕ × Value) = pairs_at m k.0 in
    let pairs : pairs_at m (k.0 ++ key ∷ []) ≡ xs ++ pair_of (m key) ∷ [] = pairs-append m k.0 (key ∷ []) in
    let order : IsOrdered (λ s t. s ≤ t) (xs ++ pair_of (m key) ∷ []) =
    subst (IsOrdered (λ s t. s ≤ t)) pairs (ordered-parts (λ s t. s ≤ t) (pairs_at m (k.0 ++ key ∷ [])) (pairs_at m k.1) (subst (IsOrdered (λ s t. s ≤ t)) (ap (pairs_at m) k.2 ∙ pairs-append m (k.0 ++ key ∷ []) k.1) h.ordered)).0 in
    let time_at : (pair_of (m key)).0 ≡ node.time = ap (λ s. (pair_of s).0) at in
    record {
      between = record { sorted = h; front = k.0 ++ key ∷ []; back = k.1; whole = k.2; before_is = sym (last_or-append None k.0 key []); after_is = k.3 };
      earlier = subst (IsAfter (λ s t. s ≤ t) time) (sym pairs) (after-last xs (pair_of (m key)) time order (omega arith));
    }

-- behind the last node of its time
pub beyond_earlier : (m : Store) (keys : List ℕ) (key : ℕ) (node : Node) (time : ℕ) (before after : Option ℕ) → IsSorted m keys → Has key keys → m key ≡ Some node → node.time ≤ time → IsBeyond m key node before after → IsEarlier m keys time before after
beyond_earlier m keys key node time before after h has at l (inl r) =
    subst (λ b. IsEarlier m keys time b after) (sym r.0) (subst (IsEarlier m keys time (Some key)) (sym r.1) (behind m keys key node time h has at l))
beyond_earlier m keys key node time before after h has at l (inr r) =
    let s = r.same in
    let last : Has r.key keys = h.closed key r.key node r.node has at r.held r.same in
    subst (λ b. IsEarlier m keys time b after) (sym r.is) (subst (IsEarlier m keys time (Some r.key)) (sym r.next) (behind m keys r.key r.node time h last r.held (omega arith)))

-- the start
pub front_earlier : (m : Store) (keys : List ℕ) (near first : Option ℕ) (time : ℕ) → IsBucketChain m keys near first → IsEarlier m keys time None first
front_earlier m keys near first time h = record { between = record { sorted = h.sorted; front = []; back = keys; whole = refl; before_is = refl; after_is = h.begins }; earlier = tt }

pub near_held : (m : Store) (keys : List ℕ) (near first : Option ℕ) (key : ℕ) → IsBucketChain m keys near first → near ≡ Some key → IsSome (m key)
near_held m keys near first key h e = let s = held_in m 0 1 None keys None key h.sorted.chain (h.has key e) in is_some-of (m key) s.0 s.1

pub near_earlier : (m : Store) (keys : List ℕ) (near first : Option ℕ) (key : ℕ) (node : Node) (time : ℕ) (before after : Option ℕ) → IsBucketChain m keys near first → near ≡ Some key → m key ≡ Some node → node.time ≤ time → IsBeyond m key node before after
    → IsEarlier m keys time before after
near_earlier m keys near first key node time before after h e at l r = beyond_earlier m keys key node time before after h.sorted (h.has key e) at l r

-- the key after a place
head_split : (ks : List ℕ) (k : ℕ) → head_or None ks ≡ Some k → (back : List ℕ) × (ks ≡ k ∷ back)
head_split [] k e = cc
head_split (x ∷ xs) k e = (xs, (let q : x ≡ k = cc in ap (λ y. y ∷ xs) q))

pub after_held : (m : Store) (keys : List ℕ) (before after : Option ℕ) (key : ℕ) → IsBetween m keys before after → after ≡ Some key → IsSome (m key)
after_held m keys before after key h e =
    let r = head_split h.back key (sym h.after_is ∙ e) in
    let s = held_in m 0 1 None keys None key h.sorted.chain (subst (Has key) (sym (h.whole ∙ ap (λ ys. h.front ++ ys) r.1)) (has-middle key h.front r.0)) in
    is_some-of (m key) s.0 s.1

-- the search
pub record IsPassing (m : Store) (near first : Option ℕ) (time : ℕ) (before after : Option ℕ) : Type 0 where
  pub each : (keys : List ℕ) → IsBucketChain m keys near first → IsEarlier m keys time before after

after_has : (m : Store) (keys : List ℕ) (before after : Option ℕ) (key : ℕ) → IsBetween m keys before after → after ≡ Some key → Has key keys
after_has m keys before after key h e =
    let r = head_split h.back key (sym h.after_is ∙ e) in
    subst (Has key) (sym (h.whole ∙ ap (λ ys. h.front ++ ys) r.1)) (has-middle key h.front r.0)

pub passing_step : (m : Store) (near first : Option ℕ) (time : ℕ) (before after : Option ℕ) (key : ℕ) (node : Node) (next_before next_after : Option ℕ) → IsPassing m near first time before after → after ≡ Some key → m key ≡ Some node → node.time ≤ time
    → IsBeyond m key node next_before next_after → IsPassing m near first time next_before next_after
passing_step m near first time before after key node next_before next_after h e at l r =
    record { each = λ keys c. let g = h.each keys c in beyond_earlier m keys key node time next_before next_after g.between.sorted (after_has m keys before after key g.between e) at l r }

-- the node there is later, or there is none: the place was found
pub place_found : (m : Store) (near first : Option ℕ) (time : ℕ) (before after : Option ℕ) (key : ℕ) (node : Node) → IsPassing m near first time before after → after ≡ Some key → m key ≡ Some node → time ≤ node.time
    → (keys : List ℕ) → IsBucketChain m keys near first → IsPlace m keys time before after
place_found m near first time before after key node p e at l keys c =
    let g = p.each keys c in
    let h = g.between in
    let r = head_split h.back key (sym h.after_is ∙ e) in
    let time_at : (pair_of (m key)).0 ≡ node.time = ap (λ s. (pair_of s).0) at in
    let order : IsOrdered (λ s t. s ≤ t) (pairs_at m (key ∷ r.0)) =
    (ordered-parts (λ s t. s ≤ t) (pairs_at m h.front) (pairs_at m (key ∷ r.0)) (subst (IsOrdered (λ s t. s ≤ t)) (ap (pairs_at m) (h.whole ∙ ap (λ ys. h.front ++ ys) r.1) ∙ pairs-append m h.front (key ∷ r.0)) h.sorted.ordered)).1 in
    record {
      front = h.front;
      back = h.back;
      whole = h.whole;
      before_is = h.before_is;
      after_is = h.after_is;
      earlier = g.earlier;
      later = subst (λ ys. IsBefore (λ s t. s ≤ t) time (pairs_at m ys)) (sym r.1) (omega arith, before-first time (pair_of (m key)) (pairs_at m r.0) order.0 (omega arith));
    }

pub place_end : (m : Store) (near first : Option ℕ) (time : ℕ) (before after : Option ℕ) → IsPassing m near first time before after → after ≡ None → (keys : List ℕ) → IsBucketChain m keys near first → IsPlace m keys time before after
place_end m near first time before after p e keys c =
    let g = p.each keys c in
    let h = g.between in
    record {
      front = h.front;
      back = h.back;
      whole = h.whole;
      before_is = h.before_is;
      after_is = h.after_is;
      earlier = g.earlier;
      later = at h.back (sym h.after_is ∙ e);
    }
  where
    at : (ys : List ℕ) → head_or None ys ≡ None → IsBefore (λ s t. s ≤ t) time (pairs_at m ys)
    at [] g = tt
    at (y ∷ ys) g = cc

-- how far it is to the end
walk_on : (held : Held) (keys front back : List ℕ) → Chain (node_at held) 0 1 None keys None → AreDistinct keys → keys ≡ front ++ back → length (walk (length held.slots) (node_at held) 1 (head_or None back)) ≡ length back
walk_on held keys front back c u e =
    let m : Store = node_at held in
    let parts = chain-split m 0 1 None front back None (subst (λ ks. Chain m 0 1 None ks None) e c) in
    let few : length back ≤ length held.slots = length_below back (length held.slots) (distinct-parts front back (subst AreDistinct e u)).1 (λ k h. let s = held_in m 0 1 (last_or None front) back None k parts.1 h in slot_below held.slots k s.0 s.1) in
    ap (length {A = ℕ}) (walk-chain (length held.slots) m 0 1 (last_or None front) back few parts.1)

-- of two ends of a list the longer one ends with the other
longer : (xs ys us vs : List ℕ) → xs ++ ys ≡ us ++ vs → length ys ≤ length vs → (mid : List ℕ) × (vs ≡ mid ++ ys)
longer xs ys [] vs e l = (xs, sym e)
longer [] ys (u ∷ us) vs e l =
    let n : length ys ≡ length (u ∷ us ++ vs) = ap (length {A = ℕ}) e in
    let s : length (us ++ vs) ≡ length us + length vs = length-append us vs in
    absurd (omega arith)
longer (x ∷ xs) ys (u ∷ us) vs e l = longer xs ys us vs (let t : xs ++ ys ≡ us ++ vs = cc in t) l

-- behind the last node of a time is less of the chain
shorter : (m : Store) (key : ℕ) (node : Node) (front back xs ys keys : List ℕ) → m key ≡ Some node → IsOrdered (λ s t. s ≤ t) (pairs_at m ys) → keys ≡ front ++ key ∷ back → keys ≡ xs ++ ys → IsLater m (head_or None ys) node.time → length ys < length (key ∷ back)
shorter m key node front back xs ys keys at o e g later =
    elim (cases_lt (length ys) (length (key ∷ back))) [
      | inl l ↦ l
      | inr l ↦ (let r = longer front (key ∷ back) xs ys (sym e ∙ g) l in
          absurd (none ys (subst (Has key) (sym r.1) (has-middle key r.0 back)) o later))
    ]
  where
    is_later : (slot : Option Node) → IsLaterNode slot node.time → node.time < (pair_of slot).0
    is_later None h = absurd h
    is_later (Some n) h = h

    none : (zs : List ℕ) → Has key zs → IsOrdered (λ s t. s ≤ t) (pairs_at m zs) → IsLater m (head_or None zs) node.time → ⊥
    none [] h o later = h
    none (z ∷ zs) h o later =
        let t : (pair_of (m key)).0 ≡ node.time = ap (λ s. (pair_of s).0) at in
        let u : node.time < (pair_of (m z)).0 = is_later (m z) later in
        elim h [
          | inl here ↦ (let q : (pair_of (m z)).0 ≡ (pair_of (m key)).0 = ap (λ k. (pair_of (m k)).0) here in omega arith)
          | inr rest ↦ (let q : (pair_of (m z)).0 ≤ (pair_of (m key)).0 = before-has (λ s t. s ≤ t) (pair_of (m z)).0 m zs key o.0 rest in omega arith)
        ]

pub passing_falls : (held : Held) (keys : List ℕ) (before after : Option ℕ) (key : ℕ) (node : Node) (next_before next_after : Option ℕ) → IsBetween (node_at held) keys before after → after ≡ Some key → node_at held key ≡ Some node
    → IsBeyond (node_at held) key node next_before next_after → length (walk (length held.slots) (node_at held) 1 next_after) < length (walk (length held.slots) (node_at held) 1 after)
passing_falls held keys before after key node next_before next_after h e at beyond =
    let m : Store = node_at held in
    let s = h.sorted in
    let r = head_split h.back key (sym h.after_is ∙ e) in
    let whole : keys ≡ h.front ++ key ∷ r.0 = h.whole ∙ ap (λ ys. h.front ++ ys) r.1 in
    let now : length (walk (length held.slots) m 1 after) ≡ length h.back = ap (λ o. length (walk (length held.slots) m 1 o)) h.after_is ∙ walk_on held keys h.front h.back s.chain s.distinct h.whole in
    let more : length h.back ≡ length (key ∷ r.0) = ap (length {A = ℕ}) r.1 in
    elim beyond [
      | inl one ↦ (let split : keys ≡ (h.front ++ key ∷ []) ++ r.0 = whole ∙ sym (again h.front key r.0) in
          let k = at_key m key keys (h.front ++ key ∷ []) r.0 s.chain split (last_or-append None h.front key []) in
          let same : k.node ≡ node = (let y : Some k.node ≡ Some node = sym k.held ∙ at in cc) in
          let later : length (walk (length held.slots) m 1 next_after) ≡ length r.0 =
          ap (λ o. length (walk (length held.slots) m 1 o)) (one.1 ∙ (ap (λ (x : Node). link_of x 1) (sym same) ∙ k.after)) ∙ walk_on held keys (h.front ++ key ∷ []) r.0 s.chain s.distinct split in
          omega arith)
      | inr run ↦ (let k = between_at m keys run.key run.node s (s.closed key run.key node run.node (after_has m keys before after key h e) at run.held run.same) run.held in
          let next : next_after ≡ head_or None k.1 = run.next ∙ k.3 in
          let later : length (walk (length held.slots) m 1 next_after) ≡ length k.1 = ap (λ o. length (walk (length held.slots) m 1 o)) next ∙ walk_on held keys (k.0 ++ run.key ∷ []) k.1 s.chain s.distinct k.2 in
          let order : IsOrdered (λ s t. s ≤ t) (pairs_at m k.1) =
          (ordered-parts (λ s t. s ≤ t) (pairs_at m (k.0 ++ run.key ∷ [])) (pairs_at m k.1) (subst (IsOrdered (λ s t. s ≤ t)) (ap (pairs_at m) k.2 ∙ pairs-append m (k.0 ++ run.key ∷ []) k.1) s.ordered)).1 in
          let less : length k.1 < length (key ∷ r.0) = shorter m key node h.front r.0 (k.0 ++ run.key ∷ []) k.1 keys at order whole k.2 (subst (λ o. IsLater m o node.time) next run.later) in
          omega arith)
    ]
