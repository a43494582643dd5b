-- A family of chains after a link was set, and after a node was taken out or put in.
use Rattle.std.proofs.Common.{◌≡◌, ◌≢◌, ℕ, ◌<◌, ◌≤◌, ◌==◌, true, false, if◌then◌else◌, List, ◌∷◌, ◌++◌, ◌⊎◌, length, IsSome, sym, ◌∙◌, ap, subst, arith, inl, inr}
use Rattle.std.proofs.lemmas.Bool.Decides.{nat_tests}
use Rattle.std.proofs.lemmas.Bool.{cases_eq}
use Rattle.std.specs.declared.option.Option.{Option}
use Rattle.std.specs.declared.option.Option.TheVariants.{Some, None}
use Rattle.event_wheel.specs.declared.nodes.Node.{Node}
use Rattle.event_wheel.specs.Slots.{link_of}
use Rattle.event_wheel.specs.Keys.{Has, IsOutside, AreDistinct}
use Rattle.event_wheel.specs.Links.{Store, store_with_link, store_without, store_with}
use Rattle.event_wheel.specs.Chains.{head_or, last_or, Chain}
use Rattle.event_wheel.specs.Families.{IsHome, IsFamily}
use Rattle.event_wheel.proofs.LinkLaws.{linked-forth, linked-back, removed-other, removed-key, added-other, added-key, is_some-of}
use Rattle.event_wheel.proofs.KeyLaws.{has-split, has-left, has-right, has-without, has-other, has-middle, outside-not, not-outside, middle-outside, distinct-without, distinct-with, last-in, head-has}
use Rattle.event_wheel.proofs.ChainLaws.{IsApart, apart-by, chain-split, chain-side, chain-same, chain-other, chain-removed, chain-added, chain-unlinked, chain-inserted}

-- the chains with another list of keys in one place
abbrev pub with_chain : (ℕ → List ℕ) → ℕ → List ℕ → ℕ → List ℕ
with_chain chains i keys = λ j. if j == i then keys else chains j

pub with-same : (chains : ℕ → List ℕ) (i : ℕ) (keys : List ℕ) (j : ℕ) → j ≡ i → with_chain chains i keys j ≡ keys
with-same chains i keys j e = let t : (j == i) ≡ true = grind (arith, nat_tests) in ap (λ c. if c then keys else chains j) t

pub with-other : (chains : ℕ → List ℕ) (i : ℕ) (keys : List ℕ) (j : ℕ) → j ≢ i → with_chain chains i keys j ≡ chains j
with-other chains i keys j d = let t : (j == i) ≡ false = grind (arith, nat_tests) in ap (λ c. if c then keys else chains j) t

-- a family in one store is one in another that holds the same
pub family-same : (m m' : Store) (b a : ℕ) (home : Node → ℕ) (n : ℕ) (chains : ℕ → List ℕ) → ((k : ℕ) → m' k ≡ m k) → IsFamily m b a home n chains → IsFamily m' b a home n chains
family-same m m' b a home n chains s f =
    record {
      chain = λ i l. chain-same m m' b a None (chains i) None s (f.chain i l);
      distinct = f.distinct;
      sound = λ i k l h. let t = f.sound i k l h in (t.0, s k ∙ t.1, t.2);
      complete = λ k node e. f.complete k node (sym (s k) ∙ e);
    }

-- a family whose sides are others stays when a link is set
pub family-side : (m : Store) (b a : ℕ) (home : Node → ℕ) (n : ℕ) (chains : ℕ → List ℕ) (at : Option ℕ) (side : ℕ) (to : Option ℕ) → IsHome home → b ≢ side → a ≢ side → IsFamily m b a home n chains → IsFamily (store_with_link m at side to) b a home n chains
family-side m b a home n chains at side to hm d e f =
    record {
      chain = λ i l. chain-side m b a at side to None (chains i) None d e (f.chain i l);
      distinct = f.distinct;
      sound = λ i k l h. let s = f.sound i k l h in let r = linked-forth m home hm at side to k s.0 s.1 in (r.0, r.1, r.2.number ∙ s.2);
      complete = λ k after g. let o = linked-back at side to k (m k) after g in let r = linked-forth m home hm at side to k o.0 o.1 in
          let same : r.0 ≡ after = (let x : Some r.0 ≡ Some after = sym r.1 ∙ g in cc) in
          let c = f.complete k o.0 o.1 in
          let number : home o.0 ≡ home after = sym r.2.number ∙ ap home same in
          subst (λ i. (i < n) × Has k (chains i)) number c;
    }

-- a key stands in one chain alone
pub one-chain : (m : Store) (b a : ℕ) (home : Node → ℕ) (n : ℕ) (chains : ℕ → List ℕ) → IsFamily m b a home n chains → (i j k : ℕ) → i < n → j < n → Has k (chains i) → Has k (chains j) → i ≡ j
one-chain m b a home n chains f i j k l l' h h' =
    let s = f.sound i k l h in
    let t = f.sound j k l' h' in
    let same : s.0 ≡ t.0 = (let x : Some s.0 ≡ Some t.0 = sym s.1 ∙ t.1 in cc) in
    sym s.2 ∙ (ap home same ∙ t.2)

-- a key was taken out of its chain, by the links past it, and out of the store
pub family-taken : (m : Store) (b a : ℕ) (home : Node → ℕ) (n : ℕ) (chains : ℕ → List ℕ) (k i : ℕ) (xs ys : List ℕ) → IsHome home → b ≢ a → b < 4 → a < 4 → IsFamily m b a home n chains → i < n → chains i ≡ xs ++ k ∷ ys
    → IsFamily (store_without (store_with_link (store_with_link m (last_or None xs) a (head_or None ys)) (head_or None ys) b (last_or None xs)) k) b a home n (with_chain chains i (xs ++ ys))
family-taken m b a home n chains k i xs ys hm d lb la f l s =
    let p : Option ℕ = last_or None xs in
    let q : Option ℕ = head_or None ys in
    let m0 : Store = store_with_link m p a q in
    let m1 : Store = store_with_link m0 q b p in
    let here : Has k (chains i) = subst (Has k) (sym s) (has-middle k xs ys) in
    let u : AreDistinct (xs ++ k ∷ ys) = subst AreDistinct s (f.distinct i l) in
    let c : Chain m b a None (xs ++ k ∷ ys) None = subst (λ zs. Chain m b a None zs None) s (f.chain i l) in
    let mid : IsOutside k (xs ++ ys) = middle-outside k xs ys u in
    let p_in : (x : ℕ) → p ≡ Some x → Has x (chains i) = (λ x e. subst (Has x) (sym s) (has-left x xs (k ∷ ys) (last-in xs x e))) in
    let q_in : (x : ℕ) → q ≡ Some x → Has x (chains i) = (λ x e. subst (Has x) (sym s) (has-right x xs (k ∷ ys) (inr (head-has ys x e)))) in
    record {
      chain = λ j lj. elim (cases_eq j i) [
        | inl same ↦ subst (λ zs. Chain (store_without m1 k) b a None zs None) (sym (with-same chains i (xs ++ ys) j same)) (chain-removed m1 b a k None (xs ++ ys) None mid (chain-unlinked m b a xs k ys d lb la u c))
        | inr other ↦
            (let apart : (at : Option ℕ) → ((x : ℕ) → at ≡ Some x → Has x (chains i)) → IsApart at (chains j) = (λ at w. apart-by at (chains j) (λ x e h. other (one-chain m b a home n chains f j i x lj l h (w x e)))) in
            let out : IsOutside k (chains j) = outside-not k (chains j) (λ h. other (one-chain m b a home n chains f j i k lj l h here)) in
            subst (λ zs. Chain (store_without m1 k) b a None zs None) (sym (with-other chains i (xs ++ ys) j other))
            (chain-removed m1 b a k None (chains j) None out (chain-other m0 b a q b p None (chains j) None (apart q q_in) (chain-other m b a p a q None (chains j) None (apart p p_in) (f.chain j lj)))))
      ];
      distinct = λ j lj. elim (cases_eq j i) [
        | inl same ↦ subst AreDistinct (sym (with-same chains i (xs ++ ys) j same)) (distinct-without xs k ys u)
        | inr other ↦ subst AreDistinct (sym (with-other chains i (xs ++ ys) j other)) (f.distinct j lj)
      ];
      sound = λ j x lj h.
          (let old : Has x (chains j) × (x ≢ k) = elim (cases_eq j i) [
            | inl same ↦ (let g : Has x (xs ++ ys) = subst (Has x) (with-same chains i (xs ++ ys) j same) h in (subst (λ y. Has x (chains y)) (sym same) (subst (Has x) (sym s) (has-without x k xs ys g)), λ e. not-outside k (xs ++ ys) mid (subst (λ y. Has y (xs ++ ys)) e g)))
            | inr other ↦ (let g : Has x (chains j) = subst (Has x) (with-other chains i (xs ++ ys) j other) h in (g, λ e. other (one-chain m b a home n chains f j i k lj l (subst (λ y. Has y (chains j)) e g) here)))
          ] in
          let t = f.sound j x lj old.0 in
          let r0 = linked-forth m home hm p a q x t.0 t.1 in
          let r1 = linked-forth m0 home hm q b p x r0.0 r0.1 in
          (r1.0, removed-other m1 k x old.1 ∙ r1.1, r1.2.number ∙ (r0.2.number ∙ t.2)));
      complete = λ x after g.
          (let other_key : x ≢ k = removed-key m1 k x after g in
          let g1 : m1 x ≡ Some after = sym (removed-other m1 k x other_key) ∙ g in
          let o1 = linked-back q b p x (m0 x) after g1 in
          let o0 = linked-back p a q x (m x) o1.0 o1.1 in
          let r0 = linked-forth m home hm p a q x o0.0 o0.1 in
          let r1 = linked-forth m0 home hm q b p x r0.0 r0.1 in
          let same : r1.0 ≡ after = (let y : Some r1.0 ≡ Some after = sym r1.1 ∙ g1 in cc) in
          let number : home o0.0 ≡ home after = sym (r1.2.number ∙ r0.2.number) ∙ ap home same in
          let w = f.complete x o0.0 o0.1 in
          let has : Has x (with_chain chains i (xs ++ ys) (home o0.0)) = elim (cases_eq (home o0.0) i) [
            | inl hi ↦ subst (Has x) (sym (with-same chains i (xs ++ ys) (home o0.0) hi)) (has-other x k xs ys other_key (subst (Has x) s (subst (λ y. Has x (chains y)) hi w.1)))
            | inr ho ↦ subst (Has x) (sym (with-other chains i (xs ++ ys) (home o0.0) ho)) w.1
          ] in
          subst (λ y. (y < n) × Has x (with_chain chains i (xs ++ ys) y)) number (w.0, has));
    }

-- a node was put into its chain, by the links to it, and into the store
pub family-put : (m : Store) (b a : ℕ) (home : Node → ℕ) (n : ℕ) (chains : ℕ → List ℕ) (k : ℕ) (node : Node) (xs ys : List ℕ) → IsHome home → b ≢ a → b < 4 → a < 4 → 4 ≤ length node.links → IsFamily m b a home n chains
    → m k ≡ None → home node < n → chains (home node) ≡ xs ++ ys → link_of node b ≡ last_or None xs → link_of node a ≡ head_or None ys
    → IsFamily (store_with_link (store_with_link (store_with m k node) (last_or None xs) a (Some k)) (head_or None ys) b (Some k)) b a home n (with_chain chains (home node) (xs ++ k ∷ ys))
family-put m b a home n chains k node xs ys hm d lb la four f free l s before after =
    let i : ℕ = home node in
    let p : Option ℕ = last_or None xs in
    let q : Option ℕ = head_or None ys in
    let to : Option ℕ = Some k in
    let keys : List ℕ = xs ++ k ∷ ys in
    let ma : Store = store_with m k node in
    let m0 : Store = store_with_link ma p a to in
    let m1 : Store = store_with_link m0 q b to in
    let new_key : (j : ℕ) → j < n → IsOutside k (chains j) = (λ j lj. outside-not k (chains j) (λ h. let t = f.sound j k lj h in let x : None ≡ Some t.0 = sym free ∙ t.1 in cc)) in
    let o : IsOutside k (xs ++ ys) = subst (IsOutside k) s (new_key i l) in
    let u : AreDistinct (xs ++ ys) = subst AreDistinct s (f.distinct i l) in
    let c : Chain m b a None (xs ++ ys) None = subst (λ zs. Chain m b a None zs None) s (f.chain i l) in
    let p_in : (x : ℕ) → p ≡ Some x → Has x (chains i) = (λ x e. subst (Has x) (sym s) (has-left x xs ys (last-in xs x e))) in
    let q_in : (x : ℕ) → q ≡ Some x → Has x (chains i) = (λ x e. subst (Has x) (sym s) (has-right x xs ys (head-has ys x e))) in
    record {
      chain = λ j lj. elim (cases_eq j i) [
        | inl same ↦ subst (λ zs. Chain m1 b a None zs None) (sym (with-same chains i keys j same)) (chain-inserted m b a xs k ys node d lb la four o u before after c)
        | inr other ↦
            (let apart : (at : Option ℕ) → ((x : ℕ) → at ≡ Some x → Has x (chains i)) → IsApart at (chains j) = (λ at w. apart-by at (chains j) (λ x e h. other (one-chain m b a home n chains f j i x lj l h (w x e)))) in
            subst (λ zs. Chain m1 b a None zs None) (sym (with-other chains i keys j other))
            (chain-other m0 b a q b to None (chains j) None (apart q q_in) (chain-other ma b a p a to None (chains j) None (apart p p_in) (chain-added m b a k node None (chains j) None (new_key j lj) (f.chain j lj)))))
      ];
      distinct = λ j lj. elim (cases_eq j i) [
        | inl same ↦ subst AreDistinct (sym (with-same chains i keys j same)) (distinct-with xs k ys o u)
        | inr other ↦ subst AreDistinct (sym (with-other chains i keys j other)) (f.distinct j lj)
      ];
      sound = λ j x lj h.
          (let held : (y : Node) × (ma x ≡ Some y) × (home y ≡ j) = elim (cases_eq x k) [
            | inl xk ↦ (
              node,
              ap ma xk ∙ added-key m k node,
              (elim (cases_eq j i) [
                | inl same ↦ sym same
                | inr other ↦ absurd (not-outside k (chains j) (new_key j lj) (subst (λ y. Has y (chains j)) xk (subst (Has x) (with-other chains i keys j other) h)))
              ]),
            )
            | inr xo ↦ (let g : Has x (chains j) = elim (cases_eq j i) [
              | inl same ↦ subst (λ y. Has x (chains y)) (sym same) (subst (Has x) (sym s) (has-other x k xs ys xo (subst (Has x) (with-same chains i keys j same) h)))
              | inr other ↦ subst (Has x) (with-other chains i keys j other) h
            ] in
                let t = f.sound j x lj g in (t.0, added-other m k node x xo ∙ t.1, t.2))
          ] in
          let r0 = linked-forth ma home hm p a to x held.0 held.1 in
          let r1 = linked-forth m0 home hm q b to x r0.0 r0.1 in
          (r1.0, r1.1, r1.2.number ∙ (r0.2.number ∙ held.2)));
      complete = λ x after g.
          (let o1 = linked-back q b to x (m0 x) after g in
          let o0 = linked-back p a to x (ma x) o1.0 o1.1 in
          let r0 = linked-forth ma home hm p a to x o0.0 o0.1 in
          let r1 = linked-forth m0 home hm q b to x r0.0 r0.1 in
          let same : r1.0 ≡ after = (let y : Some r1.0 ≡ Some after = sym r1.1 ∙ g in cc) in
          let number : home o0.0 ≡ home after = sym (r1.2.number ∙ r0.2.number) ∙ ap home same in
          let found : (home o0.0 < n) × Has x (with_chain chains i keys (home o0.0)) = elim (cases_eq x k) [
            | inl xk ↦ (let is : o0.0 ≡ node = (let y : Some o0.0 ≡ Some node = sym o0.1 ∙ (ap ma xk ∙ added-key m k node) in cc) in
                (subst (λ (y : Node). home y < n) (sym is) l, subst (Has x) (sym (with-same chains i keys (home o0.0) (ap home is))) (subst (λ y. Has y keys) (sym xk) (has-middle k xs ys))))
            | inr xo ↦ (let t = f.complete x o0.0 (sym (added-other m k node x xo) ∙ o0.1) in (
              t.0,
              elim (cases_eq (home o0.0) i) [
                | inl hi ↦ subst (Has x) (sym (with-same chains i keys (home o0.0) hi)) (has-without x k xs ys (subst (Has x) s (subst (λ y. Has x (chains y)) hi t.1)))
                | inr ho ↦ subst (Has x) (sym (with-other chains i keys (home o0.0) ho)) t.1
              ],
            ))
          ] in
          subst (λ y. (y < n) × Has x (with_chain chains i keys y)) number found);
    }

-- where a node stands in its chain
pub record StandsIn (m : Store) (b a : ℕ) (keys : List ℕ) (k : ℕ) (node : Node) : Type 0 where
  pub front : List ℕ
  pub back : List ℕ
  pub whole : keys ≡ front ++ k ∷ back
  pub before : last_or None front ≡ link_of node b
  pub after : head_or None back ≡ link_of node a
  pub four : 4 ≤ length node.links

pub stands_in : (m : Store) (b a : ℕ) (home : Node → ℕ) (n : ℕ) (chains : ℕ → List ℕ) (k : ℕ) (node : Node) → IsFamily m b a home n chains → m k ≡ Some node → StandsIn m b a (chains (home node)) k node
stands_in m b a home n chains k node f e =
    let c = f.complete k node e in
    let r = has-split k (chains (home node)) c.1 in
    let chain : Chain m b a None (r.0 ++ k ∷ r.1) None = subst (λ zs. Chain m b a None zs None) r.2 (f.chain (home node) c.0) in
    let here = (chain-split m b a None r.0 (k ∷ r.1) None chain).1.0 in
    let same : here.node ≡ node = (let y : Some here.node ≡ Some node = sym here.held ∙ e in cc) in
    record {
      front = r.0;
      back = r.1;
      whole = r.2;
      before = sym here.before ∙ ap (λ x. link_of x b) same;
      after = sym here.after ∙ ap (λ x. link_of x a) same;
      four = subst (λ (x : Node). 4 ≤ length x.links) same here.four;
    }

-- its neighbours are other nodes
pub neighbour : (m : Store) (b a : ℕ) (home : Node → ℕ) (n : ℕ) (chains : ℕ → List ℕ) (k : ℕ) (node : Node) (x : ℕ) → IsFamily m b a home n chains → m k ≡ Some node → (link_of node b ≡ Some x) ⊎ (link_of node a ≡ Some x) → (x ≢ k) × IsSome (m x)
neighbour m b a home n chains k node x f e w =
    let c = f.complete k node e in
    let r = stands_in m b a home n chains k node f e in
    let u : IsOutside k (r.front ++ r.back) = middle-outside k r.front r.back (subst AreDistinct r.whole (f.distinct (home node) c.0)) in
    let h : Has x (r.front ++ r.back) = elim w [
      | inl before ↦ has-left x r.front r.back (last-in r.front x (r.before ∙ before))
      | inr after ↦ has-right x r.front r.back (head-has r.back x (r.after ∙ after))
    ] in
    let t = f.sound (home node) x c.0 (subst (Has x) (sym r.whole) (has-without x k r.front r.back h)) in
    ((λ s. not-outside k (r.front ++ r.back) u (subst (λ y. Has y (r.front ++ r.back)) s h)), is_some-of (m x) t.0 t.1)
