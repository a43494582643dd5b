-- The chains of a family, their order and their ends after a link was set, and after a node was taken out or put in.
use Rattle.std.proofs.Common.{◌≡◌, ◌≢◌, ℕ, ◌<◌, ◌≤◌, List, [], ◌∷◌, ◌++◌, length, refl, sym, ◌∙◌, ap, subst, arith, inl, inr}
use Rattle.std.specs.Prelude.{slice_index_or, slice_set}
use Rattle.std.proofs.lemmas.Bool.{cases_eq}
use Rattle.std.proofs.lemmas.List.{append-nil, get_or-set_same, get_or-set_other, length-set}
use Rattle.std.specs.declared.option.Option.{Option}
use Rattle.std.specs.declared.option.Option.TheVariants.{Some, None}
use Rattle.event_wheel.specs.declared.nodes.Node.{Node}
use Rattle.event_wheel.specs.declared.chains.Ends.{Ends}
use Rattle.event_wheel.specs.Slots.{link_of}
use Rattle.event_wheel.specs.Keys.{Has, IsOutside, AreDistinct}
use Rattle.event_wheel.specs.Links.{Store, store_with_link, store_without, store_with, end_or, ends_between}
use Rattle.event_wheel.specs.Chains.{head_or, last_or}
use Rattle.event_wheel.specs.Families.{IsHome, IsFamily, IsIndexed, IsOrdered, IsBefore, IsAfter, pair_of, pairs_at, no_ends, ends_of}
use Rattle.event_wheel.proofs.LinkLaws.{pair-linked, removed-other, added-other, added-key}
use Rattle.event_wheel.proofs.KeyLaws.{has-middle, outside-not, middle-outside, last_or-append, last_or-some, outside-parts}
use Rattle.event_wheel.proofs.FamilyLaws.{with_chain, with-same, with-other, family-same, family-side, family-taken, family-put, one-chain, stands_in}
use Rattle.event_wheel.proofs.OrderLaws.{pairs-append, pairs-same, ordered-without, ordered-with}

-- the ends
pub same_ends : (f f' l l' : Option ℕ) → f ≡ f' → l ≡ l' → (let e : Ends = record { first = f; last = l } in e) ≡ (let e : Ends = record { first = f'; last = l' } in e)
same_ends f f' l l' p q = cc

pub end_or-some : (o new old : Option ℕ) (k : ℕ) → o ≡ Some k → end_or o new old ≡ old
end_or-some None new old k e = cc
end_or-some (Some x) new old k e = refl

pub joined-taken : (xs : List ℕ) (k : ℕ) (ys : List ℕ) → ends_between (ends_of (xs ++ k ∷ ys)) (last_or None xs) (head_or None ys) (head_or None ys) (last_or None xs) ≡ ends_of (xs ++ ys)
joined-taken [] k [] = refl
joined-taken [] k (y ∷ ys) = refl
joined-taken (x ∷ xs) k [] =
    let s = last_or-some x xs in
    same_ends (end_or (last_or (Some x) xs) None (Some x)) (Some x) (last_or (Some x) xs) (last_or (Some x) (xs ++ []))
    (end_or-some (last_or (Some x) xs) None (Some x) s.0 s.1) (sym (ap (last_or (Some x)) (append-nil xs)))
joined-taken (x ∷ xs) k (y ∷ ys) =
    let s = last_or-some x xs in
    same_ends (end_or (last_or (Some x) xs) (Some y) (Some x)) (Some x) (last_or (Some x) (xs ++ k ∷ y ∷ ys)) (last_or (Some x) (xs ++ y ∷ ys))
    (end_or-some (last_or (Some x) xs) (Some y) (Some x) s.0 s.1) (last_or-append (Some x) xs k (y ∷ ys) ∙ sym (last_or-append (Some x) xs y ys))

pub joined-put : (xs : List ℕ) (k : ℕ) (ys : List ℕ) → ends_between (ends_of (xs ++ ys)) (last_or None xs) (head_or None ys) (Some k) (Some k) ≡ ends_of (xs ++ k ∷ ys)
joined-put [] k [] = refl
joined-put [] k (y ∷ ys) = refl
joined-put (x ∷ xs) k [] =
    let s = last_or-some x xs in
    same_ends (end_or (last_or (Some x) xs) (Some k) (Some x)) (Some x) (Some k) (last_or (Some x) (xs ++ k ∷ []))
    (end_or-some (last_or (Some x) xs) (Some k) (Some x) s.0 s.1) (sym (last_or-append (Some x) xs k []))
joined-put (x ∷ xs) k (y ∷ ys) =
    let s = last_or-some x xs in
    same_ends (end_or (last_or (Some x) xs) (Some k) (Some x)) (Some x) (last_or (Some x) (xs ++ y ∷ ys)) (last_or (Some x) (xs ++ k ∷ y ∷ ys))
    (end_or-some (last_or (Some x) xs) (Some k) (Some x) s.0 s.1) (last_or-append (Some x) xs y ys ∙ sym (last_or-append (Some x) xs k (y ∷ ys)))

-- transitions where a key isn't
pub pairs-apart : (m m' : Store) (k : ℕ) (ks : List ℕ) → ((x : ℕ) → x ≢ k → pair_of (m' x) ≡ pair_of (m x)) → IsOutside k ks → pairs_at m' ks ≡ pairs_at m ks
pairs-apart m m' k [] h o = refl
pairs-apart m m' k (x ∷ xs) h o = ap (λ p. p ∷ pairs_at m' xs) (h x o.0) ∙ ap (λ ps. pair_of (m x) ∷ ps) (pairs-apart m m' k xs h o.1)

pub indexed-same : (m m' : Store) (b a : ℕ) (home : Node → ℕ) (R : ℕ → ℕ → Type 0) (ends : List Ends) (chains : ℕ → List ℕ) → ((k : ℕ) → m' k ≡ m k) → IsIndexed m b a home R ends chains → IsIndexed m' b a home R ends chains
indexed-same m m' b a home R ends chains s f =
    record {
      family = family-same m m' b a home (length ends) chains s f.family;
      ordered = λ i l. subst (IsOrdered R) (sym (pairs-same m m' (chains i) (λ k h. ap pair_of (s k)))) (f.ordered i l);
      ends_are = f.ends_are;
    }

pub indexed-side : (m : Store) (b a : ℕ) (home : Node → ℕ) (R : ℕ → ℕ → Type 0) (ends : List Ends) (chains : ℕ → List ℕ) (at : Option ℕ) (side : ℕ) (to : Option ℕ) → IsHome home → b ≢ side → a ≢ side → IsIndexed m b a home R ends chains → IsIndexed (store_with_link m at side to) b a home R ends chains
indexed-side m b a home R ends chains at side to hm d e f =
    record {
      family = family-side m b a home (length ends) chains at side to hm d e f.family;
      ordered = λ i l. subst (IsOrdered R) (sym (pairs-same m (store_with_link m at side to) (chains i) (λ k h. pair-linked at side to k (m k)))) (f.ordered i l);
      ends_are = f.ends_are;
    }

-- one chain's ends were written
ends-written : (ends : List Ends) (i : ℕ) (e : Ends) (chains : ℕ → List ℕ) (keys : List ℕ) → i < length ends → e ≡ ends_of keys → ((j : ℕ) → j < length ends → slice_index_or ends j no_ends ≡ ends_of (chains j))
    → (j : ℕ) → j < length ends → slice_index_or (slice_set ends i e) j no_ends ≡ ends_of (with_chain chains i keys j)
ends-written ends i e chains keys l is h j lj =
    elim (cases_eq j i) [
      | inl same ↦ subst (λ n. slice_index_or (slice_set ends i e) n no_ends ≡ ends_of (with_chain chains i keys j)) (sym same) (get_or-set_same ends i e no_ends l ∙ (is ∙ sym (ap ends_of (with-same chains i keys j same))))
      | inr other ↦ get_or-set_other ends i j e no_ends other ∙ (h j lj ∙ sym (ap ends_of (with-other chains i keys j other)))
    ]

-- a family over more ends than it says
indexed_over : (m : Store) (b a : ℕ) (home : Node → ℕ) (R : ℕ → ℕ → Type 0) (ends ends' : List Ends) (chains : ℕ → List ℕ) → length ends' ≡ length ends → IsFamily m b a home (length ends) chains
    → ((j : ℕ) → j < length ends → IsOrdered R (pairs_at m (chains j))) → ((j : ℕ) → j < length ends → slice_index_or ends' j no_ends ≡ ends_of (chains j)) → IsIndexed m b a home R ends' chains
indexed_over m b a home R ends ends' chains e f o w =
    record {
      family = subst (λ n. IsFamily m b a home n chains) (sym e) f;
      ordered = λ j l. o j (omega arith);
      ends_are = λ j l. w j (omega arith);
    }

-- a node was taken out
pub record TakenFrom (m : Store) (b a : ℕ) (home : Node → ℕ) (R : ℕ → ℕ → Type 0) (ends : List Ends) (keys : List ℕ) (chains : ℕ → List ℕ) (i k : ℕ) (before after : Option ℕ) : Type 0 where
  pub front : List ℕ
  pub back : List ℕ
  pub whole : keys ≡ front ++ k ∷ back
  pub before_is : last_or None front ≡ before
  pub after_is : head_or None back ≡ after
  pub outside : IsOutside k (front ++ back)
  pub indexed : IsIndexed m b a home R ends (with_chain chains i (front ++ back))

pub indexed-taken : (m : Store) (b a : ℕ) (home : Node → ℕ) (R : ℕ → ℕ → Type 0) (ends ends' : List Ends) (chains : ℕ → List ℕ) (k : ℕ) (node : Node) (i : ℕ) (p q : Option ℕ) → IsHome home → b ≢ a → b < 4 → a < 4
    → IsIndexed m b a home R ends chains → m k ≡ Some node → home node ≡ i → link_of node b ≡ p → link_of node a ≡ q
    → ends' ≡ slice_set ends i (ends_between (slice_index_or ends i no_ends) p q q p)
    → TakenFrom (store_without (store_with_link (store_with_link m p a q) q b p) k) b a home R ends' (chains i) chains i k p q
indexed-taken m b a home R ends ends' chains k node i p q hm d lb la f e hi hp hq he =
    let n : ℕ = length ends in
    let c = f.family.complete k node e in
    let l : i < n = subst (λ j. j < n) hi c.0 in
    let r = stands_in m b a home n chains k node f.family e in
    let xs : List ℕ = r.front in
    let ys : List ℕ = r.back in
    let whole : chains i ≡ xs ++ k ∷ ys = subst (λ j. chains j ≡ xs ++ k ∷ ys) hi r.whole in
    let ep : last_or None xs ≡ p = r.before ∙ hp in
    let eq : head_or None ys ≡ q = r.after ∙ hq in
    let m2 : Store = store_without (store_with_link (store_with_link m p a q) q b p) k in
    let here : Has k (chains i) = subst (Has k) (sym whole) (has-middle k xs ys) in
    let out : IsOutside k (xs ++ ys) = middle-outside k xs ys (subst AreDistinct whole (f.family.distinct i l)) in
    let data_kept : (x : ℕ) → x ≢ k → pair_of (m2 x) ≡ pair_of (m x) =
    (λ x o. ap pair_of (removed-other (store_with_link (store_with_link m p a q) q b p) k x o) ∙ (pair-linked q b p x (store_with_link m p a q x) ∙ pair-linked p a q x (m x))) in
    let fam : IsFamily m2 b a home n (with_chain chains i (xs ++ ys)) =
    subst (λ z. IsFamily (store_without (store_with_link (store_with_link m p a z) z b p) k) b a home n (with_chain chains i (xs ++ ys))) eq
    (subst (λ z. IsFamily (store_without (store_with_link (store_with_link m z a (head_or None ys)) (head_or None ys) b z) k) b a home n (with_chain chains i (xs ++ ys))) ep
    (family-taken m b a home n chains k i xs ys hm d lb la f.family l whole)) in
    let order : (j : ℕ) → j < n → IsOrdered R (pairs_at m2 (with_chain chains i (xs ++ ys) j)) =
    (λ j lj. elim (cases_eq j i) [
      | inl same ↦ subst (λ ks. IsOrdered R (pairs_at m2 ks)) (sym (with-same chains i (xs ++ ys) j same))
          (subst (IsOrdered R) (sym (pairs-apart m m2 k (xs ++ ys) data_kept out ∙ pairs-append m xs ys))
          (ordered-without R (pairs_at m xs) (pair_of (m k)) (pairs_at m ys) (subst (IsOrdered R) (ap (pairs_at m) whole ∙ pairs-append m xs (k ∷ ys)) (f.ordered i l))))
      | inr other ↦ subst (λ ks. IsOrdered R (pairs_at m2 ks)) (sym (with-other chains i (xs ++ ys) j other))
          (subst (IsOrdered R) (sym (pairs-apart m m2 k (chains j) data_kept (outside-not k (chains j) (λ h. other (one-chain m b a home n chains f.family j i k lj l h here))))) (f.ordered j lj))
    ]) in
    let old : Ends = slice_index_or ends i no_ends in
    let is : ends_between old p q q p ≡ ends_of (xs ++ ys) =
    subst (λ z. ends_between old p z z p ≡ ends_of (xs ++ ys)) eq
    (subst (λ z. ends_between old z (head_or None ys) (head_or None ys) z ≡ ends_of (xs ++ ys)) ep
    (ap (λ (z : Ends). ends_between z (last_or None xs) (head_or None ys) (head_or None ys) (last_or None xs)) (f.ends_are i l ∙ ap ends_of whole) ∙ joined-taken xs k ys)) in
    record {
      front = xs;
      back = ys;
      whole = whole;
      before_is = ep;
      after_is = eq;
      outside = out;
      indexed = indexed_over m2 b a home R ends ends' (with_chain chains i (xs ++ ys)) (ap length he ∙ length-set ends i (ends_between old p q q p)) fam order
          (subst (λ es. (j : ℕ) → j < n → slice_index_or es j no_ends ≡ ends_of (with_chain chains i (xs ++ ys) j)) (sym he) (ends-written ends i (ends_between old p q q p) chains (xs ++ ys) l is f.ends_are));
    }

-- a node was put in
pub indexed-put : (m : Store) (b a : ℕ) (home : Node → ℕ) (R : ℕ → ℕ → Type 0) (ends ends' : List Ends) (chains : ℕ → List ℕ) (k : ℕ) (node : Node) (xs ys : List ℕ) → IsHome home → b ≢ a → b < 4 → a < 4 → 4 ≤ length node.links
    → IsIndexed m b a home R ends chains → m k ≡ None → home node < length ends → chains (home node) ≡ xs ++ ys → link_of node b ≡ last_or None xs → link_of node a ≡ head_or None ys
    → IsAfter R node.time (pairs_at m xs) → IsBefore R node.time (pairs_at m ys)
    → ends' ≡ slice_set ends (home node) (ends_between (slice_index_or ends (home node) no_ends) (link_of node b) (link_of node a) (Some k) (Some k))
    → IsIndexed (store_with_link (store_with_link (store_with m k node) (link_of node b) a (Some k)) (link_of node a) b (Some k)) b a home R ends' (with_chain chains (home node) (xs ++ k ∷ ys))
indexed-put m b a home R ends ends' chains k node xs ys hm d lb la four f free l whole ep eq after before he =
    let n : ℕ = length ends in
    let i : ℕ = home node in
    let p : Option ℕ = link_of node b in
    let q : Option ℕ = link_of node a in
    let to : Option ℕ = Some k in
    let keys : List ℕ = xs ++ k ∷ ys in
    let m1 : Store = store_with_link (store_with m k node) p a to in
    let m2 : Store = store_with_link m1 q b to in
    let new_key : (j : ℕ) → j < n → IsOutside k (chains j) = (λ j lj. outside-not k (chains j) (λ h. let t = f.family.sound j k lj h in let x : None ≡ Some t.0 = sym free ∙ t.1 in cc)) in
    let out : IsOutside k (xs ++ ys) = subst (IsOutside k) whole (new_key i l) in
    let data_linked : (x : ℕ) → pair_of (m2 x) ≡ pair_of (store_with m k node x) = (λ x. pair-linked q b to x (m1 x) ∙ pair-linked p a to x (store_with m k node x)) in
    let data_kept : (x : ℕ) → x ≢ k → pair_of (m2 x) ≡ pair_of (m x) = (λ x o. data_linked x ∙ ap pair_of (added-other m k node x o)) in
    let data_new : pair_of (m2 k) ≡ (node.time, node.value) = data_linked k ∙ ap pair_of (added-key m k node) in
    let fam : IsFamily m2 b a home n (with_chain chains i keys) =
    subst (λ z. IsFamily (store_with_link (store_with_link (store_with m k node) p a to) z b to) b a home n (with_chain chains i keys)) (sym eq)
    (subst (λ z. IsFamily (store_with_link (store_with_link (store_with m k node) z a to) (head_or None ys) b to) b a home n (with_chain chains i keys)) (sym ep)
    (family-put m b a home n chains k node xs ys hm d lb la four f.family free l whole ep eq)) in
    let pairs : pairs_at m2 keys ≡ pairs_at m xs ++ (node.time, node.value) ∷ pairs_at m ys =
    pairs-append m2 xs (k ∷ ys)
    ∙ (ap (λ ps. ps ++ pairs_at m2 (k ∷ ys)) (pairs-apart m m2 k xs data_kept (parts out).0)
    ∙ (ap (λ z. pairs_at m xs ++ z ∷ pairs_at m2 ys) data_new
    ∙ ap (λ ps. pairs_at m xs ++ (node.time, node.value) ∷ ps) (pairs-apart m m2 k ys data_kept (parts out).1))) in
    let order : (j : ℕ) → j < n → IsOrdered R (pairs_at m2 (with_chain chains i keys j)) =
    (λ j lj. elim (cases_eq j i) [
      | inl same ↦ subst (λ ks. IsOrdered R (pairs_at m2 ks)) (sym (with-same chains i keys j same))
          (subst (IsOrdered R) (sym pairs) (ordered-with R (pairs_at m xs) (node.time, node.value) (pairs_at m ys) after before (subst (IsOrdered R) (ap (pairs_at m) whole ∙ pairs-append m xs ys) (f.ordered i l))))
      | inr other ↦ subst (λ ks. IsOrdered R (pairs_at m2 ks)) (sym (with-other chains i keys j other))
          (subst (IsOrdered R) (sym (pairs-apart m m2 k (chains j) data_kept (new_key j lj))) (f.ordered j lj))
    ]) in
    let old : Ends = slice_index_or ends i no_ends in
    let is : ends_between old p q to to ≡ ends_of keys =
    subst (λ z. ends_between old p z to to ≡ ends_of keys) (sym eq)
    (subst (λ z. ends_between old z (head_or None ys) to to ≡ ends_of keys) (sym ep)
    (ap (λ (z : Ends). ends_between z (last_or None xs) (head_or None ys) to to) (f.ends_are i l ∙ ap ends_of whole) ∙ joined-put xs k ys)) in
    indexed_over m2 b a home R ends ends' (with_chain chains i keys) (ap length he ∙ length-set ends i (ends_between old p q to to)) fam order
    (subst (λ es. (j : ℕ) → j < n → slice_index_or es j no_ends ≡ ends_of (with_chain chains i keys j)) (sym he) (ends-written ends i (ends_between old p q to to) chains keys l is f.ends_are))
  where
    parts : IsOutside k (xs ++ ys) → IsOutside k xs × IsOutside k ys
    parts o = outside-parts k xs ys o
