-- The tree of the least times.
use Rattle.std.proofs.Common.{◌≡◌, ◌≢◌, ℕ, zero, suc, ◌+◌, ◌-◌, ◌*◌, ◌/◌, ◌%◌, ◌<◌, ◌≤◌, List, [], ◌∷◌, ◌⊎◌, length, refl, sym, ◌∙◌, ap, subst, arith, inl, inr, IsSome, true, false, if◌then◌else◌, replicate}
use Rattle.std.specs.Option.{option_eq}
use Rattle.std.specs.Prelude.{slice_index_or, slice_set, min, nat_eq, IfSome, IfNone}
use Rattle.std.proofs.Math.Nat.{min-eq_left, min-eq_right}
use Rattle.std.proofs.lemmas.Bool.{cases_eq, cases_lt, eqb-true}
use Rattle.std.proofs.lemmas.List.{get_or-set_same, get_or-set_other, length-set, get_or-replicate, get_or_past, length-replicate}
use Rattle.std.specs.declared.option.Option.{Option}
use Rattle.std.specs.declared.option.Option.TheVariants.{Some, None}
use Rattle.event_wheel.specs.declared.nodes.Node.{Node}
use Rattle.event_wheel.specs.declared.chains.Ends.{Ends}
use Rattle.event_wheel.specs.Slots.{Held, node_at, link_of, with_link}
use Rattle.event_wheel.specs.Links.{Store, is_key, slot_with_link, store_with_link, store_with_links, store_without, store_with, store_after_taking, store_after_putting, ends_between}
use Rattle.event_wheel.specs.Chains.{head_or, Chain}
use Rattle.event_wheel.specs.Families.{no_ends}
use Rattle.event_wheel.specs.Kept.{AreBuckets, NoNodeBelow, NoNode, IsNodesTime}
use Rattle.event_wheel.specs.Least.{lesser_of, time_at, time_below, IsTree, HasSet, time_in, time_of, AreFirsts, AreOtherFirsts}
use Rattle.event_wheel.proofs.LinkLaws.{removed-other, added-other}
use Rattle.event_wheel.proofs.IndexLaws.{end_or-some}
use Rattle.event_wheel.proofs.SearchLaws.{is_first, none_first}

-- the lesser is one of the two, and above neither
lesser_is : (a b : Option ℕ) (r : ℕ) → lesser_of a b ≡ Some r → (a ≡ Some r) ⊎ (b ≡ Some r)
lesser_is None b r e = inr e
lesser_is (Some x) None r e = inl e
lesser_is (Some x) (Some y) r e =
    elim (cases_lt x y) [
      | inl l ↦ (let k : x ≤ y = omega (arith, l) in inl (ap Some (sym (min-eq_left k)) ∙ e))
      | inr k ↦ inr (ap Some (sym (min-eq_right k)) ∙ e)
    ]

lesser_le : (a b : Option ℕ) (t : ℕ) → (a ≡ Some t) ⊎ (b ≡ Some t) → (r : ℕ) × (lesser_of a b ≡ Some r) × (r ≤ t)
lesser_le None b t (inl e) = cc
lesser_le None b t (inr e) = (t, e, omega arith)
lesser_le (Some x) None t (inl e) = (t, e, omega arith)
lesser_le (Some x) None t (inr e) = cc
lesser_le (Some x) (Some y) t h = (
  min x y,
  refl,
  elim (cases_lt x y) [
    | inl l ↦ (let k : x ≤ y = omega (arith, l) in let s = min-eq_left k in elim h [
      | inl e ↦ (let q : x ≡ t = cc in omega arith)
      | inr e ↦ (let q : y ≡ t = cc in omega arith)
    ])
    | inr k ↦ (let s = min-eq_right k in elim h [
      | inl e ↦ (let q : x ≡ t = cc in omega (arith, k))
      | inr e ↦ (let q : y ≡ t = cc in omega arith)
    ])
  ],
)

-- the first place is below none
half : (p : ℕ) → (p ≡ 2 * (p / 2)) ⊎ (p ≡ 2 * (p / 2) + 1)
half p = elim (cases_eq p (2 * (p / 2))) [
  | inl e ↦ inl e
  | inr d ↦ inr (omega (arith, d))
]

root_le : (tree : List (Option ℕ)) (n : ℕ) → IsTree tree n → (fuel p t : ℕ) → p ≤ fuel → 0 < p → p < n + n → time_at tree p ≡ Some t → (r : ℕ) × (time_at tree 1 ≡ Some r) × (r ≤ t)
root_le tree n h zero p t f l u e = absurd (omega arith)
root_le tree n h (suc fuel) p t f l u e =
    elim (cases_eq p 1) [
      | inl one ↦ (t, ap (time_at tree) (sym one) ∙ e, omega arith)
      | inr more ↦ (
          let q : ℕ = p / 2 in
          let a : 0 < q = omega (arith, more) in
          let b : q < n = omega arith in
          let s = lesser_le (time_at tree (2 * q)) (time_at tree (2 * q + 1)) t (elim (half p) [ inl x ↦ inl (ap (time_at tree) (sym x) ∙ e) | inr x ↦ inr (ap (time_at tree) (sym x) ∙ e) ]) in
          let up_is : time_at tree q ≡ lesser_of (time_at tree (2 * q)) (time_at tree (2 * q + 1)) = h.each q a b in
          let r = root_le tree n h fuel q s.0 (omega arith) a (omega arith) (up_is ∙ s.1) in
          let low : r.0 ≤ s.0 = r.2 in
          let up : s.0 ≤ t = s.2 in
          (r.0, r.1, omega arith))
    ]

-- and that of a bucket
root_is : (tree : List (Option ℕ)) (n : ℕ) → IsTree tree n → (fuel p r : ℕ) → n + n ≤ p + fuel → 0 < p → p < n + n → time_at tree p ≡ Some r → (i : ℕ) × (i < n) × (time_at tree (n + i) ≡ Some r)
root_is tree n h zero p r f l u e = absurd (omega arith)
root_is tree n h (suc fuel) p r f l u e =
    elim (cases_lt p n) [
      | inl inner ↦ (elim (lesser_is (time_at tree (2 * p)) (time_at tree (2 * p + 1)) r (sym (h.each p l inner) ∙ e)) [
        | inl left ↦ root_is tree n h fuel (2 * p) r (omega arith) (omega arith) (omega (arith, inner)) left
        | inr right ↦ root_is tree n h fuel (2 * p + 1) r (omega arith) (omega arith) (omega (arith, inner)) right
      ])
      | inr leaf ↦ (let i : ℕ = p - n in let s : n + i ≡ p = omega (arith, leaf) in (i, omega (arith, leaf), ap (time_at tree) s ∙ e))
    ]

-- one place was set: the places above it are to follow
pub record IsSetUpto (old tree : List (Option ℕ)) (n bucket : ℕ) (time : Option ℕ) (place : ℕ) : Type 0 where
  pub low : 0 < place
  pub high : place < n + n
  pub twice : length tree ≡ n + n
  pub each : (p : ℕ) → 0 < p → p < n → p ≢ place / 2 → time_at tree p ≡ time_below tree p
  pub here : time_at tree (n + bucket) ≡ time
  pub others : (p : ℕ) → n ≤ p → p ≢ n + bucket → time_at tree p ≡ time_at old p

below_kept : (tree : List (Option ℕ)) (i p : ℕ) (t : Option ℕ) → p ≢ i / 2 → time_below (slice_set tree i t) p ≡ time_below tree p
below_kept tree i p t d =
    let a : 2 * p ≢ i = (λ e. d (omega (arith, e))) in
    let b : 2 * p + 1 ≢ i = (λ e. d (omega (arith, e))) in
    ap (λ x. lesser_of x (time_at (slice_set tree i t) (2 * p + 1))) (get_or-set_other tree i (2 * p) t None a) ∙ ap (lesser_of (time_at tree (2 * p))) (get_or-set_other tree i (2 * p + 1) t None b)

pub set_start : (tree : List (Option ℕ)) (n bucket : ℕ) (time : Option ℕ) → IsTree tree n → bucket < n → IsSetUpto tree (slice_set tree (n + bucket) time) n bucket time (n + bucket)
set_start tree n bucket time h l =
    let w = h.twice in
    record {
      low = omega arith;
      high = omega arith;
      twice = length-set tree (n + bucket) time ∙ h.twice;
      each = λ p a b d.
          let o : p ≢ n + bucket = (λ e. absurd (omega (arith, e, b))) in
          get_or-set_other tree (n + bucket) p time None o ∙ (h.each p a b ∙ sym (below_kept tree (n + bucket) p time d));
      here = get_or-set_same tree (n + bucket) time None (omega arith);
      others = λ p a d. get_or-set_other tree (n + bucket) p time None d;
    }

pub set_step : (old tree : List (Option ℕ)) (n bucket : ℕ) (time : Option ℕ) (place up : ℕ) (t : Option ℕ) → IsSetUpto old tree n bucket time place → 1 < place → up ≡ place / 2 → t ≡ time_below tree up → IsSetUpto old (slice_set tree up t) n bucket time up
set_step old tree n bucket time place up t h m e et =
    let w = h.twice in
    let hi = h.high in
    let u : 0 < up = omega arith in
    let v : up < n = omega arith in
    let own : up ≢ up / 2 = (λ x. absurd (omega (arith, x))) in
    record {
      low = u;
      high = omega arith;
      twice = length-set tree up t ∙ h.twice;
      each = λ p a b d. elim (cases_eq p up) [
        | inl same ↦ (let o : p ≢ up / 2 = d in
            ap (time_at (slice_set tree up t)) same ∙ (get_or-set_same tree up t None (omega arith) ∙ (et ∙ (ap (time_below tree) (sym same) ∙ sym (below_kept tree up p t o)))))
        | inr other ↦ (let o : p ≢ place / 2 = (λ x. other (x ∙ sym e)) in
            get_or-set_other tree up p t None other ∙ (h.each p a b o ∙ sym (below_kept tree up p t d)))
      ];
      here = (let o : n + bucket ≢ up = (λ x. absurd (omega (arith, x))) in get_or-set_other tree up (n + bucket) t None o ∙ h.here);
      others = λ p a d. (let o : p ≢ up = (λ x. absurd (omega (arith, x, a))) in get_or-set_other tree up p t None o ∙ h.others p a d);
    }

pub set_end : (old tree : List (Option ℕ)) (n bucket : ℕ) (time : Option ℕ) (place : ℕ) → IsSetUpto old tree n bucket time place → place ≤ 1 → HasSet old tree n bucket time
set_end old tree n bucket time place h l =
    let lo = h.low in
    record {
      tree = record { twice = h.twice; each = λ p a b. (let o : p ≢ place / 2 = (λ x. absurd (omega (arith, x, a))) in h.each p a b o) };
      here = h.here;
      others = h.others;
    }

-- the place above is right already, and with it all
pub set_kept : (old tree : List (Option ℕ)) (n bucket : ℕ) (time : Option ℕ) (place up : ℕ) (t : Option ℕ) → IsSetUpto old tree n bucket time place → up ≡ place / 2 → t ≡ time_below tree up → true ≡ option_eq nat_eq (time_at tree up) t → HasSet old tree n bucket time
set_kept old tree n bucket time place up t h e below is =
    record {
      tree = record {
        twice = h.twice;
        each = λ p a b. elim (cases_eq p up) [
          | inl same ↦ ap (time_at tree) same ∙ (same_time (time_at tree up) t is ∙ (below ∙ ap (time_below tree) (sym same)))
          | inr other ↦ (let o : p ≢ place / 2 = (λ x. other (x ∙ sym e)) in h.each p a b o)
        ];
      };
      here = h.here;
      others = h.others;
    }
  where
    same_time : (a b : Option ℕ) → true ≡ option_eq nat_eq a b → a ≡ b
    same_time None None e = refl
    same_time (Some a) (Some b) e = ap Some (eqb-true a b (sym e))
    same_time None (Some b) e = cc
    same_time (Some a) None e = cc

-- a bucket's time was noted
pub firsts_set : (m : Store) (buckets : List Ends) (old tree : List (Option ℕ)) (bucket : ℕ) (first before time : Option ℕ) → AreOtherFirsts m buckets old bucket before → HasSet old tree (length buckets) bucket time → first ≡ (slice_index_or buckets bucket no_ends).first → time ≡ time_of m first → AreFirsts m buckets tree
firsts_set m buckets old tree bucket first before time h s ef et =
    record {
      is_tree = s.tree;
      noted = λ j l. elim (cases_eq j bucket) [
        | inl same ↦ ap (λ i. time_at tree (length buckets + i)) same ∙ (s.here ∙ (et ∙ (ap (time_of m) ef ∙ ap (λ i. time_of m (slice_index_or buckets i no_ends).first) (sym same))))
        | inr other ↦ (let o : length buckets + j ≢ length buckets + bucket = (λ x. other (omega (arith, x))) in
            s.others (length buckets + j) (omega arith) o ∙ h.noted j l (inl other))
      ];
    }

pub firsts_kept : (m : Store) (buckets : List Ends) (tree : List (Option ℕ)) (bucket : ℕ) (before : Option ℕ) → IsSome before → AreOtherFirsts m buckets tree bucket before → AreFirsts m buckets tree
firsts_kept m buckets tree bucket before s h = record { is_tree = h.is_tree; noted = λ j l. h.noted j l (inr s) }

-- a node's time stays under other keys
time-linked : (at : Option ℕ) (side : ℕ) (to : Option ℕ) (k : ℕ) (slot : Option Node) → time_in (slot_with_link at side to k slot) ≡ time_in slot
time-linked at side to k None = refl
time-linked at side to k (Some n) =
    elim (is_key at k) as (λ c. time_in (Some (if c then with_link n side to else n)) ≡ time_in (Some n)) [ true ↦ refl | false ↦ refl ]

time-relinked : (m : Store) (p q : Option ℕ) (b : ℕ) (s t : Option ℕ) (x : ℕ) → time_in (store_with_links m p q b s t x) ≡ time_in (m x)
time-relinked m p q b s t x = time-linked q b t x (store_with_link m p (b + 1) s x) ∙ time-linked p (b + 1) s x (m x)

time-taken : (m : Store) (k : ℕ) (node : Node) (x : ℕ) → x ≢ k → time_in (store_after_taking m k node x) ≡ time_in (m x)
time-taken m k node x o =
    time-relinked (store_with_links (store_without m k) (link_of node 0) (link_of node 1) 0 (link_of node 1) (link_of node 0)) (link_of node 2) (link_of node 3) 2 (link_of node 3) (link_of node 2) x
    ∙ (time-relinked (store_without m k) (link_of node 0) (link_of node 1) 0 (link_of node 1) (link_of node 0) x ∙ ap time_in (removed-other m k x o))

time-put : (m : Store) (k : ℕ) (node : Node) (x : ℕ) → x ≢ k → time_in (store_after_putting m k node x) ≡ time_in (m x)
time-put m k node x o =
    time-relinked (store_with_links (store_with m k node) (link_of node 0) (link_of node 1) 0 (Some k) (Some k)) (link_of node 2) (link_of node 3) 2 (Some k) (Some k) x
    ∙ (time-relinked (store_with m k node) (link_of node 0) (link_of node 1) 0 (Some k) (Some k) x ∙ ap time_in (added-other m k node x o))

-- a change in one bucket leaves the first nodes of the others, and its own where a node stands before the change
others_kept : (m m' : Store) (buckets buckets' : List Ends) (tree : List (Option ℕ)) (i : ℕ) (before after first last : Option ℕ) → AreFirsts m buckets tree → i < length buckets
    → buckets' ≡ slice_set buckets i (ends_between (slice_index_or buckets i no_ends) before after first last)
    → ((j x : ℕ) → j < length buckets → (j ≢ i) ⊎ IsSome before → (slice_index_or buckets j no_ends).first ≡ Some x → time_in (m' x) ≡ time_in (m x))
    → AreOtherFirsts m' buckets' tree i before
others_kept m m' buckets buckets' tree i before after first last h l eb kept =
    let len : length buckets' ≡ length buckets = ap length eb ∙ length-set buckets i (ends_between (slice_index_or buckets i no_ends) before after first last) in
    record {
      is_tree = subst (IsTree tree) (sym len) h.is_tree;
      noted = λ j lj o.
          let within : j < length buckets = omega arith in
          ap (λ n. time_at tree (n + j)) len ∙ (h.noted j within ∙ sym (ap (time_of m') (first_same j o) ∙ times (slice_index_or buckets j no_ends).first (λ x g. kept j x within o g)));
    }
  where
    some : (o : Option ℕ) → IsSome o → (k : ℕ) × (o ≡ Some k)
    some None s = cc
    some (Some k) s = (k, refl)

    times : (o : Option ℕ) → ((x : ℕ) → o ≡ Some x → time_in (m' x) ≡ time_in (m x)) → time_of m' o ≡ time_of m o
    times None f = refl
    times (Some x) f = f x refl

    first_same : (j : ℕ) → (j ≢ i) ⊎ IsSome before → (slice_index_or buckets' j no_ends).first ≡ (slice_index_or buckets j no_ends).first
    first_same j o =
        ap (λ (bs : List Ends). (slice_index_or bs j no_ends).first) eb
        ∙ elim (cases_eq j i) [
          | inl same ↦ (elim o [
            | inl d ↦ absurd (d same)
            | inr s ↦ (let k = some before s in
                ap (λ n. (slice_index_or (slice_set buckets i (ends_between (slice_index_or buckets i no_ends) before after first last)) n no_ends).first) same
                ∙ (ap (λ (e : Ends). e.first) (get_or-set_same buckets i (ends_between (slice_index_or buckets i no_ends) before after first last) no_ends l)
                ∙ (end_or-some before first (slice_index_or buckets i no_ends).first k.0 k.1 ∙ ap (λ n. (slice_index_or buckets n no_ends).first) (sym same))))
          ])
          | inr d ↦ ap (λ (e : Ends). e.first) (get_or-set_other buckets i j (ends_between (slice_index_or buckets i no_ends) before after first last) no_ends d)
        ]

pub others_put : (m m' : Store) (buckets buckets' : List Ends) (tree : List (Option ℕ)) (k i : ℕ) (node : Node) (before after first last : Option ℕ) → AreBuckets m buckets → AreFirsts m buckets tree → i < length buckets → m k ≡ None
    → ((j : ℕ) → m' j ≡ store_after_putting m k node j)
    → buckets' ≡ slice_set buckets i (ends_between (slice_index_or buckets i no_ends) before after first last)
    → AreOtherFirsts m' buckets' tree i before
others_put m m' buckets buckets' tree k i node before after first last b h l free same eb =
    others_kept m m' buckets buckets' tree i before after first last h l eb
    (λ j x lj o e. let f = is_first m buckets j x b lj e in
    let d : x ≢ k = (λ s. let y : None ≡ Some f.node = sym free ∙ (ap m (sym s) ∙ f.held) in cc) in
    ap time_in (same x) ∙ time-put m k node x d)

pub others_taken : (m m' : Store) (buckets buckets' : List Ends) (tree : List (Option ℕ)) (k : ℕ) (node : Node) (after first last : Option ℕ) → AreBuckets m buckets → AreFirsts m buckets tree → node.time % length buckets < length buckets → m k ≡ Some node
    → ((j : ℕ) → m' j ≡ store_after_taking m k node j)
    → buckets' ≡ slice_set buckets (node.time % length buckets) (ends_between (slice_index_or buckets (node.time % length buckets) no_ends) (link_of node 0) after first last)
    → AreOtherFirsts m' buckets' tree (node.time % length buckets) (link_of node 0)
others_taken m m' buckets buckets' tree k node after first last b h l held same eb =
    others_kept m m' buckets buckets' tree (node.time % length buckets) (link_of node 0) after first last h l eb
    (λ j x lj o e. let f = is_first m buckets j x b lj e in
    let d : x ≢ k = (λ s. let y : Some f.node ≡ Some node = sym f.held ∙ (ap m s ∙ held) in let z : f.node ≡ node = cc in
    elim o [
      | inl other ↦ other (sym f.here ∙ ap (λ (w : Node). w.time % length buckets) z)
      | inr some ↦ none_before (b.chains j) (b.indexed.family.chain j lj) (sym (ap (λ (w : Ends). w.first) (b.indexed.ends_are j lj)) ∙ (e ∙ ap Some s)) some
    ]) in
    ap time_in (same x) ∙ time-taken m k node x d)
  where
    no_some : (o : Option ℕ) → o ≡ None → IsSome o → ⊥
    no_some None e s = cc
    no_some (Some x) e s = cc

    none_before : (ks : List ℕ) → Chain m 0 1 None ks None → head_or None ks ≡ Some k → IsSome (link_of node 0) → ⊥
    none_before [] c e s = cc
    none_before (x ∷ xs) c e s =
        let at : x ≡ k = cc in
        let y : Some c.0.node ≡ Some node = sym c.0.held ∙ (ap m at ∙ held) in
        let z : c.0.node ≡ node = cc in
        let none : link_of node 0 ≡ None = ap (λ w. link_of w 0) (sym z) ∙ c.0.before in
        no_some (link_of node 0) none s

pub others_at : (m : Store) (buckets buckets' : List Ends) (tree tree' : List (Option ℕ)) (i i' : ℕ) (before : Option ℕ) → buckets' ≡ buckets → tree' ≡ tree → i' ≡ i → AreOtherFirsts m buckets tree i before → AreOtherFirsts m buckets' tree' i' before
others_at m buckets buckets' tree tree' i i' before eb et ei h =
    subst (λ bs. AreOtherFirsts m bs tree' i' before) (sym eb) (subst (λ ts. AreOtherFirsts m buckets ts i' before) (sym et) (subst (λ j. AreOtherFirsts m buckets tree j before) (sym ei) h))

-- where the link before that place is what its node says
pub others_from : (m : Store) (buckets : List Ends) (tree : List (Option ℕ)) (i : ℕ) (link before : Option ℕ) → link ≡ before → AreOtherFirsts m buckets tree i before → AreOtherFirsts m buckets tree i link
others_from m buckets tree i link before e h = subst (λ (b : Option ℕ). AreOtherFirsts m buckets tree i b) (sym e) h

-- no time, of no node
pub firsts_none : (held : Held) (n : ℕ) (buckets : List Ends) (tree : List (Option ℕ)) (e : Ends) → e ≡ no_ends → buckets ≡ replicate n e → tree ≡ replicate (2 * n) None → AreFirsts (node_at held) buckets tree
firsts_none held n buckets tree e ee eb et =
    let b : buckets ≡ replicate n no_ends = eb ∙ ap (replicate n) ee in
    let len : length buckets ≡ n = ap (length {A = Ends}) b ∙ length-replicate n no_ends in
    let size : length tree ≡ 2 * n = ap (length {A = Option ℕ}) et ∙ length-replicate (2 * n) None in
    let none : (p : ℕ) → time_at tree p ≡ None = (λ p. ap (λ (ts : List (Option ℕ)). time_at ts p) et ∙ nothing (2 * n) p) in
    record {
      is_tree = record { twice = omega arith; each = λ p a l. none p ∙ sym (ap (λ x. lesser_of x (time_at tree (2 * p + 1))) (none (2 * p)) ∙ none (2 * p + 1)) };
      noted = λ j l. none (length buckets + j) ∙ sym (ap (λ (bs : List Ends). time_of (node_at held) (slice_index_or bs j no_ends).first) b ∙ ap (λ (x : Ends). time_of (node_at held) x.first) (no_end n j));
    }
  where
    no_time : Option ℕ
    no_time = None

    nothing : (k p : ℕ) → slice_index_or (replicate k no_time) p no_time ≡ no_time
    nothing k p = elim (cases_lt p k) [
      | inl l ↦ get_or-replicate k p no_time no_time l
      | inr l ↦ get_or_past (replicate k no_time) p no_time (let s = length-replicate k no_time in omega (arith, l))
    ]

    no_end : (k p : ℕ) → slice_index_or (replicate k no_ends) p no_ends ≡ no_ends
    no_end k p = elim (cases_lt p k) [
      | inl l ↦ get_or-replicate k p no_ends no_ends l
      | inr l ↦ get_or_past (replicate k no_ends) p no_ends (let s = length-replicate k no_ends in omega (arith, l))
    ]

pub firsts-slots : (old new : Held) (buckets : List Ends) (tree : List (Option ℕ)) → new.slots ≡ old.slots → AreFirsts (node_at old) buckets tree → AreFirsts (node_at new) buckets tree
firsts-slots old new buckets tree e h = subst (λ (s : List (Option Node)). AreFirsts (λ k. slice_index_or s k None) buckets tree) (sym e) h

-- the time at the first place is the least of all
pub least_time : (m : Store) (buckets : List Ends) (tree : List (Option ℕ)) (least : Option ℕ) → AreBuckets m buckets → AreFirsts m buckets tree → 0 < length buckets → least ≡ time_at tree 1 → IfSome least (IsNodesTime m)
least_time m buckets tree None b h some e = tt
least_time m buckets tree (Some t) b h some e =
    let r = root_is tree (length buckets) h.is_tree (length buckets + length buckets) 1 t (omega arith) (omega arith) (omega arith) (sym e) in
    of_node (slice_index_or buckets r.0 no_ends).first (sym (h.noted r.0 r.1) ∙ r.2)
  where
    in_slot : (k : ℕ) (slot : Option Node) → m k ≡ slot → time_in slot ≡ Some t → IsNodesTime m t
    in_slot k None a g = cc
    in_slot k (Some node) a g = (k, node, a, (let q : node.time ≡ t = cc in q))

    of_node : (first : Option ℕ) → time_of m first ≡ Some t → IsNodesTime m t
    of_node None g = cc
    of_node (Some k) g = in_slot k (m k) refl g

under : (m : Store) (buckets : List Ends) (tree : List (Option ℕ)) (k : ℕ) (node : Node) → AreBuckets m buckets → AreFirsts m buckets tree → 0 < length buckets → m k ≡ Some node → (r : ℕ) × (time_at tree 1 ≡ Some r) × (r ≤ node.time)
under m buckets tree k node b h some e =
    at (slice_index_or buckets (node.time % length buckets) no_ends).first refl
  where
    i : ℕ
    i = node.time % length buckets

    within : i < length buckets
    within = let s : 0 < length buckets = some in omega arith

    at : (first : Option ℕ) → (slice_index_or buckets i no_ends).first ≡ first → (r : ℕ) × (time_at tree 1 ≡ Some r) × (r ≤ node.time)
    at None g = absurd (none_first m buckets i b within g k node e refl)
    at (Some key) g =
        let f = is_first m buckets i key b within g in
        let l : f.node.time ≤ node.time = f.least k node e refl in
        let w = within in
        let r = root_le tree (length buckets) h.is_tree (length buckets + i) (length buckets + i) f.node.time (omega arith) (omega arith) (omega arith) (h.noted i within ∙ (ap (time_of m) g ∙ ap time_in f.held)) in
        let le : r.0 ≤ f.node.time = r.2 in
        (r.0, r.1, omega arith)

pub least_first : (m : Store) (buckets : List Ends) (tree : List (Option ℕ)) (least : Option ℕ) → AreBuckets m buckets → AreFirsts m buckets tree → 0 < length buckets → least ≡ time_at tree 1 → IfSome least (NoNodeBelow m)
least_first m buckets tree None b h some e = tt
least_first m buckets tree (Some t) b h some e =
    record { each = λ k node g. let r = under m buckets tree k node b h some g in let s : Some t ≡ Some r.0 = e ∙ r.1 in let q : t ≡ r.0 = cc in let l : r.0 ≤ node.time = r.2 in omega arith }

pub least_none : (m : Store) (buckets : List Ends) (tree : List (Option ℕ)) (least : Option ℕ) → AreBuckets m buckets → AreFirsts m buckets tree → 0 < length buckets → least ≡ time_at tree 1 → IfNone least (NoNode m)
least_none m buckets tree (Some t) b h some e = tt
least_none m buckets tree None b h some e =
    record { each = λ k. at k (m k) refl }
  where
    at : (k : ℕ) (slot : Option Node) → m k ≡ slot → m k ≡ None
    at k None g = g
    at k (Some node) g = (let r = under m buckets tree k node b h some g in let s : None ≡ Some r.0 = e ∙ r.1 in cc)
