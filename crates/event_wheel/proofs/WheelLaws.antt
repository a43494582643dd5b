-- A node comes into a wheel's chains, or goes out of them.
use Rattle.std.proofs.Common.{◌==◌, true, false, if◌then◌else◌, ◌≡◌, ◌≢◌, ℕ, zero, suc, IsSome, ◌<◌, ◌≤◌, ◌%◌, List, [], ◌∷◌, ◌++◌, length, reverse, refl, sym, ◌∙◌, ap, subst, arith, inl, inr}
use Rattle.std.specs.Prelude.{slice_index_or, slice_set}
use Rattle.std.proofs.lemmas.Bool.{cases_eq}
use Rattle.std.proofs.lemmas.List.{append-nil, length-set, get_or-set_same, get_or-set_other}
use Rattle.std.proofs.lemmas.Bool.Decides.{nat_tests}
use Rattle.std.specs.declared.option.Option.{Option}
use Rattle.std.specs.declared.option.Option.TheVariants.{Some, None}
use Rattle.sg_model.specs.Pending.{IsAbove}
use Rattle.sg_model.specs.Agenda.{list_at}
use Rattle.event_wheel.specs.declared.nodes.Node.{Node}
use Rattle.event_wheel.specs.declared.chains.Ends.{Ends}
use Rattle.event_wheel.specs.Slots.{Held, node_at, link_of}
use Rattle.event_wheel.specs.Keys.{Has, AreDistinct, IsOutside}
use Rattle.event_wheel.specs.Links.{Store, AreNeighbours, known_without, end_or, ends_between, store_after_taking, store_after_putting, store_with}
use Rattle.event_wheel.specs.Chains.{head_or, last_or}
use Rattle.event_wheel.specs.Families.{IsIndexed, pair_of, pairs_at, no_ends}
use Rattle.event_wheel.specs.Kept.{AreBuckets, AreChained, HasPut, HasTaken, bucket_of, driver_of, table_of}
use Rattle.event_wheel.specs.Places.{IsBucketChain, IsPlace}
use Rattle.event_wheel.proofs.LinkLaws.{added-other, added-key, is_some-of}
use Rattle.event_wheel.proofs.KeyLaws.{has-left, has-other, has-middle, has-right, last-in, head-has, outside-not, nothing_after_last}
use Rattle.event_wheel.proofs.FamilyLaws.{with_chain, with-same, with-other, one-chain}
use Rattle.event_wheel.proofs.OrderLaws.{pairs-append, after-above}
use Rattle.event_wheel.proofs.IndexLaws.{indexed-same, pairs-apart}
use Rattle.event_wheel.proofs.EffectLaws.{bucket_home, driver_home, buckets-taken, drivers-taken, buckets-put, drivers-put, pair-taken, pair-put}
use Rattle.event_wheel.proofs.TableLaws.{table_at, table-changed}

-- a node's time, by its transition
pub time_is : (m : Store) (k : ℕ) (node : Node) → m k ≡ Some node → (pair_of (m k)).0 ≡ node.time
time_is m k node e = ap (λ s. (pair_of s).0) e

-- the chains of buckets over as many ends
abbrev pub buckets_over : (m : Store) (n : ℕ) (buckets : List Ends) (chains : ℕ → List ℕ) → n ≡ length buckets → IsIndexed m 0 1 (bucket_of n) (λ s t. s ≤ t) buckets chains → AreBuckets m buckets
buckets_over m n buckets chains e f = record { chains = chains; indexed = subst (λ k. IsIndexed m 0 1 (bucket_of k) (λ s t. s ≤ t) buckets chains) e f }

-- the chain of a bucket
pub bucket_chain : (m : Store) (buckets : List Ends) (i : ℕ) (near : Option ℕ) (b : AreBuckets m buckets) → i < length buckets → ((k : ℕ) → near ≡ Some k → Has k (b.chains i)) → IsBucketChain m (b.chains i) near (slice_index_or buckets i no_ends).first
bucket_chain m buckets i near b l has =
    record {
      sorted = record {
        chain = b.indexed.family.chain i l;
        distinct = b.indexed.family.distinct i l;
        ordered = b.indexed.ordered i l;
        closed = λ key other node same h e g t.
            let s = b.indexed.family.sound i key l h in
            let is : s.0 ≡ node = (let y : Some s.0 ≡ Some node = sym s.1 ∙ e in cc) in
            let at : same.time % length buckets ≡ i = ap (λ (n : ℕ). n % length buckets) t ∙ (ap (λ (w : Node). w.time % length buckets) (sym is) ∙ s.2) in
            subst (λ j. Has other (b.chains j)) at (b.indexed.family.complete other same g).1;
      };
      begins = ap (λ (e : Ends). e.first) (b.indexed.ends_are i l);
      has = has;
    }

-- the key that is known of a bucket is still in its chain
known_kept : (near : Option ℕ) (k : ℕ) (xs ys keys : List ℕ) (p q : Option ℕ) → ((x : ℕ) → near ≡ Some x → Has x keys) → keys ≡ xs ++ k ∷ ys → last_or None xs ≡ p → head_or None ys ≡ q → (x : ℕ) → known_without near k p q ≡ Some x → Has x (xs ++ ys)
known_kept None k xs ys keys p q h s ep eq x e = cc
known_kept (Some y) k xs ys keys p q h s ep eq x e =
    elim (cases_eq y k) [
      | inl same ↦ (let t : (y == k) ≡ true = grind (arith, nat_tests) in
          beside p q ep eq (sym (ap (λ b. if b then end_or p q p else Some y) t) ∙ e))
      | inr other ↦ (let t : (y == k) ≡ false = grind (arith, nat_tests) in
          let here : Some y ≡ Some x = sym (ap (λ b. if b then end_or p q p else Some y) t) ∙ e in
          let is : y ≡ x = cc in
          subst (λ z. Has z (xs ++ ys)) is (has-other y k xs ys other (subst (Has y) s (h y refl))))
    ]
  where
    beside : (p q : Option ℕ) → last_or None xs ≡ p → head_or None ys ≡ q → end_or p q p ≡ Some x → Has x (xs ++ ys)
    beside None q ep eq e = has-right x xs ys (head-has ys x (eq ∙ e))
    beside (Some z) q ep eq e = has-left x xs ys (last-in xs x (ep ∙ e))

-- one bucket's known key was written
known_written : (near : List (Option ℕ)) (n i : ℕ) (key : Option ℕ) (chains : ℕ → List ℕ) (keys : List ℕ) → length near ≡ n → i < n → ((j x : ℕ) → j < n → slice_index_or near j None ≡ Some x → Has x (chains j)) → ((x : ℕ) → key ≡ Some x → Has x keys)
    → (j x : ℕ) → j < n → slice_index_or (slice_set near i key) j None ≡ Some x → Has x (with_chain chains i keys j)
known_written near n i key chains keys len l h own j x lj e =
    elim (cases_eq j i) [
      | inl same ↦ subst (Has x) (sym (with-same chains i keys j same))
          (own x (sym (get_or-set_same near i key None (omega arith)) ∙ (ap (λ m. slice_index_or (slice_set near i key) m None) (sym same) ∙ e)))
      | inr other ↦ subst (Has x) (sym (with-other chains i keys j other)) (h j x lj (sym (get_or-set_other near i j key None other) ∙ e))
    ]

module _ (old new : Held) (buckets drivers buckets' drivers' : List Ends) (near near' : List (Option ℕ)) (k : ℕ) where
  -- a node was taken out
  pub has_taken : (node : Node) → AreChained old buckets drivers near → node_at old k ≡ Some node → ((j : ℕ) → node_at new j ≡ store_after_taking (node_at old) k node j)
      → buckets' ≡ slice_set buckets (node.time % length buckets) (ends_between (slice_index_or buckets (node.time % length buckets) no_ends) (link_of node 0) (link_of node 1) (link_of node 1) (link_of node 0))
      → drivers' ≡ slice_set drivers node.driver (ends_between (slice_index_or drivers node.driver no_ends) (link_of node 2) (link_of node 3) (link_of node 3) (link_of node 2))
      → near' ≡ slice_set near (node.time % length buckets) (known_without (slice_index_or near (node.time % length buckets) None) k (link_of node 0) (link_of node 1))
      → HasTaken old buckets drivers new buckets' drivers' near' k node
  has_taken node h e same eb ed en =
      let m : Store = node_at old in
      let m' : Store = node_at new in
      let i : ℕ = node.time % length buckets in
      let d : ℕ = node.driver in
      let B = h.by_time in
      let D = h.by_driver in
      let lb : length buckets' ≡ length buckets = ap length eb ∙ length-set buckets i (ends_between (slice_index_or buckets i no_ends) (link_of node 0) (link_of node 1) (link_of node 1) (link_of node 0)) in
      let ld : length drivers' ≡ length drivers = ap length ed ∙ length-set drivers d (ends_between (slice_index_or drivers d no_ends) (link_of node 2) (link_of node 3) (link_of node 3) (link_of node 2)) in
      let rb = buckets-taken m (λ s t. s ≤ t) buckets buckets' B.chains k node (bucket_of (length buckets)) i (bucket_home (length buckets)) B.indexed e refl eb in
      let rd = drivers-taken m (λ s t. s < t) drivers drivers' D.chains k node driver_of d driver_home D.indexed e refl ed in
      let within : d < length drivers = (D.indexed.family.complete k node e).0 in
      let some : 0 < length buckets = h.some in
      let li : i < length buckets = omega arith in
      let known : Option ℕ = known_without (slice_index_or near i None) k (link_of node 0) (link_of node 1) in
      let here : Has k (D.chains d) = (D.indexed.family.complete k node e).1 in
      let cb : ℕ → List ℕ = with_chain B.chains i (rb.front ++ rb.back) in
      let cd : ℕ → List ℕ = with_chain D.chains d (rd.front ++ rd.back) in
      let nb : IsIndexed m' 0 1 (bucket_of (length buckets)) (λ s t. s ≤ t) buckets' cb = indexed-same (store_after_taking m k node) m' 0 1 (bucket_of (length buckets)) (λ s t. s ≤ t) buckets' cb same rb.indexed in
      let nd : IsIndexed m' 2 3 driver_of (λ s t. s < t) drivers' cd = indexed-same (store_after_taking m k node) m' 2 3 driver_of (λ s t. s < t) drivers' cd same rd.indexed in
      let kept : (x : ℕ) → x ≢ k → pair_of (m' x) ≡ pair_of (m x) = (λ x o. ap pair_of (same x) ∙ pair-taken m k node x o) in
      let pairs : pairs_at m' (cd d) ≡ pairs_at m rd.front ++ pairs_at m rd.back =
      ap (pairs_at m') (with-same D.chains d (rd.front ++ rd.back) d refl) ∙ (pairs-apart m m' k (rd.front ++ rd.back) kept rd.outside ∙ pairs-append m rd.front rd.back) in
      record {
        held = e;
        chained = record {
          some = subst (λ n. 0 < n) (sym lb) h.some;
          by_time = buckets_over m' (length buckets) buckets' cb (sym lb) nb;
          by_driver = record { chains = cd; indexed = nd };
          as_many = ap (length {A = Option ℕ}) en ∙ (length-set near i known ∙ (h.as_many ∙ sym lb));
          near_in = λ j x lj g. known_written near (length buckets) i known B.chains (rb.front ++ rb.back) h.as_many li h.near_in
              (known_kept (slice_index_or near i None) k rb.front rb.back (B.chains i) (link_of node 0) (link_of node 1) (λ x g'. h.near_in i x li g') rb.whole rb.before_is rb.after_is)
              j x (omega arith) (ap (λ (ns : List (Option ℕ)). slice_index_or ns j None) (sym en) ∙ g);
        };
        buckets = lb;
        driver = within;
        front = pairs_at m rd.front;
        back = pairs_at m rd.back;
        list = table_at old drivers D.chains d D.indexed within ∙ (ap (pairs_at m) rd.whole ∙ (pairs-append m rd.front (k ∷ rd.back) ∙ ap (λ p. pairs_at m rd.front ++ p ∷ pairs_at m rd.back) (ap pair_of e)));
        table = table-changed old new drivers drivers' D.chains cd d (pairs_at m rd.front ++ pairs_at m rd.back) D.indexed nd ld within pairs
            (λ j lj other. ap (pairs_at m') (with-other D.chains d (rd.front ++ rd.back) j other)
            ∙ pairs-apart m m' k (D.chains j) kept (outside-not k (D.chains j) (λ g. other (one-chain m 2 3 driver_of (length drivers) D.chains D.indexed.family j d k lj within g here))));
        last = λ o lo g.
            let at : last_or None (D.chains o) ≡ Some k = sym (ap (λ (x : Ends). x.last) (D.indexed.ends_are o lo)) ∙ g in
            let od : d ≡ o = one-chain m 2 3 driver_of (length drivers) D.chains D.indexed.family d o k within lo here (last-in (D.chains o) k at) in
            let at' : last_or None (rd.front ++ k ∷ rd.back) ≡ Some k = ap (last_or None) (sym rd.whole) ∙ (ap (λ n. last_or None (D.chains n)) od ∙ at) in
            (od, ap (pairs_at m) (nothing_after_last rd.front k rd.back (subst AreDistinct rd.whole (D.indexed.family.distinct d within)) at'));
      }

-- a node was put in
pub has_put : (old new : Held) (buckets drivers buckets' drivers' : List Ends) (near near' : List (Option ℕ)) (k : ℕ) (node : Node) → AreChained old buckets drivers near → node.driver < length drivers → 4 ≤ length node.links
    → IsAbove node.time (reverse (list_at (table_of old drivers) node.driver))
    → ((keys : List ℕ) → IsBucketChain (node_at old) keys (slice_index_or near (node.time % length buckets) None) (slice_index_or buckets (node.time % length buckets) no_ends).first → IsPlace (node_at old) keys node.time (link_of node 0) (link_of node 1))
    → link_of node 2 ≡ (slice_index_or drivers node.driver no_ends).last → link_of node 3 ≡ None
    → node_at old k ≡ None → ((j : ℕ) → node_at new j ≡ store_after_putting (node_at old) k node j)
    → buckets' ≡ slice_set buckets (node.time % length buckets) (ends_between (slice_index_or buckets (node.time % length buckets) no_ends) (link_of node 0) (link_of node 1) (Some k) (Some k))
    → drivers' ≡ slice_set drivers node.driver (ends_between (slice_index_or drivers node.driver no_ends) (link_of node 2) (link_of node 3) (Some k) (Some k))
    → near' ≡ slice_set near (node.time % length buckets) (Some k)
    → HasPut old buckets drivers new buckets' drivers' near' node.driver (node.time, node.value)
has_put old new buckets drivers buckets' drivers' near near' k node h within four above place last end free same eb ed en =
    let m : Store = node_at old in
    let m' : Store = node_at new in
    let n : ℕ = length buckets in
    let i : ℕ = node.time % n in
    let d : ℕ = node.driver in
    let some : 0 < n = h.some in
    let li : i < n = omega arith in
    let B = h.by_time in
    let D = h.by_driver in
    let lb : length buckets' ≡ n = ap length eb ∙ length-set buckets i (ends_between (slice_index_or buckets i no_ends) (link_of node 0) (link_of node 1) (Some k) (Some k)) in
    let ld : length drivers' ≡ length drivers = ap length ed ∙ length-set drivers d (ends_between (slice_index_or drivers d no_ends) (link_of node 2) (link_of node 3) (Some k) (Some k)) in
    let at = place (B.chains i) (bucket_chain m buckets i (slice_index_or near i None) B li (λ x g. h.near_in i x li g)) in
    let keys : List ℕ = D.chains d in
    let in_bucket : (x : ℕ) → Has x (at.front ++ at.back) → x ≢ k =
    (λ x g e. let s = B.indexed.family.sound i x li (subst (Has x) (sym at.whole) g) in let y : None ≡ Some s.0 = sym free ∙ (ap m (sym e) ∙ s.1) in cc) in
    let before_new : link_of node 0 ≢ Some k = (λ e. in_bucket k (has-left k at.front at.back (last-in at.front k (sym at.before_is ∙ e))) refl) in
    let after_new : link_of node 1 ≢ Some k = (λ e. in_bucket k (has-right k at.front at.back (head-has at.back k (sym at.after_is ∙ e))) refl) in
    let nb : IsIndexed (store_after_putting m k node) 0 1 (bucket_of n) (λ s t. s ≤ t) buckets' (with_chain B.chains i (at.front ++ k ∷ at.back)) =
    buckets-put m (λ s t. s ≤ t) buckets buckets' B.chains k node (bucket_of n) at.front at.back (bucket_home n) four B.indexed free li at.whole at.before_is at.after_is at.earlier at.later eb in
    let is_last : link_of node 2 ≡ last_or None keys = last ∙ ap (λ (x : Ends). x.last) (D.indexed.ends_are d within) in
    let over : IsAbove node.time (reverse (pairs_at m keys)) = subst (λ ps. IsAbove node.time (reverse ps)) (table_at old drivers D.chains d D.indexed within) above in
    let nd : IsIndexed (store_after_putting m k node) 2 3 driver_of (λ s t. s < t) drivers' (with_chain D.chains d (keys ++ k ∷ [])) =
    drivers-put m (λ s t. s < t) drivers drivers' D.chains k node driver_of keys [] driver_home four D.indexed free within (sym (append-nil keys)) is_last end
    (after-above (pairs_at m keys) node.time (D.indexed.ordered d within) over) tt before_new after_new ed in
    let cb : ℕ → List ℕ = with_chain B.chains i (at.front ++ k ∷ at.back) in
    let cd : ℕ → List ℕ = with_chain D.chains d (keys ++ k ∷ []) in
    let nb' : IsIndexed m' 0 1 (bucket_of n) (λ s t. s ≤ t) buckets' cb = indexed-same (store_after_putting m k node) m' 0 1 (bucket_of n) (λ s t. s ≤ t) buckets' cb same nb in
    let nd' : IsIndexed m' 2 3 driver_of (λ s t. s < t) drivers' cd = indexed-same (store_after_putting m k node) m' 2 3 driver_of (λ s t. s < t) drivers' cd same nd in
    let stays : (x : ℕ) → pair_of (m' x) ≡ pair_of (store_with m k node x) = (λ x. ap pair_of (same x) ∙ pair-put m k node x) in
    let kept : (x : ℕ) → x ≢ k → pair_of (m' x) ≡ pair_of (m x) = (λ x o. stays x ∙ ap pair_of (added-other m k node x o)) in
    let own : pair_of (m' k) ≡ (node.time, node.value) = stays k ∙ ap pair_of (added-key m k node) in
    let new_key : (j : ℕ) → j < length drivers → IsOutside k (D.chains j) = (λ j lj. outside-not k (D.chains j) (λ g. let t = D.indexed.family.sound j k lj g in let x : None ≡ Some t.0 = sym free ∙ t.1 in cc)) in
    let pairs : pairs_at m' (cd d) ≡ list_at (table_of old drivers) d ++ (node.time, node.value) ∷ [] =
    ap (pairs_at m') (with-same D.chains d (keys ++ k ∷ []) d refl)
    ∙ (pairs-append m' keys (k ∷ [])
    ∙ (ap (λ ps. ps ++ pair_of (m' k) ∷ []) (pairs-apart m m' k keys kept (new_key d within) ∙ sym (table_at old drivers D.chains d D.indexed within))
    ∙ ap (λ p. list_at (table_of old drivers) d ++ p ∷ []) own)) in
    record {
      chained = record {
        some = subst (λ x. 0 < x) (sym lb) some;
        by_time = buckets_over m' n buckets' cb (sym lb) nb';
        by_driver = record { chains = cd; indexed = nd' };
        as_many = ap (length {A = Option ℕ}) en ∙ (length-set near i (Some k) ∙ (h.as_many ∙ sym lb));
        near_in = λ j x lj g. known_written near n i (Some k) B.chains (at.front ++ k ∷ at.back) h.as_many li h.near_in
            (λ x e. let s : k ≡ x = cc in subst (λ y. Has y (at.front ++ k ∷ at.back)) s (has-middle k at.front at.back))
            j x (omega arith) (ap (λ (ns : List (Option ℕ)). slice_index_or ns j None) (sym en) ∙ g);
      };
      buckets = lb;
      table = table-changed old new drivers drivers' D.chains cd d (list_at (table_of old drivers) d ++ (node.time, node.value) ∷ []) D.indexed nd' ld within pairs
          (λ j lj other. ap (pairs_at m') (with-other D.chains d (keys ++ k ∷ []) j other) ∙ pairs-apart m m' k (D.chains j) kept (new_key j lj));
    }

-- the neighbours of a node that is put in
pub put_neighbours : (held : Held) (buckets drivers : List Ends) (near : List (Option ℕ)) (driver time : ℕ) (before after last : Option ℕ) → AreChained held buckets drivers near → driver < length drivers
    → ((keys : List ℕ) → IsBucketChain (node_at held) keys (slice_index_or near (time % length buckets) None) (slice_index_or buckets (time % length buckets) no_ends).first → IsPlace (node_at held) keys time before after)
    → last ≡ (slice_index_or drivers driver no_ends).last → AreNeighbours (node_at held) (before ∷ after ∷ last ∷ None ∷ [])
put_neighbours held buckets drivers near driver time before after last h within place is_last = record { each = each }
  where
    some : 0 < length buckets
    some = h.some

    inside : time % length buckets < length buckets
    inside = let l = h.some in omega arith

    at : IsPlace (node_at held) (h.by_time.chains (time % length buckets)) time before after
    at = place (h.by_time.chains (time % length buckets)) (bucket_chain (node_at held) buckets (time % length buckets) (slice_index_or near (time % length buckets) None) h.by_time inside (λ x g. h.near_in (time % length buckets) x inside g))

    in_bucket : (k : ℕ) → Has k (at.front ++ at.back) → IsSome (node_at held k)
    in_bucket k g = let s = h.by_time.indexed.family.sound (time % length buckets) k inside (subst (Has k) (sym at.whole) g) in is_some-of (node_at held k) s.0 s.1

    in_driver : (k : ℕ) → last_or None (h.by_driver.chains driver) ≡ Some k → IsSome (node_at held k)
    in_driver k e = let s = h.by_driver.indexed.family.sound driver k within (last-in (h.by_driver.chains driver) k e) in is_some-of (node_at held k) s.0 s.1

    each : (side k : ℕ) → slice_index_or (before ∷ after ∷ last ∷ None ∷ []) side None ≡ Some k → IsSome (node_at held k)
    each zero k e = in_bucket k (has-left k at.front at.back (last-in at.front k (sym at.before_is ∙ e)))
    each (suc zero) k e = in_bucket k (has-right k at.front at.back (head-has at.back k (sym at.after_is ∙ e)))
    each (suc (suc zero)) k e = in_driver k (sym (is_last ∙ ap (λ (x : Ends). x.last) (h.by_driver.indexed.ends_are driver within)) ∙ e)
    each (suc (suc (suc zero))) k e = cc
    each (suc (suc (suc (suc side)))) k e = cc
