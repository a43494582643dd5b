-- What an agenda promises, of the table that a wheel stands for.
use Rattle.std.proofs.Common.{◌≡◌, ◌≢◌, ℕ, zero, suc, ◌<◌, ◌≤◌, ◌%◌, ◌==◌, Bool, true, false, if◌then◌else◌, List, [], ◌∷◌, ◌++◌, length, reverse, refl, sym, ◌∙◌, ap, subst, arith, inl, inr}
use Rattle.std.specs.Prelude.{slice_index_or, IfSome, IfNone}
use Rattle.std.specs.List.{Contains}
use Rattle.std.specs.Bool.{OnTrue, OnFalse}
use Rattle.std.specs.Option.{is_some}
use Rattle.std.proofs.lemmas.Bool.{OnTrue_from, OnFalse_from}
use Rattle.std.proofs.lemmas.Bool.Decides.{nat_tests}
use Rattle.std.proofs.lemmas.List.{reverse-append, reverse-reverse}
use Rattle.std.specs.declared.option.Option.{Option}
use Rattle.std.specs.declared.option.Option.TheVariants.{Some, None}
use Rattle.sg_logic.specs.declared.values.Value.{Value}
use Rattle.sg_model.specs.Pending.{first_of, rest_of, last_of, without_last}
use Rattle.sg_model.specs.Agenda.{list_at, with_list, due, NoneBelow, NothingBelow, NothingDue, IsTaken, BeginsAt, IsLeastTime, AllEmpty}
use Rattle.event_wheel.specs.declared.nodes.Node.{Node}
use Rattle.event_wheel.specs.declared.chains.Ends.{Ends}
use Rattle.event_wheel.specs.Slots.{Held, node_at, link_of}
use Rattle.event_wheel.specs.Keys.{Has}
use Rattle.event_wheel.specs.Links.{Store}
use Rattle.event_wheel.specs.Chains.{head_or, last_or, Chain}
use Rattle.event_wheel.specs.Families.{IsOrdered, pair_of, pairs_at, no_ends}
use Rattle.event_wheel.specs.Kept.{AreChained, AreBuckets, AreDrivers, HasTaken, NoNodeBelow, NoNode, IsNodesTime, IsWheel, table_of, view_of}
use Rattle.event_wheel.specs.Wheel.{WheelView, HoldsPairs, IsBucket, Leads}
use Rattle.event_wheel.specs.Places.{StartsAt}
use Rattle.event_wheel.proofs.OrderLaws.{pairs-append, before-parts, before-has}
use Rattle.event_wheel.proofs.TableLaws.{IsTabled, table_at, in_table, to_table, table-ordered}
use Rattle.event_wheel.proofs.WheelLaws.{time_is}
use Rattle.event_wheel.proofs.PlaceLaws.{last_split, last_none}
use Rattle.event_wheel.proofs.SearchLaws.{begins_is, none_at}
use Rattle.event_wheel.proofs.WriteLaws.{read_near}
use Rattle.event_wheel.proofs.LeastLaws.{least_time, least_first, least_none}

-- the list without its last pair
without_last-push : (ps : List (ℕ × Value)) (p : ℕ × Value) → without_last (ps ++ p ∷ []) ≡ ps
without_last-push ps p = ap (λ qs. reverse (rest_of qs)) (reverse-append ps (p ∷ [])) ∙ reverse-reverse ps

last_of-push : (ps : List (ℕ × Value)) (p : ℕ × Value) → last_of (ps ++ p ∷ []) ≡ Some p
last_of-push ps p = ap first_of (reverse-append ps (p ∷ []))

nil_after : (ps : List (ℕ × Value)) → ps ++ [] ≡ ps
nil_after [] = refl
nil_after (p ∷ ps) = ap (λ qs. p ∷ qs) (nil_after ps)

-- a driver's last node was taken
pub cancel_drops_last : (old new : Held) (buckets drivers buckets' drivers' : List Ends) (near' : List (Option ℕ)) (driver k : ℕ) (node : Node) → HasTaken old buckets drivers new buckets' drivers' near' k node → driver < length drivers → (slice_index_or drivers driver no_ends).last ≡ Some k
    → table_of new drivers' ≡ with_list (table_of old drivers) driver (without_last (list_at (table_of old drivers) driver))
cancel_drops_last old new buckets drivers buckets' drivers' near' driver k node h l e =
    let t : List (List (ℕ × Value)) = table_of old drivers in
    let r = h.last driver l e in
    let list : list_at t driver ≡ h.front ++ (node.time, node.value) ∷ [] = ap (list_at t) (sym r.0) ∙ (h.list ∙ ap (λ qs. h.front ++ (node.time, node.value) ∷ qs) r.1) in
    let rest : h.front ++ h.back ≡ without_last (list_at t driver) = ap (λ qs. h.front ++ qs) r.1 ∙ (nil_after h.front ∙ sym (ap without_last list ∙ without_last-push h.front (node.time, node.value))) in
    h.table ∙ (ap (λ d. with_list t d (h.front ++ h.back)) r.0 ∙ ap (with_list t driver) rest)

-- the last of a driver's list
pub last_some : (held : Held) (drivers : List Ends) (chains : ℕ → List ℕ) (driver k : ℕ) (node : Node) → IsTabled held drivers chains → driver < length drivers → (slice_index_or drivers driver no_ends).last ≡ Some k → node_at held k ≡ Some node
    → last_of (list_at (table_of held drivers) driver) ≡ Some (node.time, node.value)
last_some held drivers chains driver k node f l e at =
    let m : Store = node_at held in
    let last : last_or None (chains driver) ≡ Some k = sym (ap (λ (x : Ends). x.last) (f.ends_are driver l)) ∙ e in
    let r = last_split (chains driver) k last in
    ap last_of (table_at held drivers chains driver f l ∙ (ap (pairs_at m) r.1 ∙ pairs-append m r.0 (k ∷ []))) ∙ (last_of-push (pairs_at m r.0) (pair_of (m k)) ∙ ap (λ s. Some (pair_of s)) at)

pub list_none : (held : Held) (drivers : List Ends) (chains : ℕ → List ℕ) (driver : ℕ) → IsTabled held drivers chains → driver < length drivers → (slice_index_or drivers driver no_ends).last ≡ None → list_at (table_of held drivers) driver ≡ []
list_none held drivers chains driver f l e =
    table_at held drivers chains driver f l ∙ ap (pairs_at (node_at held)) (last_none (chains driver) (sym (ap (λ (x : Ends). x.last) (f.ends_are driver l)) ∙ e))

pub last_nothing : (held : Held) (drivers : List Ends) (chains : ℕ → List ℕ) (driver : ℕ) → IsTabled held drivers chains → driver < length drivers → (slice_index_or drivers driver no_ends).last ≡ None → last_of (list_at (table_of held drivers) driver) ≡ None
last_nothing held drivers chains driver f l e = ap last_of (list_none held drivers chains driver f l e)

pub list_some : (held : Held) (drivers : List Ends) (chains : ℕ → List ℕ) (driver k : ℕ) → IsTabled held drivers chains → driver < length drivers → (slice_index_or drivers driver no_ends).last ≡ Some k → 0 < length (list_at (table_of held drivers) driver)
list_some held drivers chains driver k f l e =
    some (chains driver) (sym (ap (λ (x : Ends). x.last) (f.ends_are driver l)) ∙ e) (sym (table_at held drivers chains driver f l))
  where
    some : (ks : List ℕ) → last_or None ks ≡ Some k → pairs_at (node_at held) ks ≡ list_at (table_of held drivers) driver → 0 < length (list_at (table_of held drivers) driver)
    some [] g e' = cc
    some (x ∷ xs) g e' = subst (λ qs. 0 < length qs) e' (omega arith)

-- the last key of a driver with a transition is that of a node
pub last_is : (held : Held) (drivers : List Ends) (chains : ℕ → List ℕ) (driver k : ℕ) → IsTabled held drivers chains → driver < length drivers → (slice_index_or drivers driver no_ends).last ≡ Some k → (node : Node) × (node_at held k ≡ Some node) × (node.driver ≡ driver)
last_is held drivers chains driver k f l e =
    let r = last_split (chains driver) k (sym (ap (λ (x : Ends). x.last) (f.ends_are driver l)) ∙ e) in
    f.family.sound driver k l (subst (Has k) (sym r.1) (has_last r.0))
  where
    has_last : (xs : List ℕ) → Has k (xs ++ k ∷ [])
    has_last [] = inl refl
    has_last (x ∷ xs) = inr (has_last xs)

-- where nothing is below a time in the table, no node is
below-has : (m : Store) (now : ℕ) (ks : List ℕ) (k : ℕ) → NoneBelow now (pairs_at m ks) → Has k ks → now ≤ (pair_of (m k)).0
below-has m now [] k b h = absurd h
below-has m now (x ∷ xs) k b (inl e) = subst (λ y. now ≤ (pair_of (m y)).0) e b.0
below-has m now (x ∷ xs) k b (inr h) = below-has m now xs k b.1 h

pub nodes_from : (held : Held) (drivers : List Ends) (chains : ℕ → List ℕ) (now : ℕ) → IsTabled held drivers chains → NothingBelow now (table_of held drivers) → NoNodeBelow (node_at held) now
nodes_from held drivers chains now f b =
    record {
      each = λ k node e.
          let c = f.family.complete k node e in
          let below : NoneBelow now (pairs_at (node_at held) (chains node.driver)) = subst (NoneBelow now) (table_at held drivers chains node.driver f c.0) (b node.driver (to_table held drivers node.driver c.0)) in
          let l : now ≤ (pair_of (node_at held k)).0 = below-has (node_at held) now (chains node.driver) k below c.1 in
          let t = time_is (node_at held) k node e in
          omega arith;
    }

-- where no node has a time, nothing is due then
pub no_due : (held : Held) (drivers : List Ends) (chains : ℕ → List ℕ) (now : ℕ) → IsTabled held drivers chains → ((k : ℕ) (node : Node) → node_at held k ≡ Some node → node.time ≡ now → ⊥) → NothingDue now (table_of held drivers)
no_due held drivers chains now f none =
    record { none = λ d l. let within = in_table held drivers d l in ap (due now) (table_at held drivers chains d f within) ∙ at (chains d) (λ k h. let s = f.family.sound d k within h in (s.0, s.1)) }
  where
    at : (ks : List ℕ) → ((k : ℕ) → Has k ks → (node : Node) × (node_at held k ≡ Some node)) → due now (pairs_at (node_at held) ks) ≡ None
    at [] s = refl
    at (k ∷ ks) s =
        let r = s k (inl refl) in
        let t = time_is (node_at held) k r.0 r.1 in
        let apart : (pair_of (node_at held k)).0 ≢ now = (λ e. none k r.0 r.1 (sym t ∙ e)) in
        let no_match : ((pair_of (node_at held k)).0 == now) ≡ false = grind (arith, nat_tests) in
        ap (λ b. if b then Some (pair_of (node_at held k)).1 else None) no_match

-- a node that is due is its driver's first
front_none : (front : List (ℕ × Value)) (p : ℕ × Value) (back : List (ℕ × Value)) (now : ℕ) → IsOrdered (λ s t. s < t) (front ++ p ∷ back) → NoneBelow now (front ++ p ∷ back) → p.0 ≡ now → front ≡ []
front_none [] p back now o b e = refl
front_none (q ∷ qs) p back now o b e =
    let l : q.0 < p.0 = (before-parts (λ s t. s < t) q.0 qs (p ∷ back) o.0).1.0 in
    let k : now ≤ q.0 = b.0 in
    absurd (omega arith)

pub take_gives_due : (old new : Held) (buckets drivers buckets' drivers' : List Ends) (near' : List (Option ℕ)) (chains : ℕ → List ℕ) (now k : ℕ) (node : Node) → IsTabled old drivers chains → HasTaken old buckets drivers new buckets' drivers' near' k node → NothingBelow now (table_of old drivers) → node.time ≡ now
    → IsTaken now (table_of old drivers) (table_of new drivers') (node.driver, node.value)
take_gives_due old new buckets drivers buckets' drivers' near' chains now k node f h b e =
    let t : List (List (ℕ × Value)) = table_of old drivers in
    let d : ℕ = node.driver in
    let p : ℕ × Value = (node.time, node.value) in
    let within : d < length t = to_table old drivers d h.driver in
    let none : h.front ≡ [] = front_none h.front p h.back now (subst (IsOrdered (λ s t. s < t)) h.list (table-ordered old drivers chains d f h.driver)) (subst (NoneBelow now) h.list (b d within)) e in
    let list : list_at t d ≡ p ∷ h.back = h.list ∙ ap (λ qs. qs ++ p ∷ h.back) none in
    let same : (node.time == now) ≡ true = grind (arith, nat_tests) in
    record {
      driver = within;
      due = ap (due now) list ∙ ap (λ c. if c then Some node.value else None) same;
      lists = h.table ∙ (ap (λ qs. with_list t d (qs ++ h.back)) none ∙ ap (λ qs. with_list t d (rest_of qs)) (sym list));
    }

-- the least time of the nodes is that of the table
pub least_is : (held : Held) (drivers : List Ends) (chains : ℕ → List ℕ) (time : ℕ) → IsTabled held drivers chains → IsNodesTime (node_at held) time → NoNodeBelow (node_at held) time → IsLeastTime (table_of held drivers) time
least_is held drivers chains time f h b =
    let m : Store = node_at held in
    let node : Node = h.1 in
    let d : ℕ = node.driver in
    let c = f.family.complete h.0 node h.2 in
    record {
      some = (d, to_table held drivers d c.0, subst (λ qs. BeginsAt qs time) (sym (table_at held drivers chains d f c.0)) (begins (chains d) (f.ordered d c.0) (λ k g. let s = f.family.sound d k c.0 g in (s.0, s.1)) c.1));
      least = λ e first l g. let within = in_table held drivers e l in
          from (chains e) first (λ k g'. let s = f.family.sound e k within g' in (s.0, s.1)) (subst (λ qs. BeginsAt qs first) (table_at held drivers chains e f within) g);
    }
  where
    begins : (ks : List ℕ) → IsOrdered (λ s t. s < t) (pairs_at (node_at held) ks) → ((k : ℕ) → Has k ks → (node : Node) × (node_at held k ≡ Some node)) → Has h.0 ks → BeginsAt (pairs_at (node_at held) ks) time
    begins [] o s g = absurd g
    begins (x ∷ xs) o s (inl e) = ap (λ y. (pair_of (node_at held y)).0) e ∙ (time_is (node_at held) h.0 h.1 h.2 ∙ h.3)
    begins (x ∷ xs) o s (inr g) =
        let r = s x (inl refl) in
        let l : time ≤ r.0.time = b.each x r.0 r.1 in
        let t = time_is (node_at held) x r.0 r.1 in
        let k : (pair_of (node_at held x)).0 < (pair_of (node_at held h.0)).0 = before-has (λ s t. s < t) (pair_of (node_at held x)).0 (node_at held) xs h.0 o.0 g in
        let u = time_is (node_at held) h.0 h.1 h.2 in
        let w : h.1.time ≡ time = h.3 in
        omega arith

    from : (ks : List ℕ) (first : ℕ) → ((k : ℕ) → Has k ks → (node : Node) × (node_at held k ≡ Some node)) → BeginsAt (pairs_at (node_at held) ks) first → time ≤ first
    from [] first s g = absurd g
    from (x ∷ xs) first s g =
        let r = s x (inl refl) in
        let l : time ≤ r.0.time = b.each x r.0 r.1 in
        let t = time_is (node_at held) x r.0 r.1 in
        omega arith

pub all_empty : (held : Held) (drivers : List Ends) (chains : ℕ → List ℕ) → IsTabled held drivers chains → NoNode (node_at held) → AllEmpty (table_of held drivers)
all_empty held drivers chains f none =
    record { each = λ d l. let within = in_table held drivers d l in table_at held drivers chains d f within ∙ at (chains d) (λ k h. let s = f.family.sound d k within h in (s.0, s.1)) }
  where
    at : (ks : List ℕ) → ((k : ℕ) → Has k ks → (node : Node) × (node_at held k ≡ Some node)) → pairs_at (node_at held) ks ≡ []
    at [] s = refl
    at (k ∷ ks) s = let r = s k (inl refl) in absurd (let x : None ≡ Some r.0 = sym (none.each k) ∙ r.1 in cc)

-- the nodes are those of the table
contains_key : (m : Store) (ks : List ℕ) (p : ℕ × Value) → Contains (pairs_at m ks) p → (k : ℕ) × Has k ks × (pair_of (m k) ≡ p)
contains_key m [] p (i, l, e) = absurd (omega arith)
contains_key m (x ∷ xs) p (zero, l, e) = (x, inl refl, e)
contains_key m (x ∷ xs) p (suc i, l, e) = let r = contains_key m xs p (i, omega arith, e) in (r.0, inr r.1, r.2)

has_contains : (m : Store) (ks : List ℕ) (k : ℕ) → Has k ks → Contains (pairs_at m ks) (pair_of (m k))
has_contains m [] k h = absurd h
has_contains m (x ∷ xs) k (inl e) = (0, omega arith, ap (λ y. pair_of (m y)) e)
has_contains m (x ∷ xs) k (inr h) = let r = has_contains m xs k h in (suc r.0, (let l = r.1 in omega arith), r.2)

ordered_once : (m : Store) (ks : List ℕ) (k j : ℕ) → IsOrdered (λ s t. s < t) (pairs_at m ks) → Has k ks → Has j ks → (pair_of (m k)).0 ≡ (pair_of (m j)).0 → k ≡ j
ordered_once m [] k j o h g e = absurd h
ordered_once m (x ∷ xs) k j o (inl a) (inl b) e = sym a ∙ b
ordered_once m (x ∷ xs) k j o (inl a) (inr g) e =
    let l : (pair_of (m x)).0 < (pair_of (m j)).0 = before-has (λ s t. s < t) (pair_of (m x)).0 m xs j o.0 g in
    let s : (pair_of (m x)).0 ≡ (pair_of (m k)).0 = ap (λ y. (pair_of (m y)).0) a in
    absurd (omega arith)
ordered_once m (x ∷ xs) k j o (inr h) (inl b) e =
    let l : (pair_of (m x)).0 < (pair_of (m k)).0 = before-has (λ s t. s < t) (pair_of (m x)).0 m xs k o.0 h in
    let s : (pair_of (m x)).0 ≡ (pair_of (m j)).0 = ap (λ y. (pair_of (m y)).0) b in
    absurd (omega arith)
ordered_once m (x ∷ xs) k j o (inr h) (inr g) e = ordered_once m xs k j o.1 h g e

pub holds_pairs : (held : Held) (drivers : List Ends) (chains : ℕ → List ℕ) → IsTabled held drivers chains → HoldsPairs held (table_of held drivers)
holds_pairs held drivers chains f =
    let m : Store = node_at held in
    record {
      some = λ d p l c.
          let within = in_table held drivers d l in
          let r = contains_key m (chains d) p (subst (λ qs. Contains qs p) (table_at held drivers chains d f within) c) in
          let s = f.family.sound d r.0 within r.1 in
          (r.0, (s.0, s.1, s.2, sym (ap pair_of s.1) ∙ r.2));
      once = λ d k j p a b.
          let ca = f.family.complete k a.0 a.1 in
          let cb = f.family.complete j b.0 b.1 in
          let within : d < length drivers = subst (λ i. i < length drivers) a.2 ca.0 in
          let ha : Has k (chains d) = subst (λ i. Has k (chains i)) a.2 ca.1 in
          let hb : Has j (chains d) = subst (λ i. Has j (chains i)) b.2 cb.1 in
          let same : pair_of (m k) ≡ pair_of (m j) = ap pair_of a.1 ∙ (a.3 ∙ (sym b.3 ∙ sym (ap pair_of b.1))) in
          ordered_once m (chains d) k j (f.ordered d within) ha hb (ap (λ (q : ℕ × Value). q.0) same);
      only = λ k d p a.
          let c = f.family.complete k a.0 a.1 in
          let within : d < length drivers = subst (λ i. i < length drivers) a.2 c.0 in
          let h : Has k (chains d) = subst (λ i. Has k (chains i)) a.2 c.1 in (
            to_table held drivers d within,
            subst (λ qs. Contains qs p) (sym (table_at held drivers chains d f within)) (subst (Contains (pairs_at m (chains d))) (ap pair_of a.1 ∙ a.3) (has_contains m (chains d) k h)),
          );
    }

-- the chain of a bucket
leads : (held : Held) (b a : ℕ) (prev : Option ℕ) (ks : List ℕ) (at : Option ℕ) → Chain (node_at held) b a prev ks None → at ≡ head_or None ks → Leads held a at ks
leads held b a prev [] at h e = e
leads held b a prev (k ∷ ks) at h e = (e, (h.0.node, h.0.held, leads held b a (Some k) ks (link_of h.0.node a) h.1 h.0.after))

pub is_bucket : (held : Held) (buckets : List Ends) (i : ℕ) (first : Option ℕ) → AreBuckets (node_at held) buckets → i < length buckets → first ≡ (slice_index_or buckets i no_ends).first → IsBucket held (length buckets) i first
is_bucket held buckets i first b l e =
    let f = b.indexed in
    record {
      keys = b.chains i;
      chain = leads held 0 1 None (b.chains i) first (f.family.chain i l) (e ∙ ap (λ (x : Ends). x.first) (f.ends_are i l));
      once = f.family.distinct i l;
      only = λ k h. f.family.sound i k l h;
      all = λ k node h g. subst (λ j. Has k (b.chains j)) g (f.family.complete k node h).1;
    }

-- the table is that of the slots
pub table-slots : (old new : Held) (drivers : List Ends) → new.slots ≡ old.slots → table_of new drivers ≡ table_of old drivers
table-slots old new drivers e = subst (λ s. table_of (record { slots = s; room = 0 }) drivers ≡ table_of old drivers) (sym e) refl

pub chained-slots : (old new : Held) (buckets drivers : List Ends) (near : List (Option ℕ)) → new.slots ≡ old.slots → AreChained old buckets drivers near → AreChained new buckets drivers near
chained-slots old new buckets drivers near e h =
    (subst (λ (s : List (Option Node)). (b : AreBuckets (λ k. slice_index_or s k None) buckets) → ((i k : ℕ) → i < length buckets → slice_index_or near i None ≡ Some k → Has k (b.chains i)) → AreDrivers (λ k. slice_index_or s k None) drivers → AreChained new buckets drivers near) e
    (λ b n d. record { some = h.some; by_time = b; by_driver = d; as_many = h.as_many; near_in = n })) h.by_time h.near_in h.by_driver

-- a driver of a wheel that is seen
pub driver_in : (held : Held) (buckets drivers : List Ends) (v : WheelView) (d : ℕ) → view_of held buckets drivers ≡ v → d < length v.lists → d < length drivers
driver_in held buckets drivers v d e l = in_table held drivers d (subst (λ (w : WheelView). d < length w.lists) (sym e) l)

-- whether a driver has a transition
is_some_true : (o : Option ℕ) → is_some o ≡ true → (k : ℕ) × (o ≡ Some k)
is_some_true None e = cc
is_some_true (Some k) e = (k, refl)

is_some_false : (o : Option ℕ) → is_some o ≡ false → o ≡ None
is_some_false None e = refl
is_some_false (Some k) e = cc

pub has_yes : (held : Held) (buckets drivers : List Ends) (near : List (Option ℕ)) (v : WheelView) (d : ℕ) (last : Option ℕ) (b : Bool) → AreChained held buckets drivers near → view_of held buckets drivers ≡ v → d < length v.lists → last ≡ (slice_index_or drivers d no_ends).last → b ≡ is_some last
    → OnTrue b (0 < length (list_at v.lists d))
has_yes held buckets drivers near v d last b h e l is eb =
    OnTrue_from b (0 < length (list_at v.lists d))
    (λ t. let k = is_some_true last (sym eb ∙ t) in
    let within = driver_in held buckets drivers v d e l in
    subst (λ (w : WheelView). 0 < length (list_at w.lists d)) e (list_some held drivers h.by_driver.chains d k.0 h.by_driver.indexed within (sym is ∙ k.1)))

pub has_no : (held : Held) (buckets drivers : List Ends) (near : List (Option ℕ)) (v : WheelView) (d : ℕ) (last : Option ℕ) (b : Bool) → AreChained held buckets drivers near → view_of held buckets drivers ≡ v → d < length v.lists → last ≡ (slice_index_or drivers d no_ends).last → b ≡ is_some last
    → OnFalse b (list_at v.lists d ≡ [])
has_no held buckets drivers near v d last b h e l is eb =
    OnFalse_from b (list_at v.lists d ≡ [])
    (λ t. let none = is_some_false last (sym eb ∙ t) in
    let within = driver_in held buckets drivers v d e l in
    subst (λ (w : WheelView). list_at w.lists d ≡ []) e (list_none held drivers h.by_driver.chains d h.by_driver.indexed within (sym is ∙ none)))

-- nothing is due where its bucket doesn't begin with it
pub unmet_none : (m : Store) (first : Option ℕ) (now : ℕ) → first ≡ None → StartsAt m first now → ⊥
unmet_none m None now e h = h
unmet_none m (Some k) now e h = cc

pub unmet_other : (m : Store) (first : Option ℕ) (key now : ℕ) (node : Node) → first ≡ Some key → m key ≡ Some node → node.time ≢ now → StartsAt m first now → ⊥
unmet_other m first key now node e h d b =
    let r = begins_is m first now b in
    let same : r.0 ≡ key = (let y : Some r.0 ≡ Some key = sym r.2 ∙ e in cc) in
    let node_same : r.1 ≡ node = (let y : Some r.1 ≡ Some node = sym r.3 ∙ (ap m same ∙ h) in cc) in
    d (ap (λ (x : Node). x.time) (sym node_same) ∙ r.4)

pub nothing_due : (held : Held) (buckets drivers : List Ends) (near : List (Option ℕ)) (v : WheelView) (now i : ℕ) (first : Option ℕ) → AreChained held buckets drivers near → view_of held buckets drivers ≡ v → NothingBelow now v.lists → i ≡ now % length buckets → first ≡ (slice_index_or buckets i no_ends).first
    → (StartsAt (node_at held) first now → ⊥) → NothingDue now v.lists
nothing_due held buckets drivers near v now i first h e below ei ef unmet =
    let D = h.by_driver in
    let from : NoNodeBelow (node_at held) now = nodes_from held drivers D.chains now D.indexed (subst (λ (w : WheelView). NothingBelow now w.lists) (sym e) below) in
    subst (λ (w : WheelView). NothingDue now w.lists) e
    (no_due held drivers D.chains now D.indexed (none_at (node_at held) buckets i now first h.by_time h.some ei ef from unmet))

-- where no node is below a time, nothing is in the table
pub nothing_below : (held : Held) (drivers : List Ends) (chains : ℕ → List ℕ) (time : ℕ) → IsTabled held drivers chains → NoNodeBelow (node_at held) time → NothingBelow time (table_of held drivers)
nothing_below held drivers chains time f b =
    λ d l. let within = in_table held drivers d l in subst (NoneBelow time) (sym (table_at held drivers chains d f within)) (at (chains d) (λ k h. let s = f.family.sound d k within h in (s.0, s.1)))
  where
    at : (ks : List ℕ) → ((k : ℕ) → Has k ks → (node : Node) × (node_at held k ≡ Some node)) → NoneBelow time (pairs_at (node_at held) ks)
    at [] s = tt
    at (k ∷ ks) s =
        let r = s k (inl refl) in
        let l : time ≤ r.0.time = b.each k r.0 r.1 in
        let t = time_is (node_at held) k r.0 r.1 in
        (omega arith, at ks (λ j h. s j (inr h)))

-- the first place of the tree has the least time of the table
module _ (held : Held) (buckets drivers : List Ends) (near firsts : List (Option ℕ)) (v : WheelView) where
  root : (least : Option ℕ) → IsWheel held buckets drivers near firsts → least ≡ slice_index_or firsts 1 least → least ≡ slice_index_or firsts 1 None
  root least w e = let n = w.noted.is_tree.twice in let s = w.chained.some in read_near firsts 1 1 least refl (omega arith) e

  pub promised_some : (least : Option ℕ) → IsWheel held buckets drivers near firsts → view_of held buckets drivers ≡ v → least ≡ slice_index_or firsts 1 least → IfSome least (λ time. IsLeastTime v.lists time)
  promised_some None w e g = tt
  promised_some (Some t) w e g =
      let D = w.chained.by_driver in
      let r = root (Some t) w g in
      subst (λ (u : WheelView). IsLeastTime u.lists t) e
      (least_is held drivers D.chains t D.indexed (least_time (node_at held) buckets firsts (Some t) w.chained.by_time w.noted w.chained.some r) (least_first (node_at held) buckets firsts (Some t) w.chained.by_time w.noted w.chained.some r))

  pub promised_none : (least : Option ℕ) → IsWheel held buckets drivers near firsts → view_of held buckets drivers ≡ v → least ≡ slice_index_or firsts 1 least → IfNone least (AllEmpty v.lists)
  promised_none (Some t) w e g = tt
  promised_none None w e g =
      let D = w.chained.by_driver in
      subst (λ (u : WheelView). AllEmpty u.lists) e (all_empty held drivers D.chains D.indexed (least_none (node_at held) buckets firsts None w.chained.by_time w.noted w.chained.some (root None w g)))

  pub promised_below : (least : Option ℕ) → IsWheel held buckets drivers near firsts → view_of held buckets drivers ≡ v → least ≡ slice_index_or firsts 1 least → IfSome least (λ time. NothingBelow time v.lists)
  promised_below None w e g = tt
  promised_below (Some t) w e g =
      let D = w.chained.by_driver in
      subst (λ (u : WheelView). NothingBelow t u.lists) e (nothing_below held drivers D.chains t D.indexed (least_first (node_at held) buckets firsts (Some t) w.chained.by_time w.noted w.chained.some (root (Some t) w g)))
