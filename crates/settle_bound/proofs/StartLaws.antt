-- No net is done yet.
use Rattle.std.specs.Prelude.{◌≡◌, ◌≢◌, ◌⊎◌, ℕ, zero, suc, ◌+◌, ◌<◌, ◌≤◌, ◌^◌, ◌==◌, ◌&&◌, max, not, Bool, true, false, if◌then◌else◌, All, List, [], ◌∷◌, ◌++◌, length, take, replicate, slice_index_or, slice_set, refl}
use Rattle.std.proofs.Common.{sym, ◌∙◌, ap, subst, arith, inl, inr}
use Rattle.std.proofs.lemmas.Bool.{cases_eq, cases_lt}
use Rattle.std.proofs.lemmas.List.{append-nil, length-set, length-take-le, get_or-set_same, get_or-set_other, get_or-take, get_or_default, get_or_read, take_all}
use Rattle.std.proofs.lemmas.List.Elements.{All-nil, All-push, All-weaker}
use Rattle.std.proofs.lemmas.List.Sums.{count_by_more_yes, count_by_more_no, count_by-le-length}
use Rattle.sg_circuit.specs.declared.building.Pin.{Pin}
use Rattle.sg_circuit.specs.FanOut.{has}
use Rattle.settle_bound.specs.declared.ways.Link.{Link}
use Rattle.settle_bound.specs.declared.ways.Ways.{Ways}
use Rattle.settle_bound.specs.declared.orders.Order.{Order}
use Rattle.settle_bound.specs.Links.{link_at, net_behind, AreWays, IsReached, by_none, by_one, holds_up, waits_of}
use Rattle.settle_bound.specs.Orders.{at, AreAlone, AreCounted, AreReady, IsOrder}
use Rattle.settle_bound.proofs.Numbers.{same, other, is_same, is_other, has-found, has-push_same, has-push_other, once-push}

zeroes : (n k : ℕ) → at (replicate n 0) k ≡ 0
zeroes zero k = refl
zeroes (suc n) zero = refl
zeroes (suc n) (suc k) = zeroes n k

-- counting

pub counted-none : (links : List Link) (pins : List Pin) (n : ℕ) (waits : List ℕ) → waits ≡ replicate n 0 → AreCounted links (take 0 pins) waits
counted-none links pins n waits e = record { each = λ net l. ap (λ ws. at ws net) e ∙ zeroes n net }

pub counted-few : (links : List Link) (pins : List Pin) (i : ℕ) (waits : List ℕ) (net top : ℕ) → AreCounted links (take i pins) waits → net < length waits → i < length pins → length pins < top → at waits net + 1 < top
counted-few links pins i waits net top h l m t =
    let is = h.each net l in
    let most = count_by-le-length (holds_up links [] net) (take i pins) in
    let many : length (take i pins) ≡ i = length-take-le i pins (omega arith) in
    omega arith

pub counted-more : (links : List Link) (pins : List Pin) (i : ℕ) (d : Pin) (waits : List ℕ) → AreCounted links (take i pins) waits → i < length pins → net_behind links (slice_index_or pins i d) < length waits
    → AreCounted links (take (i + 1) pins) (slice_set waits (net_behind links (slice_index_or pins i d)) (at waits (net_behind links (slice_index_or pins i d)) + 1))
counted-more links pins i d waits h l inside = record { each = λ net m. by net (subst (λ n. net < n) (length-set waits here (at waits here + 1)) m) (cases_eq net here) }
  where
    p : Pin
    p = slice_index_or pins i d

    here : ℕ
    here = net_behind links p

    by : (net : ℕ) → net < length waits → (net ≡ here) ⊎ (net ≢ here) → at (slice_set waits here (at waits here + 1)) net ≡ waits_of links (take (i + 1) pins) [] net
    by net m (inl q) =
        let yes : holds_up links [] net p ≡ true = ap (λ b. b && not false) (same here net (sym q)) in
        ap (at (slice_set waits here (at waits here + 1))) q
        ∙ (get_or-set_same waits here (at waits here + 1) 0 inside
        ∙ (ap (λ n. at waits n + 1) (sym q)
        ∙ (ap (λ n. n + 1) (h.each net m) ∙ sym (count_by_more_yes (holds_up links [] net) pins i d l yes))))
    by net m (inr n) =
        let no_pin : holds_up links [] net p ≡ false = ap (λ b. b && not false) (other here net (λ q. n (sym q))) in
        get_or-set_other waits here net (at waits here + 1) 0 n
        ∙ (h.each net m ∙ sym (count_by_more_no (holds_up links [] net) pins i d l no_pin))

pub counted-all : (links : List Link) (pins : List Pin) (i : ℕ) (waits : List ℕ) → length pins ≤ i → AreCounted links (take i pins) waits → AreCounted links pins waits
counted-all links pins i waits l h = subst (λ ps. AreCounted links ps waits) (take_all i pins l) h

-- bounds by one hop

pub alone-none : (all : List Link) (pins : List Pin) (n : ℕ) (bounds : List ℕ) → bounds ≡ replicate n 0 → AreAlone (take 0 all) all pins bounds
alone-none all pins n bounds e = record {
  given = λ h l. absurd (omega arith);
  reached = λ net. subst (λ s. IsReached all pins net s) (sym (ap (λ bs. at bs net) e ∙ zeroes n net)) (by_none net);
  small = λ net. subst (λ s. s < 2 ^ 60) (sym (ap (λ bs. at bs net) e ∙ zeroes n net)) (omega arith);
}

pub alone-more : (all : List Link) (pins : List Pin) (i : ℕ) (d : Link) (bounds : List ℕ) → AreAlone (take i all) all pins bounds → i < length all → (slice_index_or all i d).driven < length bounds → (slice_index_or all i d).weight < 2 ^ 60
    → AreAlone (take (i + 1) all) all pins (slice_set bounds (slice_index_or all i d).driven (max (at bounds (slice_index_or all i d).driven) (slice_index_or all i d).weight))
alone-more all pins i d bounds h l inside light = record {
  given = λ k m. given_at k (subst (λ n. k < n) (length-take-le (i + 1) all (omega arith)) m) (cases_eq k i);
  reached = λ net. reached_at net (cases_eq net here);
  small = λ net. small_at net (cases_eq net here);
}
  where
    link : Link
    link = slice_index_or all i d

    here : ℕ
    here = link.driven

    top : ℕ
    top = max (at bounds here) link.weight

    new : List ℕ
    new = slice_set bounds here top

    at_here : at new here ≡ top
    at_here = get_or-set_same bounds here top 0 inside

    at_there : (n : ℕ) → n ≢ here → at new n ≡ at bounds n
    at_there n o = get_or-set_other bounds here n top 0 o

    risen : (n : ℕ) → at bounds n ≤ at new n
    risen n = elim (cases_eq n here) [
      | inl q ↦ (let e : at new n ≡ max (at bounds n) link.weight = subst (λ x. at new x ≡ max (at bounds x) link.weight) (sym q) at_here in omega arith)
      | inr o ↦ (let e = at_there n o in omega arith)
    ]

    this : link_at all i ≡ link
    this = get_or_default all i (record { driven = 0; weight = 0 }) d l

    given_at : (k : ℕ) → k < i + 1 → (k ≡ i) ⊎ (k ≢ i) → (link_at (take (i + 1) all) k).weight ≤ at new (link_at (take (i + 1) all) k).driven
    given_at k m (inl q) =
        let e : link_at (take (i + 1) all) k ≡ link = get_or-take (i + 1) all k (record { driven = 0; weight = 0 }) m ∙ (ap (link_at all) q ∙ this) in
        subst (λ (x : Link). x.weight ≤ at new x.driven) (sym e) (let t = at_here in let u : link.weight ≤ at new here = omega arith in u)
    given_at k m (inr o) =
        let m' : k < i = omega arith in
        let old = h.given k (subst (λ n. k < n) (sym (length-take-le i all (omega arith))) m') in
        let e : link_at (take i all) k ≡ link_at (take (i + 1) all) k = get_or-take i all k (record { driven = 0; weight = 0 }) m' ∙ sym (get_or-take (i + 1) all k (record { driven = 0; weight = 0 }) m) in
        let old' : (link_at (take (i + 1) all) k).weight ≤ at bounds (link_at (take (i + 1) all) k).driven = subst (λ (x : Link). x.weight ≤ at bounds x.driven) e old in
        let up = risen (link_at (take (i + 1) all) k).driven in
        omega arith

    reached_at : (net : ℕ) → (net ≡ here) ⊎ (net ≢ here) → IsReached all pins net (at new net)
    reached_at net (inr o) = subst (λ s. IsReached all pins net s) (sym (at_there net o)) (h.reached net)
    reached_at net (inl q) = subst (λ x. IsReached all pins x (at new x)) (sym q) (elim (cases_lt (at bounds here) link.weight) [
      | inr s ↦ subst (λ s. IsReached all pins here s) (let t = at_here in let u : at bounds here ≡ at new here = omega arith in u) (h.reached here)
      | inl s ↦ subst (λ s. IsReached all pins here s) (let t = at_here in let u : link.weight ≡ at new here = omega arith in u) (subst (λ (x : Link). IsReached all pins x.driven x.weight) this (by_one i l))
    ])

    small_at : (net : ℕ) → (net ≡ here) ⊎ (net ≢ here) → at new net < 2 ^ 60
    small_at net (inr o) = subst (λ s. s < 2 ^ 60) (sym (at_there net o)) (h.small net)
    small_at net (inl q) = subst (λ x. at new x < 2 ^ 60) (sym q) (elim (cases_lt (at bounds here) link.weight) [
      | inr s ↦ subst (λ s. s < 2 ^ 60) (let t = at_here in let u : at bounds here ≡ at new here = omega arith in u) (h.small here)
      | inl s ↦ subst (λ s. s < 2 ^ 60) (let t = at_here in let u : link.weight ≡ at new here = omega arith in u) light
    ])

pub alone-all : (all : List Link) (pins : List Pin) (i : ℕ) (bounds : List ℕ) → length all ≤ i → AreAlone (take i all) all pins bounds → AreAlone all all pins bounds
alone-all all pins i bounds l h = subst (λ ls. AreAlone ls all pins bounds) (take_all i all l) h

-- nets that wait for nothing

pub ready-none : (waits : List ℕ) → AreReady 0 waits []
ready-none waits = record { within = All-nil (λ n. n < 0); once = λ i j d l m. absurd (omega arith); each = λ net l. absurd (omega arith) }

pub ready-more : (waits ready : List ℕ) (i : ℕ) → AreReady i waits ready → AreReady (i + 1) waits (ready ++ (if at waits i == 0 then i ∷ [] else []))
ready-more waits ready i h = by (at waits i == 0) refl
  where
    wider : All (λ n. n < i + 1) ready
    wider = All-weaker (λ n. n < i) (λ n. n < i + 1) (λ n l. omega arith) ready h.within

    absent : has i ready ≡ false
    absent = none (has i ready) refl
      where
        none : (b : Bool) → has i ready ≡ b → has i ready ≡ false
        none true e = absurd (let p = has-found i ready e in let l : slice_index_or ready p.0 0 < i = h.within p.0 0 p.1 in let q = p.2 in omega arith)
        none false e = e

    by : (b : Bool) → (at waits i == 0) ≡ b → AreReady (i + 1) waits (ready ++ (if b then i ∷ [] else []))
    by true t = record {
      within = All-push (λ n. n < i + 1) ready i wider (omega arith);
      once = once-push ready i h.once absent;
      each = λ net l. elim (cases_eq net i) [
        | inl q ↦ (λ z. has-push_same net ready i (sym q), λ r. ap (at waits) q ∙ is_same (at waits i) 0 t)
        | inr n ↦ (
          λ z. has-push_other net ready i (λ q. n (sym q)) ∙ (h.each net (omega arith)).0 z,
          λ r. (h.each net (omega arith)).1 (sym (has-push_other net ready i (λ q. n (sym q))) ∙ r),
        )
      ];
    }
    by false t = subst (λ r. AreReady (i + 1) waits r) (sym (append-nil ready)) (record {
      within = wider;
      once = h.once;
      each = λ net l. elim (cases_eq net i) [
        | inl q ↦ (
          λ z. absurd (is_other (at waits i) 0 t (ap (at waits) (sym q) ∙ z)),
          λ r. absurd (let f : false ≡ true = sym absent ∙ (ap (λ n. has n ready) (sym q) ∙ r) in cc),
        )
        | inr n ↦ (λ z. (h.each net (omega arith)).0 z, λ r. (h.each net (omega arith)).1 r)
      ];
    })

-- all of it
pub order-begun : (w : Ways) (o : Order) → AreWays w → AreCounted w.links.items w.pins.items o.waits.items → length o.waits.items ≡ w.nets → AreAlone w.links.items w.links.items w.pins.items o.bounds.items → length o.bounds.items ≡ w.nets
    → AreReady (length o.waits.items) o.waits.items o.ready.items → IsOrder w.nets w.links.items w.pins.items o []
order-begun w o ways counted many alone many' ready = record {
  done_ready = λ net e. absurd (let f : false ≡ true = e in cc);
  bound_of_each = many';
  wait_of_each = many;
  waits = λ net l. counted.each net (subst (λ n. net < n) (sym many) l);
  ready = subst (λ n. AreReady n o.waits.items o.ready.items) many ready;
  in_order = record { each = λ i l e. absurd (let f : false ≡ true = e in cc) };
  best = record {
    alone = alone.given;
    passed = λ i l e. absurd (let f : false ≡ true = e in cc);
    reached = λ net l. alone.reached net;
    small = λ net l. (let s = alone.small net in omega arith);
  };
}

-- the same, of what the code has at hand

pub record IsWaitsStep (w : Ways) (i : ℕ) (waits : List ℕ) (here old : ℕ) : Type 0 where
  pub fits : old + 1 < 2 ^ 32
  pub counted : AreCounted w.links.items (take (i + 1) w.pins.items) (slice_set waits here (old + 1))
  pub each : length (slice_set waits here (old + 1)) ≡ w.nets

pub waits-step : (w : Ways) (ps : List Pin) (i : ℕ) (d : Pin) (waits : List ℕ) (link : Link) (old : ℕ) → AreWays w → ps ≡ w.pins.items → AreCounted w.links.items (take i w.pins.items) waits → length waits ≡ w.nets → i < length ps
    → link ≡ slice_index_or w.links.items (slice_index_or ps i d).element link → old ≡ slice_index_or waits link.driven old → IsWaitsStep w i waits link.driven old
waits-step w ps i d waits link old ways e h many l is was =
    let l' : i < length w.pins.items = subst (λ xs. i < length xs) e l in
    let p : Pin = slice_index_or w.pins.items i d in
    let within : p.element < length w.links.items = ways.linked.hops i d l' in
    let is' : link ≡ slice_index_or w.links.items p.element link = is ∙ ap (λ xs. slice_index_or w.links.items (slice_index_or xs i d).element link) e in
    let at_link : link ≡ link_at w.links.items p.element = get_or_read w.links.items p.element link within is' (record { driven = 0; weight = 0 }) in
    let here : link.driven ≡ net_behind w.links.items p = ap (λ (x : Link). x.driven) at_link in
    let inside : link.driven < length waits = subst (λ n. link.driven < n) (sym many) (subst (λ (x : Link). x.driven < w.nets) (sym at_link) (ways.linked.driven p.element (record { driven = 0; weight = 0 }) within)) in
    let inside' : net_behind w.links.items p < length waits = subst (λ n. n < length waits) here inside in
    let read : old ≡ at waits link.driven = get_or_read waits link.driven old inside was 0 in
    let more = counted-more w.links.items w.pins.items i d waits h l' inside' in
    let value : at waits (net_behind w.links.items p) + 1 ≡ old + 1 = ap (λ n. at waits n + 1) (sym here) ∙ ap (λ n. n + 1) (sym read) in
    record {
      fits = (let f = counted-few w.links.items w.pins.items i waits link.driven (2 ^ 32) h inside l' ways.linked.few_pins in omega arith);
      counted = subst (λ n. AreCounted w.links.items (take (i + 1) w.pins.items) (slice_set waits n (old + 1))) (sym here) (subst (λ v. AreCounted w.links.items (take (i + 1) w.pins.items) (slice_set waits (net_behind w.links.items p) v)) value more);
      each = length-set waits link.driven (old + 1) ∙ many;
    }

pub record IsBoundsStep (w : Ways) (i : ℕ) (bounds : List ℕ) (here top : ℕ) : Type 0 where
  pub alone : AreAlone (take (i + 1) w.links.items) w.links.items w.pins.items (slice_set bounds here top)
  pub each : length (slice_set bounds here top) ≡ w.nets

pub bounds-step : (w : Ways) (ls : List Link) (i : ℕ) (d : Link) (bounds : List ℕ) (old up top : ℕ) → AreWays w → ls ≡ w.links.items → AreAlone (take i w.links.items) w.links.items w.pins.items bounds → length bounds ≡ w.nets → i < length ls
    → old ≡ slice_index_or bounds (slice_index_or ls i d).driven old → up ≡ (slice_index_or ls i d).weight → top ≡ max old up → IsBoundsStep w i bounds (slice_index_or ls i d).driven top
bounds-step w ls i d bounds old up top ways e h many l was is made =
    let l' : i < length w.links.items = subst (λ xs. i < length xs) e l in
    let link : Link = slice_index_or w.links.items i d in
    let this : slice_index_or ls i d ≡ link = ap (λ xs. slice_index_or xs i d) e in
    let inside : link.driven < length bounds = subst (λ n. link.driven < n) (sym many) (ways.linked.driven i d l') in
    let was' : old ≡ slice_index_or bounds link.driven old = was ∙ ap (λ (x : Link). slice_index_or bounds x.driven old) this in
    let read : old ≡ at bounds link.driven = get_or_read bounds link.driven old inside was' 0 in
    let weight : up ≡ link.weight = is ∙ ap (λ (x : Link). x.weight) this in
    let value : max (at bounds link.driven) link.weight ≡ top = ap (λ x. max x link.weight) (sym read) ∙ (ap (max old) (sym weight) ∙ sym made) in
    let more = alone-more w.links.items w.pins.items i d bounds h l' inside (ways.linked.weights i d l') in
    record {
      alone = subst (λ (x : Link). AreAlone (take (i + 1) w.links.items) w.links.items w.pins.items (slice_set bounds x.driven top)) (sym this) (subst (λ v. AreAlone (take (i + 1) w.links.items) w.links.items w.pins.items (slice_set bounds link.driven v)) value more);
      each = length-set bounds (slice_index_or ls i d).driven top ∙ many;
    }

pub ready-yes : (waits ready ready' : List ℕ) (i : ℕ) → AreReady i waits ready → at waits i ≡ 0 → ready' ≡ ready ++ i ∷ [] → AreReady (i + 1) waits ready'
ready-yes waits ready ready' i h z e =
    subst (λ r. AreReady (i + 1) waits r) (ap (λ b. ready ++ (if b then i ∷ [] else [])) (same (at waits i) 0 z) ∙ sym e) (ready-more waits ready i h)

pub ready-not : (waits ready ready' : List ℕ) (i : ℕ) → AreReady i waits ready → at waits i ≢ 0 → ready' ≡ ready → AreReady (i + 1) waits ready'
ready-not waits ready ready' i h z e =
    subst (λ r. AreReady (i + 1) waits r) (ap (λ b. ready ++ (if b then i ∷ [] else [])) (other (at waits i) 0 z) ∙ (append-nil ready ∙ sym e)) (ready-more waits ready i h)
