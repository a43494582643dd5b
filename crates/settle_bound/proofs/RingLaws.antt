-- Walks from nets that wait to nets for which they wait, and rings.
use Rattle.std.specs.Prelude.{◌≡◌, ◌≢◌, ◌⊎◌, ℕ, zero, suc, ◌+◌, ◌-◌, ◌<◌, ◌≤◌, ◌==◌, ◌&&◌, not, cond, Bool, true, false, AllPairs, List, [], ◌∷◌, ◌++◌, length, drop, replicate, count_by, slice_index_or, slice_set, refl}
use Rattle.std.proofs.Common.{sym, ◌∙◌, ap, subst, arith, inl, inr}
use Rattle.std.proofs.lemmas.Bool.{cases_eq}
use Rattle.std.proofs.lemmas.List.{map_push, length-map, length-drop, length-set, get_or-map, get_or_read, get_or-drop, get_or-replicate, get_or-set_same, get_or-set_other, drop-map, drop_more, length-replicate}
use Rattle.std.proofs.lemmas.List.Sums.{sum_by-cons, sum_by-set}
use Rattle.sg_circuit.specs.declared.building.Pin.{Pin}
use Rattle.sg_circuit.specs.FanOut.{has}
use Rattle.settle_bound.specs.declared.ways.Link.{Link}
use Rattle.settle_bound.specs.declared.ways.Ways.{Ways}
use Rattle.settle_bound.specs.declared.orders.Order.{Order}
use Rattle.settle_bound.specs.declared.rings.Walk.{Walk}
use Rattle.settle_bound.specs.Links.{link_at, pin_at, net_behind, AreWays, holds_up}
use Rattle.settle_bound.specs.Orders.{at, IsOrderOf}
use Rattle.settle_bound.specs.Rings.{IsPinTo, AreBehind, WaitOn, nets_driven, HasPin, Leads, stays, goes_back, IsWalk, IsRing}
use Rattle.settle_bound.proofs.Numbers.{is_same, has-found, has-push_same, has-push_other, once-push}

-- ---- pins to nets that wait

pub behind-none : (w : Ways) (waits back : List ℕ) → length back ≡ w.nets → AreBehind w waits 0 back
behind-none w waits back e = record { of_each = e; each = λ i l. absurd (omega arith) }

pub behind-more : (w : Ways) (waits back : List ℕ) (i : ℕ) → AreWays w → AreBehind w waits i back → i < length w.pins.items → 0 < at waits (pin_at w.pins.items i).net
    → AreBehind w waits (i + 1) (slice_set back (net_behind w.links.items (pin_at w.pins.items i)) i)
behind-more w waits back i ways h l waiting = record {
  of_each = length-set back here i ∙ h.of_each;
  each = λ j m p. by j m p (cases_eq (net_behind w.links.items (pin_at w.pins.items j)) here);
}
  where
    here : ℕ
    here = net_behind w.links.items (pin_at w.pins.items i)

    inside : here < length back
    inside = subst (λ n. here < n) (sym h.of_each) (ways.linked.driven (pin_at w.pins.items i).element (record { driven = 0; weight = 0 }) (ways.linked.hops i (record { net = 0; element = 0 }) l))

    written : at (slice_set back here i) here ≡ i
    written = get_or-set_same back here i 0 inside

    by : (j : ℕ) → j < i + 1 → 0 < at waits (pin_at w.pins.items j).net → (net_behind w.links.items (pin_at w.pins.items j) ≡ here) ⊎ (net_behind w.links.items (pin_at w.pins.items j) ≢ here)
        → IsPinTo w waits (net_behind w.links.items (pin_at w.pins.items j)) (at (slice_set back here i) (net_behind w.links.items (pin_at w.pins.items j)))
    by j m p (inl q) =
        let this : IsPinTo w waits here i = record { within = l; leads = refl; waits_too = waiting } in
        subst (λ n. IsPinTo w waits n (at (slice_set back here i) n)) (sym q) (subst (λ k. IsPinTo w waits here k) (sym written) this)
    by j m p (inr o) =
        let k : j < i = elim (cases_eq j i) [
          | inl e ↦ absurd (o (ap (λ x. net_behind w.links.items (pin_at w.pins.items x)) e))
          | inr n ↦ omega arith
        ] in
        subst (λ x. IsPinTo w waits (net_behind w.links.items (pin_at w.pins.items j)) x) (sym (get_or-set_other back here (net_behind w.links.items (pin_at w.pins.items j)) i 0 o)) (h.each j k p)

pub behind-skip : (w : Ways) (waits back : List ℕ) (i : ℕ) → AreBehind w waits i back → at waits (pin_at w.pins.items i).net ≡ 0 → AreBehind w waits (i + 1) back
behind-skip w waits back i h z = record {
  of_each = h.of_each;
  each = λ j m p. elim (cases_eq j i) [
    | inl e ↦ absurd (let q : at waits (pin_at w.pins.items j).net ≡ 0 = ap (λ x. at waits (pin_at w.pins.items x).net) e ∙ z in omega arith)
    | inr n ↦ h.each j (omega arith) p
  ];
}

-- where a count isn't 0, something is counted
record IsCounted {A : Type 0} (test : A → Bool) (xs : List A) (d : A) : Type 0 where
  place : ℕ
  within : place < length xs
  passes : test (slice_index_or xs place d) ≡ true

counted : {A : Type 0} (test : A → Bool) (xs : List A) (d : A) → 0 < count_by test xs → IsCounted test xs d
counted test [] d l = absurd (let m : 0 < 0 = l in omega arith)
counted test (x ∷ xs) d l = at (test x) refl (λ m. counted test xs d m) l
  where
    at : (b : Bool) → test x ≡ b → (0 < count_by test xs → IsCounted test xs d) → 0 < count_by test (x ∷ xs) → IsCounted test (x ∷ xs) d
    at true e rest some = record { place = 0; within = omega arith; passes = e }
    at false e rest some =
        let sum : count_by test (x ∷ xs) ≡ cond (test x) 1 0 + count_by test xs = sum_by-cons (λ y. cond (test y) 1 0) x xs in
        let left : count_by test (x ∷ xs) ≡ 0 + count_by test xs = subst (λ b. count_by test (x ∷ xs) ≡ cond b 1 0 + count_by test xs) e sum in
        let r = rest (omega arith) in
        record { place = suc r.place; within = (let m = r.within in omega arith); passes = r.passes }

-- each net that waits, waits for one that waits
pub wait-on : (w : Ways) (o : Order) (back : List ℕ) → AreWays w → IsOrderOf w o o.ready.items → AreBehind w o.waits.items (length w.pins.items) back → WaitOn w o.waits.items back
wait-on w o back ways h behind = record { each = λ net l p. by net l p (counted (holds_up w.links.items o.ready.items net) w.pins.items (record { net = 0; element = 0 }) (subst (λ n. 0 < n) (h.waits net l) p)) }
  where
    and_both : (a b : Bool) → (a && not b) ≡ true → (a ≡ true) × (b ≡ false)
    and_both true true e = absurd (let f : false ≡ true = e in cc)
    and_both true false e = (refl, refl)
    and_both false b e = absurd (let f : false ≡ true = e in cc)

    by : (net : ℕ) → net < w.nets → 0 < at o.waits.items net → IsCounted (holds_up w.links.items o.ready.items net) w.pins.items (record { net = 0; element = 0 }) → IsPinTo w o.waits.items net (at back net)
    by net l p c =
        let pin : Pin = pin_at w.pins.items c.place in
        let both = and_both (net_behind w.links.items pin == net) (has pin.net o.ready.items) c.passes in
        let leads : net_behind w.links.items pin ≡ net = is_same (net_behind w.links.items pin) net both.0 in
        let known : pin.net < w.nets = ways.linked.read c.place (record { net = 0; element = 0 }) c.within in
        let waiting : 0 < at o.waits.items pin.net = elim (cases_eq (at o.waits.items pin.net) 0) [
          | inl z ↦ absurd (let f : true ≡ false = sym ((h.ready.each pin.net known).0 z) ∙ both.1 in cc)
          | inr n ↦ omega arith
        ] in
        subst (λ n. IsPinTo w o.waits.items n (at back n)) leads (behind.each c.place c.within waiting)

-- ---- walks

-- one hop more at the end
leads-push : (w : Ways) (from hop net : ℕ) (hops : List ℕ) → Leads w from hops (link_at w.links.items hop).driven → HasPin w.pins.items net hop → Leads w from (hops ++ hop ∷ []) net
leads-push w from hop net hops h p = go from (link_at w.links.items hop).driven hops h refl
  where
    go : (a b : ℕ) (xs : List ℕ) → Leads w a xs b → b ≡ (link_at w.links.items hop).driven → Leads w a (xs ++ hop ∷ []) net
    go a b xs (stays n) e = subst (λ x. Leads w x (hop ∷ []) net) (sym e) (goes_back hop net net [] p (stays net))
    go a b xs (goes_back g n end rest q r) e = goes_back g n net (rest ++ hop ∷ []) q (go n end rest r e)

-- a walk so far
pub record Walks (w : Ways) (waits : List ℕ) (start net : ℕ) (hops : List ℕ) (seen : List Bool) : Type 0 where
  pub known : net < w.nets
  pub waiting : 0 < at waits net
  pub seen_of_each : length seen ≡ w.nets
  pub leads : Leads w start hops net
  pub once : AllPairs (λ m n. m ≢ n) (nets_driven w.links.items hops)
  pub marked : (n : ℕ) → n < w.nets → slice_index_or seen n false ≡ has n (nets_driven w.links.items hops)

pub walks-start : (w : Ways) (waits : List ℕ) (start : ℕ) (hops : List ℕ) (seen : List Bool) → start < w.nets → 0 < at waits start → seen ≡ replicate w.nets false → hops ≡ [] → Walks w waits start start hops seen
walks-start w waits start hops seen l p e f = subst (λ hs. Walks w waits start start hs seen) (sym f) (record {
  known = l;
  waiting = p;
  seen_of_each = ap length e ∙ length-replicate w.nets false;
  leads = stays start;
  once = λ i j d m n. absurd (omega arith);
  marked = λ n m. ap (λ s. slice_index_or s n false) e ∙ get_or-replicate w.nets n false false m;
})

pub walks-more : (w : Ways) (waits back : List ℕ) (start net place : ℕ) (hops hops' : List ℕ) (seen : List Bool) (pin : Pin) → AreWays w → WaitOn w waits back → Walks w waits start net hops seen → slice_index_or seen net false ≡ false
    → place ≡ at back net → pin ≡ slice_index_or w.pins.items place pin → hops' ≡ hops ++ pin.element ∷ [] → Walks w waits start pin.net hops' (slice_set seen net true)
walks-more w waits back start net place hops hops' seen pin ways on h new at_place is e =
    let to : IsPinTo w waits net place = subst (λ x. IsPinTo w waits net x) (sym at_place) (on.each net h.known h.waiting) in
    let here : pin ≡ pin_at w.pins.items place = get_or_read w.pins.items place pin to.within is (record { net = 0; element = 0 }) in
    let drives : (link_at w.links.items pin.element).driven ≡ net = ap (λ (p : Pin). (link_at w.links.items p.element).driven) here ∙ to.leads in
    let has_pin : HasPin w.pins.items pin.net pin.element = record { place = place; within = to.within; net_is = ap (λ (p : Pin). p.net) (sym here); hop_is = ap (λ (p : Pin). p.element) (sym here) } in
    let pushed : nets_driven w.links.items (hops ++ pin.element ∷ []) ≡ nets_driven w.links.items hops ++ net ∷ [] = map_push (λ k. (link_at w.links.items k).driven) hops pin.element ∙ ap (λ n. nets_driven w.links.items hops ++ n ∷ []) drives in
    let fresh : has net (nets_driven w.links.items hops) ≡ false = sym (h.marked net h.known) ∙ new in
    let inside : net < length seen = subst (λ n. net < n) (sym h.seen_of_each) h.known in
    subst (λ hs. Walks w waits start pin.net hs (slice_set seen net true)) (sym e) (record {
      known = subst (λ (p : Pin). p.net < w.nets) (sym here) (ways.linked.read place (record { net = 0; element = 0 }) to.within);
      waiting = subst (λ (p : Pin). 0 < at waits p.net) (sym here) to.waits_too;
      seen_of_each = length-set seen net true ∙ h.seen_of_each;
      leads = leads-push w start pin.element pin.net hops (subst (λ n. Leads w start hops n) (sym drives) h.leads) has_pin;
      once = subst (λ ns. AllPairs (λ m n. m ≢ n) ns) (sym pushed) (once-push (nets_driven w.links.items hops) net h.once fresh);
      marked = λ n m. elim (cases_eq n net) [
        | inl q ↦ ap (λ x. slice_index_or (slice_set seen net true) x false) q ∙ (get_or-set_same seen net true false inside ∙ sym (ap (has n) pushed ∙ has-push_same n (nets_driven w.links.items hops) net (sym q)))
        | inr o ↦ get_or-set_other seen net n true false o ∙ (h.marked n m ∙ sym (ap (has n) pushed ∙ has-push_other n (nets_driven w.links.items hops) net (λ q. o (sym q))))
      ];
    })

-- fewer nets are left unseen
pub unseen-fewer : (seen : List Bool) (net : ℕ) → net < length seen → slice_index_or seen net false ≡ false → count_by not (slice_set seen net true) < count_by not seen
unseen-fewer seen net l e =
    let sum : count_by not (slice_set seen net true) + cond (not (slice_index_or seen net false)) 1 0 ≡ count_by not seen + cond (not true) 1 0 = sum_by-set (λ b. cond (not b) 1 0) seen net true false l in
    let less : count_by not (slice_set seen net true) + 1 ≡ count_by not seen + 0 = subst (λ b. count_by not (slice_set seen net true) + cond (not b) 1 0 ≡ count_by not seen + 0) e sum in
    omega arith

pub walks-end : (w : Ways) (waits : List ℕ) (start : ℕ) (walk : Walk) (seen : List Bool) → Walks w waits start walk.end walk.hops.items seen → slice_index_or seen walk.end false ≡ true → IsWalk w start walk
walks-end w waits start walk seen h e = record { leads = h.leads; once = h.once; again = sym (h.marked walk.end h.known) ∙ e }

-- ---- rings

leads-drop : (w : Ways) (i from to : ℕ) (hops : List ℕ) → Leads w from hops to → i ≤ length hops → (net : ℕ) × Leads w net (drop i hops) to
leads-drop w zero from to hops h l = (from, h)
leads-drop w (suc i) from to hops (stays n) l = absurd (omega arith)
leads-drop w (suc i) from to hops (goes_back g n end rest q r) l = leads-drop w i n end rest r (omega arith)

-- the first hop drives the net from which hops lead back
leads-first : (w : Ways) (from to h : ℕ) (hops all : List ℕ) → Leads w from all to → all ≡ h ∷ hops → (link_at w.links.items h).driven ≡ from
leads-first w from to h hops all (stays n) e = absurd (let q : length {A = ℕ} [] ≡ suc (length hops) = ap length e in omega arith)
leads-first w from to h hops all (goes_back g n end rest q r) e = let same_hop : h ≡ g = cc in ap (λ x. (link_at w.links.items x).driven) same_hop

pub ring-cut : (w : Ways) (start : ℕ) (walk : Walk) (first : ℕ) (ring : List ℕ) → IsWalk w start walk → first < length walk.hops.items → (link_at w.links.items (slice_index_or walk.hops.items first 0)).driven ≡ walk.end → ring ≡ drop first walk.hops.items → IsRing w ring
ring-cut w start walk first ring h l drives e =
    let hops : List ℕ = walk.hops.items in
    let rest = leads-drop w first start walk.end hops h.leads (omega arith) in
    let cut : drop first hops ≡ slice_index_or hops first 0 ∷ drop (first + 1) hops = drop_more hops first 0 l in
    let from : (link_at w.links.items (slice_index_or hops first 0)).driven ≡ rest.0 = leads-first w rest.0 walk.end (slice_index_or hops first 0) (drop (first + 1) hops) (drop first hops) rest.1 cut in
    let same_net : rest.0 ≡ walk.end = sym from ∙ drives in
    subst (λ r. IsRing w r) (sym e) (record {
      net = walk.end;
      some = λ z. (let q : length (drop first hops) ≡ 0 = ap length z in let m : length (drop first hops) ≡ length hops - first = length-drop first hops in let f : ⊥ = omega arith in f);
      leads = subst (λ n. Leads w n (drop first hops) walk.end) same_net rest.1;
      once = λ i j d m n. once i j d m n;
    })
  where
    nets : List ℕ
    nets = nets_driven w.links.items walk.hops.items

    cut_nets : nets_driven w.links.items (drop first walk.hops.items) ≡ drop first nets
    cut_nets = sym (drop-map (λ k. (link_at w.links.items k).driven) first walk.hops.items)

    once : (i j d : ℕ) → i < j → j < length (nets_driven w.links.items (drop first walk.hops.items)) → slice_index_or (nets_driven w.links.items (drop first walk.hops.items)) i d ≢ slice_index_or (nets_driven w.links.items (drop first walk.hops.items)) j d
    once i j d m n q =
        let k : j < length (drop first nets) = subst (λ xs. j < length xs) cut_nets n in
        let many : length (drop first nets) ≡ length nets - first = length-drop first nets in
        let there : slice_index_or nets (first + i) d ≡ slice_index_or nets (first + j) d = sym (get_or-drop first nets i d) ∙ (ap (λ xs. slice_index_or xs i d) (sym cut_nets) ∙ (q ∙ (ap (λ xs. slice_index_or xs j d) cut_nets ∙ get_or-drop first nets j d))) in
        h.once (first + i) (first + j) d (omega arith) (omega arith) there

-- ---- the same, of what the code has at hand

pub wait-on-at : (w : Ways) (o : Order) (back waits waits' behind : List ℕ) → AreWays w → IsOrderOf w o o.ready.items → waits ≡ o.waits.items → AreBehind w waits (length w.pins.items) back → waits' ≡ o.waits.items → behind ≡ back → WaitOn w waits' behind
wait-on-at w o back waits waits' behind ways h e are e' f =
    subst (λ ws. WaitOn w ws behind) (sym e') (subst (λ b. WaitOn w o.waits.items b) (sym f) (wait-on w o back ways h (subst (λ ws. AreBehind w ws (length w.pins.items) back) e are)))

leads-within : (w : Ways) → AreWays w → (from to : ℕ) (hops : List ℕ) → Leads w from hops to → (i : ℕ) → i < length hops → slice_index_or hops i 0 < length w.links.items
leads-within w ways from to hops (stays n) i l = absurd (omega arith)
leads-within w ways from to hops (goes_back g n end rest p r) zero l = subst (λ h. h < length w.links.items) p.hop_is (ways.linked.hops p.place (record { net = 0; element = 0 }) p.within)
leads-within w ways from to hops (goes_back g n end rest p r) (suc i) l = leads-within w ways n end rest r i (omega arith)

pub walk-within : (w : Ways) (start : ℕ) (walk : Walk) (links : List Link) (hops : List ℕ) → AreWays w → IsWalk w start walk → links ≡ w.links.items → hops ≡ walk.hops.items → (i : ℕ) → i < length hops → slice_index_or hops i 0 < length links
walk-within w start walk links hops ways h e f =
    subst (λ ls. (i : ℕ) → i < length hops → slice_index_or hops i 0 < length ls) (sym e) (subst (λ hs. (i : ℕ) → i < length hs → slice_index_or hs i 0 < length w.links.items) (sym f) (λ i l. leads-within w ways start walk.end walk.hops.items h.leads i l))

pub ring-at : (w : Ways) (start : ℕ) (walk : Walk) (first : ℕ) (ring hops hops' : List ℕ) (links : List Link) → IsWalk w start walk → hops ≡ walk.hops.items → links ≡ w.links.items → first < length hops → (link_at links (slice_index_or hops first 0)).driven ≡ walk.end
    → hops' ≡ walk.hops.items → ring ≡ drop first hops' → IsRing w ring
ring-at w start walk first ring hops hops' links h e f l drives e' made =
    ring-cut w start walk first ring h (subst (λ hs. first < length hs) e l) (sym (ap (λ hs. (link_at w.links.items (slice_index_or hs first 0)).driven) e) ∙ (sym (ap (λ ls. (link_at ls (slice_index_or hops first 0)).driven) f) ∙ drives)) (made ∙ ap (drop first) e')

-- some hop drives a net that is driven
pub drives-none : (links : List Link) (hops : List ℕ) (net place : ℕ) → length hops ≤ place → ((i : ℕ) → i < place → (link_at links (slice_index_or hops i 0)).driven ≢ net) → has net (nets_driven links hops) ≡ true → ⊥
drives-none links hops net place l none e =
    let f = has-found net (nets_driven links hops) e in
    let many : length (nets_driven links hops) ≡ length hops = length-map hops (λ h. (link_at links h).driven) in
    let m : f.0 < length hops = subst (λ n. f.0 < n) many f.1 in
    none f.0 (omega arith) (sym (get_or-map (λ h. (link_at links h).driven) hops f.0 0 0 m) ∙ f.2)
