-- What comes of the order of nets: their bounds, or a cycle.
use Rattle.std.specs.Prelude.{◌≡◌, ◌≢◌, ℕ, zero, suc, ◌+◌, ◌-◌, ◌<◌, ◌≤◌, All, AllPairs, List, [], ◌∷◌, ◌++◌, length, map, take, reverse, slice_index_or, Some, true, refl}
use Rattle.std.proofs.Common.{sym, ◌∙◌, ap, subst, arith, inl, inr}
use Rattle.std.proofs.lemmas.List.{length-map, length-reverse, map-append, map_push, reverse-append, get_or-map, get_or-reverse, take_more, take_all}
use Rattle.std.proofs.lemmas.List.Elements.{All-nil, All-cons, All-head, All-tail, All-push}
use Rattle.std.proofs.lemmas.List.Sums.{sum_by-cons}
use Rattle.sg_circuit.specs.declared.building.Pin.{Pin}
use Rattle.sg_circuit.specs.FanOut.{has}
use Rattle.sg_circuit.specs.Circuit.{Circuit}
use Rattle.sg_circuit.specs.Closed.{IsClosed}
use Rattle.settle_bound.specs.declared.hops.Hop.{Hop}
use Rattle.settle_bound.specs.declared.ways.Ways.{Ways}
use Rattle.settle_bound.specs.declared.orders.Order.{Order}
use Rattle.settle_bound.specs.Hops.{IsHop, net_driven, weight}
use Rattle.settle_bound.specs.Chains.{Follow, last_of, IsChain, total_weight, IsCycle}
use Rattle.settle_bound.specs.Settling.{AreBounds}
use Rattle.settle_bound.specs.Links.{link_at, pin_at, net_behind, weight_behind, IsReached, by_none, by_one, by_more}
use Rattle.settle_bound.specs.Linked.{hop_of, AreLinksOf}
use Rattle.settle_bound.specs.Orders.{at, place_in, IsOrderOf}
use Rattle.settle_bound.specs.Rings.{nets_driven, Leads, stays, goes_back, IsRing}
use Rattle.settle_bound.proofs.ChainLaws.{IsPotential, potential-most, chain-push, weight-push, driven-some, driven-within, follow-push, last-push}
use Rattle.settle_bound.proofs.LinkedLaws.{number_of, hop-numbered, link-drives, link-weighs, length-links, IsHopNumber, number-or, IsReader, pin-reader, hop-pinned, read-within}

-- ---- bounds

-- a chain of such a weight
record HasChain (c : Circuit) (net sum : ℕ) : Type 0 where
  hops : List Hop
  chain : IsChain c net hops
  weighs : total_weight c hops ≡ sum

chain-reached : (c : Circuit) (w : Ways) → AreLinksOf c w → (net sum : ℕ) → IsReached w.links.items w.pins.items net sum → HasChain c net sum
chain-reached c w of net sum (by_none n) = record { hops = []; chain = tt; weighs = refl }
chain-reached c w of net sum (by_one h l) = elim (number-or c w of h (subst (λ n. h < n) (length-links c w of) l)) [
  | inl is ↦ (let hop : Hop = hop_of (length c.elements) h in record {
    hops = hop ∷ [];
    chain = (All-cons (IsHop c) hop [] is.hop (All-nil (IsHop c)), tt, is.drives);
    weighs = sum_by-cons (weight c) hop [] ∙ (let e : weight c hop + 0 ≡ weight c hop = omega arith in e) ∙ sym is.weighs;
  })
  | inr none ↦ record { hops = []; chain = tt; weighs = sym none }
]
chain-reached c w of net sum (by_more i before l r) =
    let from = chain-reached c w of (pin_at w.pins.items i).net before r in
    let p = pin-reader c w of i l in
    let hop : Hop = hop_of (length c.elements) (pin_at w.pins.items i).element in
    record {
      hops = from.hops ++ hop ∷ [];
      chain = chain-push c (pin_at w.pins.items i).net (net_behind w.links.items (pin_at w.pins.items i)) from.hops hop from.chain p.number_is.hop p.reads p.number_is.drives;
      weighs = weight-push c from.hops hop ∙ (ap (λ n. n + weight c hop) from.weighs ∙ ap (λ n. before + n) (sym p.number_is.weighs));
    }

-- each net is done
record IsDone (w : Ways) (o : Order) : Type 0 where
  done : (net : ℕ) → net < w.nets → has net o.ready.items ≡ true

all-done : (w : Ways) (o : Order) → IsOrderOf w o o.ready.items → ((net : ℕ) → net < length o.waits.items → at o.waits.items net ≡ 0) → IsDone w o
all-done w o h none = record { done = λ net l. (h.ready.each net l).0 (none net (subst (λ n. net < n) (sym h.wait_of_each) l)) }

bounds-potential : (c : Circuit) (w : Ways) (o : Order) → IsClosed c → AreLinksOf c w → IsOrderOf w o o.ready.items → IsDone w o → IsPotential c (λ n. slice_index_or o.bounds.items n 0)
bounds-potential c w o closed of h done = record {
  alone = λ g net is driven.
      (let number : ℕ = number_of (length c.elements) g in
      let l : number < length w.links.items = subst (λ n. number < n) (sym (length-links c w of)) (hop-numbered c g is).1 in
      let a = h.best.alone number l in
      let weighs = link-weighs c w of g is in
      let drives : at o.bounds.items (link_at w.links.items number).driven ≡ at o.bounds.items net = ap (at o.bounds.items) (link-drives c w of g net is driven) in
      omega arith);
  behind = λ g from net is driven read.
      (let number : ℕ = number_of (length c.elements) g in
      let p = hop-pinned c w of g from is read in
      let known : from < w.nets = subst (λ n. from < n) (sym of.nets) (read-within c closed g from is read) in
      let there : (pin_at w.pins.items p.place).net ≡ from = ap (λ (x : Pin). x.net) p.is in
      let passed = h.best.passed p.place p.within (subst (λ n. has n o.ready.items ≡ true) (sym there) (done.done from known)) in
      let start : at o.bounds.items (pin_at w.pins.items p.place).net ≡ at o.bounds.items from = ap (at o.bounds.items) there in
      let weighs : weight_behind w.links.items (pin_at w.pins.items p.place) ≡ weight c g = ap (λ (x : Pin). (link_at w.links.items x.element).weight) p.is ∙ link-weighs c w of g is in
      let drives : at o.bounds.items (net_behind w.links.items (pin_at w.pins.items p.place)) ≡ at o.bounds.items net =
      ap (λ (x : Pin). at o.bounds.items (link_at w.links.items x.element).driven) p.is ∙ ap (at o.bounds.items) (link-drives c w of g net is driven) in
      omega arith);
}

-- the place of the net that a hop drives rises from hop to hop
follow-rises : (c : Circuit) (w : Ways) (o : Order) → AreLinksOf c w → IsOrderOf w o o.ready.items → IsDone w o → IsClosed c → (before : Hop) (hops : List Hop) (start end : ℕ) → All (IsHop c) hops → net_driven c before ≡ Some start
    → Follow c before hops → net_driven c (last_of before hops) ≡ Some end → place_in o.ready.items start + length hops ≤ place_in o.ready.items end
follow-rises c w o of h done closed before [] start end all from f to = let e : start ≡ end = (let g : Some start ≡ Some end = sym from ∙ to in cc) in let q : place_in o.ready.items start ≡ place_in o.ready.items end = ap (place_in o.ready.items) e in omega arith
follow-rises c w o of h done closed before (g ∷ hops) start end all from f to =
    let is : IsHop c g = All-head (IsHop c) g hops all in
    let next = driven-some c g is in
    let rest = follow-rises c w o of h done closed g hops next.0 end (All-tail (IsHop c) g hops all) next.1 f.1 to in
    let same : f.0.net ≡ start = (let q : Some f.0.net ≡ Some start = sym f.0.driven ∙ from in cc) in
    let p = hop-pinned c w of g f.0.net is f.0.read in
    let there : (pin_at w.pins.items p.place).net ≡ start = ap (λ (x : Pin). x.net) p.is ∙ same in
    let behind : net_behind w.links.items (pin_at w.pins.items p.place) ≡ next.0 = ap (λ (x : Pin). (link_at w.links.items x.element).driven) p.is ∙ link-drives c w of g next.0 is next.1 in
    let known : next.0 < w.nets = subst (λ n. next.0 < n) (sym of.nets) (driven-within c closed g next.0 is next.1) in
    let sooner = h.in_order.each p.place p.within (subst (λ n. has n o.ready.items ≡ true) (sym behind) (done.done next.0 known)) in
    let a : place_in o.ready.items (pin_at w.pins.items p.place).net ≡ place_in o.ready.items start = ap (place_in o.ready.items) there in
    let b : place_in o.ready.items (net_behind w.links.items (pin_at w.pins.items p.place)) ≡ place_in o.ready.items next.0 = ap (place_in o.ready.items) behind in
    omega arith

no-cycle : (c : Circuit) (w : Ways) (o : Order) → AreLinksOf c w → IsOrderOf w o o.ready.items → IsDone w o → IsClosed c → (hops : List Hop) → IsCycle c hops → ⊥
no-cycle c w o of h done closed [] cycle = cycle
no-cycle c w o of h done closed (g ∷ hops) cycle =
    let last : Hop = last_of g hops in
    let all : All (IsHop c) (g ∷ hops) = cycle.0 in
    let net = driven-some c last (last-hop g hops all) in
    let rises = follow-rises c w o of h done closed last (g ∷ hops) net.0 net.0 all net.1 cycle.1 net.1 in
    omega arith
  where
    last-hop : (i : Hop) (is : List Hop) → All (IsHop c) (i ∷ is) → IsHop c (last_of i is)
    last-hop i [] all = All-head (IsHop c) i [] all
    last-hop i (j ∷ js) all = last-hop j js (All-tail (IsHop c) i (j ∷ js) all)

pub bounds-found : (c : Circuit) (w : Ways) (o : Order) → IsClosed c → AreLinksOf c w → IsOrderOf w o o.ready.items → ((net : ℕ) → net < length o.waits.items → at o.waits.items net ≡ 0) → AreBounds c o.bounds.items
bounds-found c w o closed of h none =
    let done = all-done w o h none in
    let p = bounds-potential c w o closed of h done in
    record {
      as_many = h.bound_of_each ∙ of.nets;
      each = λ net l.
          (let chain = chain-reached c w of net (at o.bounds.items net) (h.best.reached net (subst (λ n. net < n) (sym of.nets) l)) in
          record { most = λ hops is. potential-most c (λ n. slice_index_or o.bounds.items n 0) p net hops is; some = (chain.hops, chain.chain, chain.weighs) });
      no_cycle = λ hops cycle. no-cycle c w o of h done closed hops cycle;
    }

-- ---- a cycle

abbrev hops_back : Circuit → List ℕ → List Hop
hops_back c numbers = map (hop_of (length c.elements)) (reverse numbers)

back-cons : (c : Circuit) (number : ℕ) (numbers : List ℕ) → hops_back c (number ∷ numbers) ≡ hops_back c numbers ++ hop_of (length c.elements) number ∷ []
back-cons c number numbers = ap (map (hop_of (length c.elements))) (reverse-append (number ∷ []) numbers) ∙ map-append (hop_of (length c.elements)) (reverse numbers) (number ∷ [])

-- hops that lead back follow one another the other way round
record IsFollowed (c : Circuit) (before : Hop) (hops : List Hop) (net : ℕ) : Type 0 where
  all : All (IsHop c) hops
  follow : Follow c before hops
  last : net_driven c (last_of before hops) ≡ Some net

back-follow : (c : Circuit) (w : Ways) → AreLinksOf c w → (from to : ℕ) (numbers : List ℕ) → Leads w from numbers to → (before : Hop) → net_driven c before ≡ Some to → IsFollowed c before (hops_back c numbers) from
back-follow c w of from to numbers (stays n) before e = record { all = All-nil (IsHop c); follow = tt; last = e }
back-follow c w of from to numbers (goes_back number net end rest pin leads) before e =
    let r = back-follow c w of net end rest leads before e in
    let hop : Hop = hop_of (length c.elements) number in
    let reader : IsReader c w number net = subst (λ n. IsReader c w number n) pin.net_is (subst (λ n. IsReader c w n (pin_at w.pins.items pin.place).net) pin.hop_is (pin-reader c w of pin.place pin.within)) in
    subst (λ hs. IsFollowed c before hs (link_at w.links.items number).driven) (sym (back-cons c number rest)) (record {
      all = All-push (IsHop c) (hops_back c rest) hop r.all reader.number_is.hop;
      follow = follow-push c before (hops_back c rest) hop r.follow (record { net = net; driven = r.last; read = reader.reads });
      last = ap (net_driven c) (last-push before (hops_back c rest) hop) ∙ reader.number_is.drives;
    })

-- different hops, where they drive different nets
back-once : (c : Circuit) (w : Ways) → AreLinksOf c w → (numbers : List ℕ) → AllPairs (λ m n. m ≢ n) (nets_driven w.links.items numbers) → ((i : ℕ) → i < length numbers → IsHopNumber c w (slice_index_or numbers i 0)) → AllPairs (λ one other. one ≢ other) (hops_back c numbers)
back-once c w of numbers once is i j d l m same = at (subst (λ n. j < n) many m)
  where
    many : length (hops_back c numbers) ≡ length numbers
    many = length-map (reverse numbers) (hop_of (length c.elements)) ∙ length-reverse numbers

    hop-at : (n : ℕ) → n < length numbers → slice_index_or (hops_back c numbers) n d ≡ hop_of (length c.elements) (slice_index_or numbers (length numbers - 1 - n) 0)
    hop-at n p = get_or-map (hop_of (length c.elements)) (reverse numbers) n 0 d (subst (λ x. n < x) (sym (length-reverse numbers)) p) ∙ ap (hop_of (length c.elements)) (get_or-reverse numbers n 0 p)

    net-at : (n : ℕ) → n < length numbers → slice_index_or (nets_driven w.links.items numbers) n 0 ≡ (link_at w.links.items (slice_index_or numbers n 0)).driven
    net-at n p = get_or-map (λ h. (link_at w.links.items h).driven) numbers n 0 0 p

    equal : (a b : ℕ) → a < length numbers → b < length numbers → hop_of (length c.elements) (slice_index_or numbers a 0) ≡ hop_of (length c.elements) (slice_index_or numbers b 0) → (link_at w.links.items (slice_index_or numbers a 0)).driven ≡ (link_at w.links.items (slice_index_or numbers b 0)).driven
    equal a b p q hops =
        let x = (is a p).drives in
        let y = (is b q).drives in
        let z : Some (link_at w.links.items (slice_index_or numbers a 0)).driven ≡ Some (link_at w.links.items (slice_index_or numbers b 0)).driven = sym x ∙ (ap (net_driven c) hops ∙ y) in
        cc

    apart : (a b : ℕ) → a < b → b < length numbers → hop_of (length c.elements) (slice_index_or numbers a 0) ≡ hop_of (length c.elements) (slice_index_or numbers b 0) → ⊥
    apart a b p q hops =
        let many' : length (nets_driven w.links.items numbers) ≡ length numbers = length-map numbers (λ h. (link_at w.links.items h).driven) in
        once a b 0 p (subst (λ n. b < n) (sym many') q) (net-at a (omega arith) ∙ (equal a b (omega arith) q hops ∙ sym (net-at b q)))

    at : j < length numbers → ⊥
    at p =
        let less : i < j = l in
        apart (length numbers - 1 - j) (length numbers - 1 - i) (omega arith) (omega arith) (sym (hop-at j p) ∙ (sym same ∙ hop-at i (omega arith)))

-- each number of hops that lead back is that of a hop
leads-hops : (c : Circuit) (w : Ways) → AreLinksOf c w → (from to : ℕ) (numbers : List ℕ) → Leads w from numbers to → (i : ℕ) → i < length numbers → IsHopNumber c w (slice_index_or numbers i 0)
leads-hops c w of from to numbers (stays n) i l = absurd (omega arith)
leads-hops c w of from to numbers (goes_back number net end rest pin leads) zero l = subst (λ n. IsHopNumber c w n) pin.hop_is (pin-reader c w of pin.place pin.within).number_is
leads-hops c w of from to numbers (goes_back number net end rest pin leads) (suc i) l = leads-hops c w of net end rest leads i (omega arith)

pub ring-cycle : (c : Circuit) (w : Ways) (numbers : List ℕ) → AreLinksOf c w → IsRing w numbers → IsCycle c (hops_back c numbers)
ring-cycle c w numbers of ring = at (hops_back c numbers) refl
  where
    some : length numbers ≢ 0
    some e = ring.some (nil numbers e)
      where
        nil : (xs : List ℕ) → length xs ≡ 0 → xs ≡ []
        nil [] f = refl
        nil (x ∷ xs) f = absurd (omega arith)

    hop-number : IsHopNumber c w (slice_index_or numbers 0 0)
    hop-number = leads-hops c w of ring.net ring.net numbers ring.leads 0 (omega (arith, some))

    first-drives : (from to : ℕ) (xs : List ℕ) → Leads w from xs to → length xs ≢ 0 → (link_at w.links.items (slice_index_or xs 0 0)).driven ≡ from
    first-drives from to xs (stays n) e = absurd (e refl)
    first-drives from to xs (goes_back g n end rest q r) e = refl

    start : net_driven c (hop_of (length c.elements) (slice_index_or numbers 0 0)) ≡ Some ring.net
    start = hop-number.drives ∙ ap (λ n. Some n) (first-drives ring.net ring.net numbers ring.leads some)

    many : length (hops_back c numbers) ≡ length numbers
    many = length-map (reverse numbers) (hop_of (length c.elements)) ∙ length-reverse numbers

    first : IsFollowed c (hop_of (length c.elements) (slice_index_or numbers 0 0)) (hops_back c numbers) ring.net
    first = back-follow c w of ring.net ring.net numbers ring.leads (hop_of (length c.elements) (slice_index_or numbers 0 0)) start

    once : AllPairs (λ one other. one ≢ other) (hops_back c numbers)
    once = back-once c w of numbers ring.once (λ i l. leads-hops c w of ring.net ring.net numbers ring.leads i l)

    again : (before : Hop) → net_driven c before ≡ Some ring.net → IsFollowed c before (hops_back c numbers) ring.net
    again before e = back-follow c w of ring.net ring.net numbers ring.leads before e

    at : (hops : List Hop) → hops_back c numbers ≡ hops → IsCycle c (hops_back c numbers)
    at [] e = absurd (some (sym many ∙ ap length e))
    at (h ∷ hs) e =
        let f : IsFollowed c (hop_of (length c.elements) (slice_index_or numbers 0 0)) (h ∷ hs) ring.net = subst (λ x. IsFollowed c (hop_of (length c.elements) (slice_index_or numbers 0 0)) x ring.net) e first in
        let g : IsFollowed c (last_of h hs) (h ∷ hs) ring.net = subst (λ x. IsFollowed c (last_of h hs) x ring.net) e (again (last_of h hs) f.last) in
        subst (IsCycle c) (sym e) (g.all, g.follow, subst (AllPairs (λ one other. one ≢ other)) e once)

-- hops by their numbers, the last first: one more
pub back-none : (elements : ℕ) (numbers : List ℕ) (hops : List Hop) → hops ≡ [] → hops ≡ map (hop_of elements) (take 0 (reverse numbers))
back-none elements numbers hops e = e

pub back-more : (elements : ℕ) (numbers : List ℕ) (place : ℕ) (hops hops' : List Hop) (hop : Hop) → place < length numbers → hops ≡ map (hop_of elements) (take place (reverse numbers)) → hop ≡ hop_of elements (slice_index_or numbers (length numbers - 1 - place) 0) → hops' ≡ hops ++ hop ∷ []
    → hops' ≡ map (hop_of elements) (take (place + 1) (reverse numbers))
back-more elements numbers place hops hops' hop l e h e' =
    let m : place < length (reverse numbers) = subst (λ n. place < n) (sym (length-reverse numbers)) l in
    e' ∙ (ap (λ hs. hs ++ hop ∷ []) e ∙ (ap (λ x. map (hop_of elements) (take place (reverse numbers)) ++ x ∷ []) (h ∙ ap (hop_of elements) (sym (get_or-reverse numbers place 0 l)))
    ∙ (sym (map_push (hop_of elements) (take place (reverse numbers)) (slice_index_or (reverse numbers) place 0)) ∙ ap (map (hop_of elements)) (sym (take_more (reverse numbers) place 0 m)))))

pub back-all : (elements : ℕ) (numbers : List ℕ) (place : ℕ) (hops : List Hop) → length numbers ≤ place → hops ≡ map (hop_of elements) (take place (reverse numbers)) → hops ≡ map (hop_of elements) (reverse numbers)
back-all elements numbers place hops l e = e ∙ ap (map (hop_of elements)) (take_all place (reverse numbers) (subst (λ n. n ≤ place) (sym (length-reverse numbers)) l))

-- ---- the same, of what the code has at hand

pub bounds-at : (c : Circuit) (w : Ways) (o : Order) (waits : List ℕ) → IsClosed c → AreLinksOf c w → IsOrderOf w o o.ready.items → waits ≡ o.waits.items → ((net : ℕ) → net < length waits → at waits net ≡ 0) → AreBounds c o.bounds.items
bounds-at c w o waits closed of h e none = bounds-found c w o closed of h (subst (λ ws. (net : ℕ) → net < length ws → at ws net ≡ 0) e none)

pub ring-cycle-at : (c : Circuit) (w : Ways) (numbers numbers' : List ℕ) (hops : List Hop) (elements : ℕ) → AreLinksOf c w → IsRing w numbers → numbers' ≡ numbers → elements ≡ length c.elements → hops ≡ map (hop_of elements) (reverse numbers') → IsCycle c hops
ring-cycle-at c w numbers numbers' hops elements of ring e f made =
    subst (IsCycle c) (sym (made ∙ (ap (λ n. map (hop_of n) (reverse numbers')) f ∙ ap (λ ns. map (hop_of (length c.elements)) (reverse ns)) e))) (ring-cycle c w numbers of ring)
