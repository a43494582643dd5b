-- The ways of a closed circuit are its hops, by their numbers.
use Rattle.std.specs.Prelude.{◌≡◌, ◌⊎◌, ℕ, ◌+◌, ◌-◌, ◌<◌, ◌^◌, nat_lt, true, false, if◌then◌else◌, All, Contains, IfSome, IsSome, List, [], ◌∷◌, ◌++◌, length, map, take, slice_index_or, Option, Some, None, refl}
use Rattle.std.specs.Option.{option_map}
use Rattle.std.proofs.Common.{sym, ◌∙◌, ap, subst, arith, inl, inr}
use Rattle.std.proofs.lemmas.Bool.{cases_lt}
use Rattle.std.proofs.lemmas.Bool.Decides.{nat_tests}
use Rattle.std.proofs.lemmas.List.{length-map, length-append, get_or-map, get_or_default, get_or_append_left, get_or-append-add, map_push, take_more}
use Rattle.std.proofs.lemmas.List.Elements.{All-nil, All-cons, All-contains, Contains-get_or}
use Rattle.sg_circuit.specs.declared.building.Pin.{Pin}
use Rattle.sg_circuit.specs.declared.checks.Check as check_type
use Rattle.sg_circuit.specs.declared.checks.CheckKind.TheVariants as kind
use Rattle.sg_circuit.specs.declared.checks.CheckTiming.{CheckTiming}
use Rattle.sg_circuit.specs.declared.checks.Event.{Event}
use Rattle.sg_circuit.specs.Pins.{HasPins, pins_on}
use Rattle.sg_circuit.specs.Seen.{circuit_seen, element_seen}
use Rattle.sg_circuit.specs.declared.circuits.Parts.{Parts}
use Rattle.sg_circuit.specs.declared.elements.Element as code_element
use Rattle.sg_circuit.specs.Circuit as circuit
use Rattle.sg_circuit.specs.Circuit.{Circuit, Pass, element_at}
use Rattle.sg_circuit.specs.Closed.{IsClosed, IsCheckTiming, IsEventOf, HasLates, AreLatesOf, IsLateOf}
use Rattle.time_checks.specs.Adjusted.{AdjustedCheck, adjusted_checks, check_by, seen_at}
use Rattle.time_checks.specs.Checking.{check_at}
use Rattle.time_checks.specs.Within.{datum_nets, terminals}
use Rattle.sim_rounds.specs.Notifiers.{notifier_at}
use Rattle.settle_bound.specs.declared.hops.Hop.{Hop}
use Rattle.settle_bound.specs.declared.hops.Hop.TheVariants.{Element, Check}
use Rattle.settle_bound.specs.declared.ways.Link.{Link}
use Rattle.settle_bound.specs.declared.ways.Ways.{Ways}
use Rattle.settle_bound.specs.Hops.{IsHop, nets_read, net_driven, weight}
use Rattle.settle_bound.specs.Links.{link_at, pin_at, AreLinked, AreWays}
use Rattle.settle_bound.specs.Linked.{hop_of, where_named, reads_of_hop, reads_of, element_link, net_or_none, check_link, HavePins, AreLinksOf}
use Rattle.settle_bound.proofs.ChainLaws.{driven-some, notifier-is}
use Rattle.settle_bound.proofs.LongestLaws.{delay-below}
use Rattle.settle_bound.proofs.TerminalLaws.{adjusted-at}

-- the number of a hop
abbrev pub number_of : ℕ → Hop → ℕ
number_of elements (Element e) = e
number_of elements (Check k) = elements + k

pub hop-element : (elements e : ℕ) → e < elements → hop_of elements e ≡ Element e
hop-element elements e l = let t : nat_lt e elements ≡ true = grind (arith, nat_tests) in ap (λ b. if b then Element e else Check (e - elements)) t

pub hop-check : (elements k : ℕ) → hop_of elements (elements + k) ≡ Check k
hop-check elements k =
    let t : nat_lt (elements + k) elements ≡ false = grind (arith, nat_tests) in
    let m : elements + k - elements ≡ k = omega arith in
    ap (λ b. if b then Element (elements + k) else Check (elements + k - elements)) t ∙ ap (λ n. Check n) m

pub hop-numbered : (c : Circuit) (h : Hop) → IsHop c h → (hop_of (length c.elements) (number_of (length c.elements) h) ≡ h) × (number_of (length c.elements) h < length c.elements + length c.checks)
hop-numbered c (Element e) is = (hop-element (length c.elements) e is, omega arith)
hop-numbered c (Check k) is = (hop-check (length c.elements) k, (let l : k < length c.checks = is.0 in omega arith))

-- a number is that of an element or of a check
record IsCheckNumber (elements number : ℕ) : Type 0 where
  check : ℕ
  is : number ≡ elements + check

number-cases : (elements number : ℕ) → (number < elements) ⊎ IsCheckNumber elements number
number-cases elements number = elim (cases_lt number elements) [ inl l ↦ inl l | inr m ↦ inr (record { check = number - elements; is = omega arith }) ]

-- the links of elements and checks
pub link-element : (c : Circuit) (w : Ways) → AreLinksOf c w → (e : ℕ) → e < length c.elements → link_at w.links.items e ≡ element_link (element_at c e)
link-element c w of e l =
    let m : e < length (map element_link c.elements) = subst (λ n. e < n) (sym (length-map c.elements element_link)) l in
    ap (λ ls. link_at ls e) of.links
    ∙ (get_or_append_left (map element_link c.elements) (map check_link c.checks) (record { driven = 0; weight = 0 }) e m ∙ get_or-map element_link c.elements e (record { scope = 0; inputs = []; output = 0; kind = Pass None }) (record { driven = 0; weight = 0 }) l)

blank : check_type.Check
blank = record { scope = 0; kind = kind.Setup; refer = record { name = []; bit = None }; datum = None; notifier = None; place = record { file = 0; byte = 0 } }

pub link-check : (c : Circuit) (w : Ways) → AreLinksOf c w → (k : ℕ) → k < length c.checks → link_at w.links.items (length c.elements + k) ≡ record { driven = net_or_none (notifier_at c.checks k); weight = 0 }
unfolding blank
link-check c w of k l =
    ap (λ ls. link_at ls (length c.elements + k)) of.links
    ∙ (ap (λ n. link_at (map element_link c.elements ++ map check_link c.checks) (n + k)) (sym (length-map c.elements element_link))
    ∙ (get_or-append-add (map element_link c.elements) (map check_link c.checks) k (record { driven = 0; weight = 0 }) ∙ get_or-map check_link c.checks k blank (record { driven = 0; weight = 0 }) l))

pub length-links : (c : Circuit) (w : Ways) → AreLinksOf c w → length w.links.items ≡ length c.elements + length c.checks
length-links c w of = ap length of.links ∙ (length-append (map element_link c.elements) (map check_link c.checks) ∙ (ap (λ n. n + length (map check_link c.checks)) (length-map c.elements element_link) ∙ ap (λ n. length c.elements + n) (length-map c.checks check_link)))

-- what a hop drives and weighs, by its number
pub link-drives : (c : Circuit) (w : Ways) → AreLinksOf c w → (h : Hop) (net : ℕ) → IsHop c h → net_driven c h ≡ Some net → (link_at w.links.items (number_of (length c.elements) h)).driven ≡ net
link-drives c w of (Element e) net is driven = let q : (element_at c e).output ≡ net = (let f : Some (element_at c e).output ≡ Some net = driven in cc) in ap (λ (x : Link). x.driven) (link-element c w of e is) ∙ q
link-drives c w of (Check k) net is driven = ap (λ (x : Link). x.driven) (link-check c w of k is.0) ∙ ap net_or_none driven

pub link-weighs : (c : Circuit) (w : Ways) → AreLinksOf c w → (h : Hop) → IsHop c h → (link_at w.links.items (number_of (length c.elements) h)).weight ≡ weight c h
link-weighs c w of (Element e) is = ap (λ (x : Link). x.weight) (link-element c w of e is)
link-weighs c w of (Check k) is = ap (λ (x : Link). x.weight) (link-check c w of k is.0)

-- a number that has pins is that of a hop
pub record IsHopNumber (c : Circuit) (w : Ways) (number : ℕ) : Type 0 where
  pub hop : IsHop c (hop_of (length c.elements) number)
  pub drives : net_driven c (hop_of (length c.elements) number) ≡ Some (link_at w.links.items number).driven
  pub weighs : (link_at w.links.items number).weight ≡ weight c (hop_of (length c.elements) number)

pub hop-number : (c : Circuit) (w : Ways) → AreLinksOf c w → (h : Hop) → IsHop c h → IsHopNumber c w (number_of (length c.elements) h)
hop-number c w of h is =
    let same = (hop-numbered c h is).0 in
    let net = driven-some c h is in
    record {
      hop = subst (IsHop c) (sym same) is;
      drives = ap (net_driven c) same ∙ (net.1 ∙ ap (λ n. Some n) (sym (link-drives c w of h net.0 is net.1)));
      weighs = link-weighs c w of h is ∙ ap (weight c) (sym same);
    }

pub element-number : (c : Circuit) (w : Ways) → AreLinksOf c w → (e : ℕ) → e < length c.elements → IsHopNumber c w e
element-number c w of e l = hop-number c w of (Element e) l

pub check-number : (c : Circuit) (w : Ways) → AreLinksOf c w → (k : ℕ) → k < length c.checks → IsSome (notifier_at c.checks k) → IsHopNumber c w (length c.elements + k)
check-number c w of k l some = hop-number c w of (Check k) (l, some)

-- any number is that of a hop, or of a check without a notifier, whose link weighs nothing
pub number-or : (c : Circuit) (w : Ways) → AreLinksOf c w → (number : ℕ) → number < length c.elements + length c.checks → IsHopNumber c w number ⊎ ((link_at w.links.items number).weight ≡ 0)
number-or c w of number l = elim (number-cases (length c.elements) number) [
  | inl m ↦ inl (element-number c w of number m)
  | inr q ↦ (let k : q.check < length c.checks = (let e = q.is in omega arith) in inr (ap (λ n. (link_at w.links.items n).weight) q.is ∙ ap (λ (x : Link). x.weight) (link-check c w of q.check k)))
]

-- what is read by a number
pub reads-element : (c : Circuit) (e : ℕ) → e < length c.elements → reads_of c e ≡ (element_at c e).inputs
reads-element c e l = ap (reads_of_hop c) (hop-element (length c.elements) e l)

pub reads-check : (c : Circuit) (k : ℕ) → reads_of c (length c.elements + k) ≡ where_named (notifier_at c.checks k) (nets_read c (Check k))
reads-check c k = ap (reads_of_hop c) (hop-check (length c.elements) k)

named-some : (o : Option ℕ) (nets : List ℕ) (net : ℕ) → Contains (where_named o nets) net → IsSome o × Contains nets net
named-some None nets net h = absurd (let l : h.0 < 0 = h.1 in omega arith)
named-some (Some n) nets net h = (refl, h)

named-all : (o : Option ℕ) (nets : List ℕ) → IsSome o → where_named o nets ≡ nets
named-all None nets h = absurd (let f : false ≡ true = h in cc)
named-all (Some n) nets h = refl

-- a number that reads a net is that of a hop that reads it
pub record IsReader (c : Circuit) (w : Ways) (number net : ℕ) : Type 0 where
  pub number_is : IsHopNumber c w number
  pub reads : Contains (nets_read c (hop_of (length c.elements) number)) net

pub reader-of : (c : Circuit) (w : Ways) → AreLinksOf c w → (number net : ℕ) → number < length c.elements + length c.checks → Contains (reads_of c number) net → IsReader c w number net
reader-of c w of number net l read = elim (number-cases (length c.elements) number) [
  | inl m ↦ record {
    number_is = element-number c w of number m;
    reads = subst (λ h. Contains (nets_read c h) net) (sym (hop-element (length c.elements) number m)) (subst (λ nets. Contains nets net) (reads-element c number m) read);
  }
  | inr q ↦ (let k : q.check < length c.checks = (let e = q.is in omega arith) in
      let read' : Contains (where_named (notifier_at c.checks q.check) (nets_read c (Check q.check))) net = subst (λ nets. Contains nets net) (ap (reads_of c) q.is ∙ reads-check c q.check) read in
      let both = named-some (notifier_at c.checks q.check) (nets_read c (Check q.check)) net read' in
      subst (λ n. IsReader c w n net) (sym q.is) (record {
        number_is = check-number c w of q.check k both.0;
        reads = subst (λ h. Contains (nets_read c h) net) (sym (hop-check (length c.elements) q.check)) both.1;
      }))
]

-- each pin is one of a hop
pub pin-reader : (c : Circuit) (w : Ways) → AreLinksOf c w → (i : ℕ) → i < length w.pins.items → IsReader c w (pin_at w.pins.items i).element (pin_at w.pins.items i).net
pin-reader c w of i l = let s = of.pins.sound i l in reader-of c w of (pin_at w.pins.items i).element (pin_at w.pins.items i).net s.0 s.1

-- and each net that a hop reads has its pin
pub record IsPinned (w : Ways) (number net : ℕ) : Type 0 where
  pub place : ℕ
  pub within : place < length w.pins.items
  pub is : pin_at w.pins.items place ≡ record { net = net; element = number }

pub hop-pinned : (c : Circuit) (w : Ways) → AreLinksOf c w → (h : Hop) (net : ℕ) → IsHop c h → Contains (nets_read c h) net → IsPinned w (number_of (length c.elements) h) net
hop-pinned c w of h net is read = at h is read
  where
    made : (number : ℕ) → number < length c.elements + length c.checks → Contains (reads_of c number) net → IsPinned w number net
    made number l r = let p = of.pins.complete number net l r in record { place = p.0; within = p.1; is = p.2 }

    at : (g : Hop) → IsHop c g → Contains (nets_read c g) net → IsPinned w (number_of (length c.elements) g) net
    at (Element e) l r = made e (omega arith) (subst (λ nets. Contains nets net) (sym (reads-element c e l)) r)
    at (Check k) l r =
        let m : k < length c.checks = l.0 in
        made (length c.elements + k) (omega arith) (subst (λ nets. Contains nets net) (sym (reads-check c k ∙ named-all (notifier_at c.checks k) (nets_read c (Check k)) l.1)) r)

-- ---- all numbers are within

no_timing : CheckTiming
no_timing = record { kind = kind.Setup; refer = record { net = 0; edge = None; condition = None }; datum = None; limits = []; threshold = 0; late = None }

event-net : (c : Circuit) (o : Option Event) → IfSome o (λ e. IsEventOf (length c.nets) e) → All (λ n. n < length c.nets) (datum_nets o)
event-net c None h = All-nil (λ n. n < length c.nets)
event-net c (Some e) h = All-cons (λ n. n < length c.nets) e.net [] h.net (All-nil (λ n. n < length c.nets))

late-net : (c : Circuit) (late : ℕ) (o : Option Event) → IsClosed c → IfSome o (λ d. IsLateOf c d.net late) → All (λ n. n < length c.nets) (datum_nets (option_map (seen_at c late) o))
late-net c late None closed h = All-nil (λ n. n < length c.nets)
late-net c late (Some e) closed h =
    All-cons (λ n. n < length c.nets) (element_at c late).output [] (closed.outputs late (record { scope = 0; inputs = []; output = 0; kind = Pass None }) h.within) (All-nil (λ n. n < length c.nets))

pub terminals-within : (c : Circuit) → IsClosed c → (k : ℕ) → k < length c.checks → All (λ n. n < length c.nets) (terminals (check_at (adjusted_checks c) k))
terminals-within c closed k l =
    subst (λ (x : AdjustedCheck). All (λ n. n < length c.nets) (terminals x)) (sym (adjusted-at c k t m here)) (at t.late timed.lates)
  where
    m : k < length c.check_timings
    m = subst (λ n. k < n) (sym closed.timing_of_each) l

    t : CheckTiming
    t = slice_index_or c.check_timings k no_timing

    here : t ≡ slice_index_or c.check_timings k t
    here = get_or_default c.check_timings k no_timing t m

    is : IsCheckTiming (length c.nets) t
    is = closed.check_timings k no_timing m

    timed : HasLates c t
    timed = closed.lates k no_timing m

    at : (late : Option (List ℕ)) → IfSome late (λ ls. AreLatesOf c t ls) → All (λ n. n < length c.nets) (terminals (check_by c k t late))
    at None h = All-cons (λ n. n < length c.nets) t.refer.net (datum_nets t.datum) is.refer.net (event-net c t.datum is.datum)
    at (Some ls) h =
        All-cons (λ n. n < length c.nets) (element_at c (slice_index_or ls 0 0)).output (datum_nets (option_map (seen_at c (slice_index_or ls 1 0)) t.datum))
        (closed.outputs (slice_index_or ls 0 0) (record { scope = 0; inputs = []; output = 0; kind = Pass None }) h.refer.within) (late-net c (slice_index_or ls 1 0) t.datum closed h.datum)

pub read-within : (c : Circuit) → IsClosed c → (h : Hop) (net : ℕ) → IsHop c h → Contains (nets_read c h) net → net < length c.nets
read-within c closed (Element e) net is read = All-contains (λ n. n < length c.nets) (element_at c e).inputs net (closed.inputs e (record { scope = 0; inputs = []; output = 0; kind = Pass None }) is) read
read-within c closed (Check k) net is read = All-contains (λ n. n < length c.nets) (terminals (check_at (adjusted_checks c) k)) net (terminals-within c closed k is.0) read

-- where there is a check there is a net
some-net : (c : Circuit) → IsClosed c → (k : ℕ) → k < length c.checks → 0 < length c.nets
some-net c closed k l =
    let m : k < length c.check_timings = subst (λ n. k < n) (sym closed.timing_of_each) l in
    let n = (closed.check_timings k no_timing m).refer.net in
    omega arith

check-driven : (c : Circuit) → IsClosed c → (k : ℕ) → k < length c.checks → net_or_none (notifier_at c.checks k) < length c.nets
check-driven c closed k l = at (notifier_at c.checks k) refl
  where
    at : (o : Option ℕ) → notifier_at c.checks k ≡ o → net_or_none o < length c.nets
    at None e = some-net c closed k l
    at (Some n) e = (notifier-is c closed k n e).within

pub links-fit : (c : Circuit) (w : Ways) → IsClosed c → AreLinksOf c w → length w.pins.items < 2 ^ 32 → AreLinked w.nets w.links.items w.pins.items
links-fit c w closed of few = record {
  driven = λ i d l. subst (λ (x : Link). x.driven < w.nets) (get_or_default w.links.items i (record { driven = 0; weight = 0 }) d l) (subst (λ n. (link_at w.links.items i).driven < n) (sym of.nets) (driven i (number-cases (length c.elements) i) (subst (λ n. i < n) (length-links c w of) l)));
  weights = λ i d l. subst (λ (x : Link). x.weight < 2 ^ 60) (get_or_default w.links.items i (record { driven = 0; weight = 0 }) d l) (light i (number-cases (length c.elements) i) (subst (λ n. i < n) (length-links c w of) l));
  read = λ i d l. subst (λ (x : Pin). x.net < w.nets) (get_or_default w.pins.items i (record { net = 0; element = 0 }) d l)
      (let r = pin-reader c w of i l in
      subst (λ n. (pin_at w.pins.items i).net < n) (sym of.nets) (read-within c closed (hop_of (length c.elements) (pin_at w.pins.items i).element) (pin_at w.pins.items i).net r.number_is.hop r.reads));
  hops = λ i d l. subst (λ (x : Pin). x.element < length w.links.items) (get_or_default w.pins.items i (record { net = 0; element = 0 }) d l)
      (subst (λ n. (pin_at w.pins.items i).element < n) (sym (length-links c w of)) (of.pins.sound i l).0);
  few_nets = subst (λ n. n < 2 ^ 31) (sym of.nets) closed.few_nets;
  few_pins = few;
}
  where
    driven : (i : ℕ) → (i < length c.elements) ⊎ IsCheckNumber (length c.elements) i → i < length c.elements + length c.checks → (link_at w.links.items i).driven < length c.nets
    driven i (inl m) l = subst (λ (x : Link). x.driven < length c.nets) (sym (link-element c w of i m)) (closed.outputs i (record { scope = 0; inputs = []; output = 0; kind = Pass None }) m)
    driven i (inr q) l =
        let k : q.check < length c.checks = (let e = q.is in omega arith) in
        subst (λ (x : Link). x.driven < length c.nets) (sym (ap (link_at w.links.items) q.is ∙ link-check c w of q.check k)) (check-driven c closed q.check k)

    light : (i : ℕ) → (i < length c.elements) ⊎ IsCheckNumber (length c.elements) i → i < length c.elements + length c.checks → (link_at w.links.items i).weight < 2 ^ 60
    light i (inl m) l = subst (λ (x : Link). x.weight < 2 ^ 60) (sym (link-element c w of i m)) (delay-below (element_at c i).kind (closed.has_delays i (record { scope = 0; inputs = []; output = 0; kind = Pass None }) m))
    light i (inr q) l =
        let k : q.check < length c.checks = (let e = q.is in omega arith) in
        subst (λ (x : Link). x.weight < 2 ^ 60) (sym (ap (link_at w.links.items) q.is ∙ link-check c w of q.check k)) (omega arith)

-- ---- links and pins are collected

pub links-more : (parts : Parts) (i : ℕ) (item : code_element.Element) (links links' : List Link) (link : Link) → i < length parts.elements.items → item ≡ slice_index_or parts.elements.items i item → link ≡ element_link (element_seen parts item)
    → links ≡ map element_link (take i (circuit_seen parts).elements) → links' ≡ links ++ link ∷ [] → links' ≡ map element_link (take (i + 1) (circuit_seen parts).elements)
links-more parts i item links links' link l is made e e' =
    let all : List circuit.Element = map (element_seen parts) parts.elements.items in
    let m : i < length all = subst (λ n. i < n) (sym (length-map parts.elements.items (element_seen parts))) l in
    let one : slice_index_or all i (element_seen parts item) ≡ element_seen parts item = get_or-map (element_seen parts) parts.elements.items i item (element_seen parts item) l ∙ ap (element_seen parts) (sym is) in
    e' ∙ (ap (λ ls. ls ++ link ∷ []) e ∙ (ap (λ x. map element_link (take i all) ++ x ∷ []) (made ∙ ap element_link (sym one))
    ∙ (sym (map_push element_link (take i all) (slice_index_or all i (element_seen parts item))) ∙ ap (map element_link) (sym (take_more all i (element_seen parts item) m)))))

pub have-more : (c : Circuit) (count : ℕ) (pins : List Pin) (nets : List ℕ) → HavePins c count pins → reads_of c count ≡ nets → HavePins c (count + 1) (pins ++ pins_on count nets)
have-more c count pins nets h e = record {
  sound = λ i l. elim (cases_lt i (length pins)) [
    | inl m ↦ (let s = h.sound i m in
        let is : pin_at (pins ++ pins_on count nets) i ≡ pin_at pins i = get_or_append_left pins (pins_on count nets) (record { net = 0; element = 0 }) i m in
        subst (λ (p : Pin). (p.element < count + 1) × Contains (reads_of c p.element) p.net) (sym is) ((let k : (pin_at pins i).element < count = s.0 in omega arith), s.1))
    | inr m ↦ (let j : ℕ = i - length pins in
        let sum : i ≡ length pins + j = omega arith in
        let k : j < length nets = (let many : length (pins_on count nets) ≡ length nets = length-map nets (λ (n : ℕ). record { net = n; element = count }) in omega (arith, l, length-append pins (pins_on count nets))) in
        let is : pin_at (pins ++ pins_on count nets) i ≡ record { net = slice_index_or nets j 0; element = count } =
        ap (pin_at (pins ++ pins_on count nets)) sum ∙ (get_or-append-add pins (pins_on count nets) j (record { net = 0; element = 0 }) ∙ get_or-map (λ (n : ℕ). record { net = n; element = count }) nets j 0 (record { net = 0; element = 0 }) k) in
        subst (λ (p : Pin). (p.element < count + 1) × Contains (reads_of c p.element) p.net) (sym is) (omega arith, subst (λ ns. Contains ns (slice_index_or nets j 0)) (sym e) (Contains-get_or nets j 0 k)))
  ];
  complete = λ number net l read. elim (cases_lt number count) [
    | inl m ↦ (let p = h.complete number net m read in
        (p.0, (let k : p.0 < length pins = p.1 in omega (arith, k, length-append pins (pins_on count nets))), get_or_append_left pins (pins_on count nets) (record { net = 0; element = 0 }) p.0 p.1 ∙ p.2))
    | inr m ↦ (let same : number ≡ count = omega arith in
        let read' : Contains nets net = subst (λ ns. Contains ns net) (ap (reads_of c) same ∙ e) read in
        let here : slice_index_or nets read'.0 0 ≡ net = get_or_default nets read'.0 0 net read'.1 ∙ read'.2 in (
          length pins + read'.0,
          (let k : read'.0 < length nets = read'.1 in let many : length (pins_on count nets) ≡ length nets = length-map nets (λ (n : ℕ). record { net = n; element = count }) in omega (arith, k, length-append pins (pins_on count nets))),
          get_or-append-add pins (pins_on count nets) read'.0 (record { net = 0; element = 0 })
              ∙ (get_or-map (λ (n : ℕ). record { net = n; element = count }) nets read'.0 0 (record { net = 0; element = 0 }) read'.1
              ∙ (ap (λ n. record { net = n; element = count }) here ∙ ap (λ k. record { net = net; element = k }) (sym same))),
        ))
  ];
}

pub element-pins : (parts : Parts) (number : ℕ) (item : code_element.Element) (pins pins' : List Pin) → number < length parts.elements.items → item ≡ slice_index_or parts.elements.items number item → HavePins (circuit_seen parts) number pins
    → pins' ≡ pins ++ pins_on number item.inputs.items → HavePins (circuit_seen parts) (number + 1) pins'
element-pins parts number item pins pins' l is h e =
    let m : number < length (circuit_seen parts).elements = subst (λ n. number < n) (sym (length-map parts.elements.items (element_seen parts))) l in
    let one : element_at (circuit_seen parts) number ≡ element_seen parts item = get_or-map (element_seen parts) parts.elements.items number item (record { scope = 0; inputs = []; output = 0; kind = Pass None }) l ∙ ap (element_seen parts) (sym is) in
    let reads : reads_of (circuit_seen parts) number ≡ item.inputs.items = reads-element (circuit_seen parts) number m ∙ ap (λ (x : circuit.Element). x.inputs) one in
    subst (λ ps. HavePins (circuit_seen parts) (number + 1) ps) (sym e) (have-more (circuit_seen parts) number pins item.inputs.items h reads)

pub check-pins : (c : Circuit) (elements check : ℕ) (pins pins' : List Pin) → HavePins c (elements + check) pins → pins' ≡ pins ++ pins_on (elements + check) (reads_of c (elements + check)) → HavePins c (elements + (check + 1)) pins'
check-pins c elements check pins pins' h e =
    let sum : elements + check + 1 ≡ elements + (check + 1) = omega arith in
    subst (λ n. HavePins c n pins') sum (subst (λ ps. HavePins c (elements + check + 1) ps) (sym e) (have-more c (elements + check) pins (reads_of c (elements + check)) h refl))

-- none is missing
pub pins-all : (c : Circuit) (count top : ℕ) (pins : List Pin) → HavePins c count pins → count ≡ top → HavePins c top pins
pins-all c count top pins h e = subst (λ n. HavePins c n pins) e h

-- what was collected fits together
pub ways-fit : (c c' : Circuit) (w : Ways) → c' ≡ c → IsClosed c → AreLinksOf c' w → length w.pins.items < 2 ^ 32 → (ps : List Pin) → ps ≡ w.pins.items → HasPins ps w.readers → length w.readers ≡ w.nets → AreWays w
ways-fit c c' w same closed of few ps e readers each = record {
  linked = links-fit c w closed (subst (λ x. AreLinksOf x w) same of) few;
  readers = subst (λ xs. HasPins xs w.readers) e readers;
  readers_of_each = each;
}

pub pins-fit : (c c' : Circuit) (w : Ways) → c' ≡ c → IsClosed c → AreLinksOf c' w → length w.pins.items < 2 ^ 32 → (ps : List Pin) → ps ≡ w.pins.items → All (λ (p : Pin). p.net < w.nets) ps
pins-fit c c' w same closed of few ps e = subst (λ xs. All (λ (p : Pin). p.net < w.nets) xs) (sym e) (links-fit c w closed (subst (λ x. AreLinksOf x w) same of) few).read
