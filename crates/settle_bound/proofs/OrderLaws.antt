-- One net more is done: what its readers get.
use Rattle.std.specs.Prelude.{◌≡◌, ◌≢◌, ◌⊎◌, ℕ, zero, suc, ◌+◌, ◌*◌, ◌<◌, ◌≤◌, ◌^◌, ◌==◌, ◌&&◌, ◌||◌, not, cond, Bool, true, false, if◌then◌else◌, All, List, [], ◌∷◌, ◌++◌, length, take, slice_index_or, refl}
use Rattle.std.proofs.Common.{sym, ◌∙◌, ap, subst, arith, inl, inr}
use Rattle.std.proofs.lemmas.Bool.{cases_eq, or_cases}
use Rattle.std.proofs.lemmas.List.{length-append, length_push, length-take-le, get_or-take, get_or_default, get_or_read, take_more, take_all, take-append-le}
use Rattle.std.proofs.lemmas.List.Sums.{sum_by-cons, get_or-le-sum_by}
use Rattle.sg_circuit.specs.declared.building.Pin.{Pin}
use Rattle.sg_circuit.specs.FanOut.{has, readers_at}
use Rattle.sg_circuit.specs.Pins.{elements_on}
use Rattle.sg_circuit.proofs.PinLaws.{has-append}
use Rattle.settle_bound.specs.declared.ways.Link.{Link}
use Rattle.settle_bound.specs.declared.ways.Ways.{Ways}
use Rattle.settle_bound.specs.declared.orders.Order.{Order}
use Rattle.settle_bound.specs.Links.{link_at, pin_at, net_behind, weight_behind, AreLinked, AreWays, IsReached, by_more, holds_up, waits_of}
use Rattle.settle_bound.specs.Orders.{at, place_in, count_driving, AreReady, IsOrder, IsOrderOf, IsFrom, Released}
use Rattle.settle_bound.proofs.Numbers.{same, other, is_same, few, has-at, has-found, has-push, has-push_same, has-push_other, place-within, place-most, place-append}

-- the weight of a test
abbrev one_if : Bool → ℕ
one_if b = cond b 1 0

-- a pin's hop is one of those that read its net
record IsListed (net : ℕ) (pins : List Pin) (hop : ℕ) : Type 0 where
  place : ℕ
  within : place < length (elements_on net pins)
  is : slice_index_or (elements_on net pins) place 0 ≡ hop

listed : (net : ℕ) (pins : List Pin) (i : ℕ) → i < length pins → (pin_at pins i).net ≡ net → IsListed net pins (pin_at pins i).element
listed net [] i l e = absurd (omega arith)
listed net (p ∷ ps) zero l e =
    let yes : (p.net == net) ≡ true = same p.net net e in
    let is : elements_on net (p ∷ ps) ≡ p.element ∷ elements_on net ps = ap (λ b. if b then (p.element ∷ elements_on net ps) else elements_on net ps) yes in
    record { place = 0; within = subst (λ es. 0 < length es) (sym is) (omega arith); is = ap (λ es. slice_index_or es 0 0) is }
listed net (p ∷ ps) (suc i) l e = at (p.net == net) refl (listed net ps i (omega arith) e)
  where
    at : (b : Bool) → (p.net == net) ≡ b → IsListed net ps (pin_at ps i).element → IsListed net (p ∷ ps) (pin_at ps i).element
    at true t h =
        let is : elements_on net (p ∷ ps) ≡ p.element ∷ elements_on net ps = ap (λ b. if b then (p.element ∷ elements_on net ps) else elements_on net ps) t in
        record { place = suc h.place; within = subst (λ es. suc h.place < length es) (sym is) (let l = h.within in omega arith); is = ap (λ es. slice_index_or es (suc h.place) 0) is ∙ h.is }
    at false t h =
        let is : elements_on net (p ∷ ps) ≡ elements_on net ps = ap (λ b. if b then (p.element ∷ elements_on net ps) else elements_on net ps) t in
        record { place = h.place; within = subst (λ es. h.place < length es) (sym is) h.within; is = ap (λ es. slice_index_or es h.place 0) is ∙ h.is }

-- and the other way round
pub record IsPinOf (net : ℕ) (pins : List Pin) (hop : ℕ) : Type 0 where
  pub place : ℕ
  pub within : place < length pins
  pub net_is : (pin_at pins place).net ≡ net
  pub hop_is : (pin_at pins place).element ≡ hop

pub found : (net : ℕ) (pins : List Pin) (k : ℕ) → k < length (elements_on net pins) → IsPinOf net pins (slice_index_or (elements_on net pins) k 0)
found net [] k l = absurd (omega arith)
found net (p ∷ ps) k l = at (p.net == net) refl k l (λ j m. found net ps j m)
  where
    later : (hop : ℕ) → IsPinOf net ps hop → IsPinOf net (p ∷ ps) hop
    later hop f = record { place = suc f.place; within = (let m = f.within in omega arith); net_is = f.net_is; hop_is = f.hop_is }

    at : (b : Bool) → (p.net == net) ≡ b → (k : ℕ) → k < length (if b then (p.element ∷ elements_on net ps) else elements_on net ps) → ((j : ℕ) → j < length (elements_on net ps) → IsPinOf net ps (slice_index_or (elements_on net ps) j 0))
        → IsPinOf net (p ∷ ps) (slice_index_or (if b then (p.element ∷ elements_on net ps) else elements_on net ps) k 0)
    at true t zero l rest = record { place = 0; within = omega arith; net_is = is_same p.net net t; hop_is = refl }
    at true t (suc k) l rest = later (slice_index_or (elements_on net ps) k 0) (rest k (omega arith))
    at false t k l rest = later (slice_index_or (elements_on net ps) k 0) (rest k l)

-- what a net waits for, with one more net done and the pins from that
waits-split : (links : List Link) (pins : List Pin) (done : List ℕ) (net b : ℕ) → has net done ≡ false → waits_of links pins done b ≡ waits_of links pins (done ++ net ∷ []) b + count_driving links b (elements_on net pins)
waits-split links [] done net b new = refl
waits-split links (p ∷ ps) done net b new = by (cases_eq p.net net) (waits-split links ps done net b new)
  where
    drives : Bool
    drives = (link_at links p.element).driven == b

    old : ℕ
    old = waits_of links ps done b

    now : ℕ
    now = waits_of links ps (done ++ net ∷ []) b

    before : waits_of links (p ∷ ps) done b ≡ one_if (drives && not (has p.net done)) + old
    before = sum_by-cons (λ q. cond (holds_up links done b q) 1 0) p ps

    after : waits_of links (p ∷ ps) (done ++ net ∷ []) b ≡ one_if (drives && not (has p.net (done ++ net ∷ []))) + now
    after = sum_by-cons (λ q. cond (holds_up links (done ++ net ∷ []) b q) 1 0) p ps

    and_true : (c : Bool) → (c && not false) ≡ c
    and_true true = refl
    and_true false = refl

    and_false : (c : Bool) → (c && not true) ≡ false
    and_false true = refl
    and_false false = refl

    by : (p.net ≡ net) ⊎ (p.net ≢ net) → old ≡ now + count_driving links b (elements_on net ps) → waits_of links (p ∷ ps) done b ≡ waits_of links (p ∷ ps) (done ++ net ∷ []) b + count_driving links b (elements_on net (p ∷ ps))
    by (inl e) rest =
        let here : elements_on net (p ∷ ps) ≡ p.element ∷ elements_on net ps = ap (λ c. if c then (p.element ∷ elements_on net ps) else elements_on net ps) (same p.net net e) in
        let counted : count_driving links b (elements_on net (p ∷ ps)) ≡ one_if drives + count_driving links b (elements_on net ps) =
        ap (count_driving links b) here ∙ sum_by-cons (λ h. cond ((link_at links h).driven == b) 1 0) p.element (elements_on net ps) in
        let one : one_if (drives && not (has p.net done)) ≡ one_if drives = ap (λ c. one_if (drives && not c)) (ap (λ n. has n done) e ∙ new) ∙ ap one_if (and_true drives) in
        let none : one_if (drives && not (has p.net (done ++ net ∷ []))) ≡ 0 = ap (λ c. one_if (drives && not c)) (has-push_same p.net done net (sym e)) ∙ ap one_if (and_false drives) in
        let was = before in
        let will = after in
        omega arith
    by (inr n) rest =
        let there : elements_on net (p ∷ ps) ≡ elements_on net ps = ap (λ c. if c then (p.element ∷ elements_on net ps) else elements_on net ps) (other p.net net n) in
        let counted : count_driving links b (elements_on net (p ∷ ps)) ≡ count_driving links b (elements_on net ps) = ap (count_driving links b) there in
        let kept : one_if (drives && not (has p.net (done ++ net ∷ []))) ≡ one_if (drives && not (has p.net done)) = ap (λ c. one_if (drives && not c)) (has-push_other p.net done net (λ q. n (sym q))) in
        let was = before in
        let will = after in
        omega arith

-- a net that waits for nothing: each pin to it is from a net that is done
waits-none : (links : List Link) (pins : List Pin) (done : List ℕ) (b i : ℕ) → waits_of links pins done b ≡ 0 → i < length pins → net_behind links (pin_at pins i) ≡ b → has (pin_at pins i).net done ≡ true
waits-none links pins done b i none l is = at (has (pin_at pins i).net done) refl
  where
    at : (c : Bool) → has (pin_at pins i).net done ≡ c → has (pin_at pins i).net done ≡ true
    at true e = e
    at false e =
        let one : one_if (holds_up links done b (pin_at pins i)) ≡ 1 = ap (λ c. one_if (c && not (has (pin_at pins i).net done))) (same (net_behind links (pin_at pins i)) b is) ∙ ap (λ c. one_if (true && not c)) e in
        let most : one_if (holds_up links done b (pin_at pins i)) ≤ waits_of links pins done b = get_or-le-sum_by (λ q. cond (holds_up links done b q) 1 0) pins i (record { net = 0; element = 0 }) l in
        absurd (omega arith)

-- some hops drive a net
drives-some : (links : List Link) (hops : List ℕ) (net k : ℕ) → k < length hops → (link_at links (slice_index_or hops k 0)).driven ≡ net → 0 < count_driving links net hops
drives-some links hops net k l is =
    let one : one_if ((link_at links (slice_index_or hops k 0)).driven == net) ≡ 1 = ap one_if (same (link_at links (slice_index_or hops k 0)).driven net is) in
    let most : one_if ((link_at links (slice_index_or hops k 0)).driven == net) ≤ count_driving links net hops = get_or-le-sum_by (λ h. cond ((link_at links h).driven == net) 1 0) hops k 0 l in
    omega arith

-- enough pins are waited for
pub enough : (nets : ℕ) (links : List Link) (pins : List Pin) (o : Order) (done : List ℕ) (net : ℕ) → IsOrder nets links pins o done → has net done ≡ false → (b : ℕ) → b < length o.waits.items → count_driving links b (elements_on net pins) ≤ at o.waits.items b
enough nets links pins o done net h new b l =
    let w = h.waits b (subst (λ n. b < n) h.wait_of_each l) in
    let s = waits-split links pins done net b new in
    omega arith

-- the readers of a net are hops
pub hops-within : (top net : ℕ) (pins : List Pin) → All (λ (p : Pin). p.element < top) pins → All (λ h. h < top) (elements_on net pins)
hops-within top net pins h = λ k d l.
    (let f = found net pins k l in
    subst (λ x. x < top) (f.hop_is ∙ get_or_default (elements_on net pins) k 0 d l) (h f.place (record { net = 0; element = 0 }) f.within))

pub order-more : (nets : ℕ) (links : List Link) (pins : List Pin) (old new : Order) (done : List ℕ) (net : ℕ) → AreLinked nets links pins → IsOrder nets links pins old done → net < nets → has net done ≡ false → has net old.ready.items ≡ true
    → Released links (elements_on net pins) (at old.bounds.items net) old new → IsOrder nets links pins new (done ++ net ∷ [])
order-more nets links pins old new done net linked h l fresh is_ready r = record {
  done_ready = λ n e. ready-later n (elim (or_cases (has n done) (net == n) (sym (has-push n done net) ∙ e)) [
    | inl d ↦ h.done_ready n d
    | inr q ↦ subst (λ x. has x old.ready.items ≡ true) (is_same net n q) is_ready
  ]);
  bound_of_each = r.bound_of_each ∙ h.bound_of_each;
  wait_of_each = r.wait_of_each ∙ h.wait_of_each;
  waits = λ b m. (let w = h.waits b m in let s = waits-split links pins done net b fresh in let c = r.waits b in omega arith);
  ready = subst (λ n. AreReady n new.waits.items new.ready.items) h.wait_of_each (r.ready (subst (λ n. AreReady n old.waits.items old.ready.items) (sym h.wait_of_each) h.ready));
  in_order = record { each = λ i m e. in-order i m (or_cases (has (behind i) done) (net == behind i) (sym (has-push (behind i) done net) ∙ e)) };
  best = record {
    alone = λ k m. (let a = h.best.alone k m in let b = r.no_less (link_at links k).driven in omega arith);
    passed = λ i m e. passed i m (cases_eq (pin_at pins i).net net) e;
    reached = λ n m. elim (r.from n) [
      | inl e ↦ subst (λ s. IsReached links pins n s) (sym e) (h.best.reached n m)
      | inr f ↦ reached n f
    ];
    small = λ n m. small n m (r.from n);
  };
}
  where
    hops : List ℕ
    hops = elements_on net pins

    behind : ℕ → ℕ
    behind i = net_behind links (pin_at pins i)

    none_waits : at old.waits.items net ≡ 0
    none_waits = (h.ready.each net l).1 is_ready

    ready-later : (n : ℕ) → has n old.ready.items ≡ true → has n new.ready.items ≡ true
    ready-later n e = ap (has n) r.added ∙ (has-append n old.ready.items r.behind ∙ ap (λ c. c || has n r.behind) e)

    -- the bound of a net that waits for nothing stays
    stays : (n : ℕ) → at old.waits.items n ≡ 0 → at new.bounds.items n ≡ at old.bounds.items n
    stays n z = elim (r.from n) [
      | inl e ↦ e
      | inr f ↦ (let some = drives-some links hops n f.place f.within f.driven in let w = r.waits n in absurd (omega arith))
    ]

    in-order : (i : ℕ) → i < length pins → (has (behind i) done ≡ true) ⊎ ((net == behind i) ≡ true) → place_in (done ++ net ∷ []) (pin_at pins i).net < place_in (done ++ net ∷ []) (behind i)
    in-order i m (inl d) =
        let sooner = h.in_order.each i m d in
        let inside = place-within done (behind i) d in
        let there : place_in (done ++ net ∷ []) (behind i) ≡ place_in done (behind i) = place-append done (net ∷ []) (behind i) d in
        let here : place_in (done ++ net ∷ []) (pin_at pins i).net ≡ place_in done (pin_at pins i).net = place-append done (net ∷ []) (pin_at pins i).net (is-done (has (pin_at pins i).net done) refl sooner inside) in
        omega arith
      where
        is-done : (c : Bool) → has (pin_at pins i).net done ≡ c → place_in done (pin_at pins i).net < place_in done (behind i) → place_in done (behind i) < length done → has (pin_at pins i).net done ≡ true
        is-done true e s t = e
        is-done false e s t = let far = place-most done (pin_at pins i).net e in absurd (omega arith)
    in-order i m (inr q) =
        let is : net ≡ behind i = is_same net (behind i) q in
        let zero_waits : waits_of links pins done net ≡ 0 = sym (h.waits net l) ∙ none_waits in
        let d : has (pin_at pins i).net done ≡ true = waits-none links pins done net i zero_waits m (sym is) in
        let inside = place-within done (pin_at pins i).net d in
        let here : place_in (done ++ net ∷ []) (pin_at pins i).net ≡ place_in done (pin_at pins i).net = place-append done (net ∷ []) (pin_at pins i).net d in
        let there : place_in (done ++ net ∷ []) (behind i) ≡ length done = ap (place_in (done ++ net ∷ [])) (sym is) ∙ place-last done fresh in
        omega arith
      where
        place-last : (xs : List ℕ) → has net xs ≡ false → place_in (xs ++ net ∷ []) net ≡ length xs
        place-last [] e = ap (λ c. if c then 0 else suc 0) (same net net refl)
        place-last (x ∷ xs) e = step (x == net) refl e (λ f. place-last xs f)
          where
            step : (c : Bool) → (x == net) ≡ c → (c || has net xs) ≡ false → (has net xs ≡ false → place_in (xs ++ net ∷ []) net ≡ length xs) → (if c then 0 else suc (place_in (xs ++ net ∷ []) net)) ≡ suc (length xs)
            step true t f rest = absurd (let g : true ≡ false = f in cc)
            step false t f rest = ap suc (rest f)

    passed : (i : ℕ) → i < length pins → ((pin_at pins i).net ≡ net) ⊎ ((pin_at pins i).net ≢ net) → has (pin_at pins i).net (done ++ net ∷ []) ≡ true
        → at new.bounds.items (pin_at pins i).net + weight_behind links (pin_at pins i) ≤ at new.bounds.items (behind i)
    passed i m (inl q) e =
        let k = listed net pins i m q in
        let given : at old.bounds.items net + (link_at links (pin_at pins i).element).weight ≤ at new.bounds.items (link_at links (pin_at pins i).element).driven =
        subst (λ x. at old.bounds.items net + (link_at links x).weight ≤ at new.bounds.items (link_at links x).driven) k.is (r.given k.place k.within) in
        let was : at new.bounds.items (pin_at pins i).net ≡ at old.bounds.items net = ap (at new.bounds.items) q ∙ stays net none_waits in
        omega arith
    passed i m (inr n) e =
        let d : has (pin_at pins i).net done ≡ true = sym (has-push_other (pin_at pins i).net done net (λ q. n (sym q))) ∙ e in
        let given = h.best.passed i m d in
        let within : (pin_at pins i).net < nets = linked.read i (record { net = 0; element = 0 }) m in
        let was : at new.bounds.items (pin_at pins i).net ≡ at old.bounds.items (pin_at pins i).net = stays (pin_at pins i).net ((h.ready.each (pin_at pins i).net within).1 (h.done_ready (pin_at pins i).net d)) in
        let up = r.no_less (behind i) in
        omega arith

    reached : (n : ℕ) → IsFrom links hops (at old.bounds.items net) n (at new.bounds.items n) → IsReached links pins n (at new.bounds.items n)
    reached n f =
        let p = found net pins f.place f.within in
        let from : IsReached links pins (pin_at pins p.place).net (at old.bounds.items net) = subst (λ x. IsReached links pins x (at old.bounds.items net)) (sym p.net_is) (h.best.reached net l) in
        let on : IsReached links pins (net_behind links (pin_at pins p.place)) (at old.bounds.items net + weight_behind links (pin_at pins p.place)) = by_more p.place (at old.bounds.items net) p.within from in
        let there : net_behind links (pin_at pins p.place) ≡ n = ap (λ x. (link_at links x).driven) p.hop_is ∙ f.driven in
        let sum : at old.bounds.items net + weight_behind links (pin_at pins p.place) ≡ at new.bounds.items n = ap (λ x. at old.bounds.items net + (link_at links x).weight) p.hop_is ∙ sym f.is in
        subst (λ s. IsReached links pins n s) sum (subst (λ x. IsReached links pins x (at old.bounds.items net + weight_behind links (pin_at pins p.place))) there on)

    small : (n : ℕ) → n < nets → (at new.bounds.items n ≡ at old.bounds.items n) ⊎ IsFrom links hops (at old.bounds.items net) n (at new.bounds.items n) → at new.bounds.items n < (length (done ++ net ∷ []) + 1) * 2 ^ 60
    small n m (inl e) =
        let s = h.best.small n m in
        let longer : (length (done ++ net ∷ []) + 1) * 2 ^ 60 ≡ (length done + 1) * 2 ^ 60 + 2 ^ 60 = ap (λ k. (k + 1) * 2 ^ 60) (length_push done net) ∙ more (length done) in
        omega arith
      where
        more : (k : ℕ) → (k + 1 + 1) * 2 ^ 60 ≡ (k + 1) * 2 ^ 60 + 2 ^ 60
        more k = omega arith
    small n m (inr f) =
        let s = h.best.small net l in
        let within : slice_index_or hops f.place 0 < length links = hops-within (length links) net pins linked.hops f.place 0 f.within in
        let weight : (link_at links (slice_index_or hops f.place 0)).weight < 2 ^ 60 = linked.weights (slice_index_or hops f.place 0) (record { driven = 0; weight = 0 }) within in
        let is = f.is in
        let longer : (length (done ++ net ∷ []) + 1) * 2 ^ 60 ≡ (length done + 1) * 2 ^ 60 + 2 ^ 60 = ap (λ k. (k + 1) * 2 ^ 60) (length_push done net) ∙ more (length done) in
        omega arith
      where
        more : (k : ℕ) → (k + 1 + 1) * 2 ^ 60 ≡ (k + 1) * 2 ^ 60 + 2 ^ 60
        more k = omega arith

-- the same, of what the code has at hand

-- what is so of a net that is next
record IsNext (w : Ways) (o : Order) (place net : ℕ) : Type 0 where
  pub known : net < w.nets
  pub fresh : has net (take place o.ready.items) ≡ false
  pub listed : has net o.ready.items ≡ true

next-net : (w : Ways) (o : Order) (place net : ℕ) → IsOrderOf w o (take place o.ready.items) → place < length o.ready.items → net ≡ slice_index_or o.ready.items place net → IsNext w o place net
next-net w o place net h l is =
    let here : net ≡ slice_index_or o.ready.items place 0 = get_or_read o.ready.items place net l is 0 in
    record {
      known = subst (λ n. n < w.nets) (sym here) (h.ready.within place 0 l);
      fresh = at (has net (take place o.ready.items)) refl here;
      listed = ap (λ n. has n o.ready.items) here ∙ has-at o.ready.items place 0 l;
    }
  where
    at : (b : Bool) → has net (take place o.ready.items) ≡ b → net ≡ slice_index_or o.ready.items place 0 → has net (take place o.ready.items) ≡ false
    at false e here = e
    at true e here =
        let f = has-found net (take place o.ready.items) e in
        let k : f.0 < place = subst (λ n. f.0 < n) (length-take-le place o.ready.items (omega arith)) f.1 in
        let there : slice_index_or o.ready.items f.0 0 ≡ net = sym (get_or-take place o.ready.items f.0 0 k) ∙ f.2 in
        absurd (h.ready.once f.0 place 0 k l (there ∙ here))

readers-are : (w : Ways) (net : ℕ) (hops : List ℕ) → AreWays w → net < w.nets → hops ≡ readers_at w.readers net → hops ≡ elements_on net w.pins.items
readers-are w net hops ways l e = e ∙ ways.readers.each net (subst (λ n. net < n) (sym ways.readers_of_each) l)

pub next-known : (w : Ways) (o : Order) (place net : ℕ) → IsOrderOf w o (take place o.ready.items) → place < length o.ready.items → net ≡ slice_index_or o.ready.items place net → net < w.nets
next-known w o place net h l is = (next-net w o place net h l is).known

pub next-hops : (w : Ways) (o : Order) (place net : ℕ) (hops : List ℕ) (links : List Link) → AreWays w → IsOrderOf w o (take place o.ready.items) → place < length o.ready.items → net ≡ slice_index_or o.ready.items place net → hops ≡ readers_at w.readers net → links ≡ w.links.items
    → All (λ h. h < length links) hops
next-hops w o place net hops links ways h l is e f =
    subst (λ ls. All (λ k. k < length ls) hops) (sym f) (subst (λ hs. All (λ k. k < length w.links.items) hs) (sym (readers-are w net hops ways (next-net w o place net h l is).known e)) (hops-within (length w.links.items) net w.pins.items ways.linked.hops))

pub next-enough : (w : Ways) (o : Order) (place net : ℕ) (hops : List ℕ) (links : List Link) → AreWays w → IsOrderOf w o (take place o.ready.items) → place < length o.ready.items → net ≡ slice_index_or o.ready.items place net → hops ≡ readers_at w.readers net → links ≡ w.links.items
    → (b : ℕ) → b < length o.waits.items → count_driving links b hops ≤ at o.waits.items b
next-enough w o place net hops links ways h l is e f b m =
    let n = next-net w o place net h l is in
    let k = enough w.nets w.links.items w.pins.items o (take place o.ready.items) net h n.fresh b m in
    subst (λ ls. count_driving ls b hops ≤ at o.waits.items b) (sym f) (subst (λ hs. count_driving w.links.items b hs ≤ at o.waits.items b) (sym (readers-are w net hops ways n.known e)) k)

pub record IsOn (w : Ways) (o : Order) (place : ℕ) : Type 0 where
  pub so_far : IsOrderOf w o (take place o.ready.items)
  pub there : place ≤ length o.ready.items

pub next-done : (w : Ways) (old new : Order) (place net before : ℕ) (hops : List ℕ) (links : List Link) → AreWays w → IsOrderOf w old (take place old.ready.items) → place < length old.ready.items → net ≡ slice_index_or old.ready.items place net
    → before ≡ slice_index_or old.bounds.items net before → hops ≡ readers_at w.readers net → links ≡ w.links.items → Released links hops before old new → IsOn w new (place + 1)
next-done w old new place net before hops links ways h l is was e f r =
    let n = next-net w old place net h l is in
    let here : net ≡ slice_index_or old.ready.items place 0 = get_or_read old.ready.items place net l is 0 in
    let inside : net < length old.bounds.items = subst (λ k. net < k) (sym h.bound_of_each) n.known in
    let bound : before ≡ at old.bounds.items net = get_or_read old.bounds.items net before inside was 0 in
    let r' : Released w.links.items (elements_on net w.pins.items) (at old.bounds.items net) old new =
    subst (λ b. Released w.links.items (elements_on net w.pins.items) b old new) bound (subst (λ hs. Released w.links.items hs before old new) (readers-are w net hops ways n.known e) (subst (λ ls. Released ls hops before old new) f r)) in
    let next = order-more w.nets w.links.items w.pins.items old new (take place old.ready.items) net ways.linked h n.known n.fresh n.listed r' in
    let fits : place + 1 ≤ length old.ready.items = omega arith in
    let taken : take (place + 1) new.ready.items ≡ take place old.ready.items ++ net ∷ [] =
    ap (take (place + 1)) r.added ∙ (take-append-le (place + 1) old.ready.items r.behind fits ∙ (take_more old.ready.items place 0 l ∙ ap (λ k. take place old.ready.items ++ k ∷ []) (sym here))) in
    let longer : length new.ready.items ≡ length old.ready.items + length r.behind = ap length r.added ∙ length-append old.ready.items r.behind in
    record { so_far = subst (λ d. IsOrderOf w new d) (sym taken) next; there = omega arith }

-- all are done where none is left
pub all-done : (w : Ways) (o : Order) (place : ℕ) → IsOrderOf w o (take place o.ready.items) → length o.ready.items ≤ place → IsOrderOf w o o.ready.items
all-done w o place h l = subst (λ d. IsOrderOf w o d) (take_all place o.ready.items l) h

pub passed-all : (w : Ways) (o : Order) (place : ℕ) → IsOrderOf w o (take place o.ready.items) → w.nets ≤ place → IsOrderOf w o o.ready.items
passed-all w o place h l = all-done w o place h (let m = few w.nets o.ready.items h.ready.within h.ready.once in omega arith)
