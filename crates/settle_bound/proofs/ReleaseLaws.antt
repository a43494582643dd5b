-- Hops that are released one after another.
use Rattle.std.specs.Prelude.{◌≡◌, ◌≢◌, ◌⊎◌, ℕ, ◌+◌, ◌-◌, ◌<◌, ◌≤◌, ◌==◌, max, Bool, true, false, if◌then◌else◌, List, [], ◌∷◌, ◌++◌, length, take, slice_index_or, slice_set, refl}
use Rattle.std.proofs.Common.{sym, ◌∙◌, ap, subst, arith, inl, inr, append_assoc}
use Rattle.std.proofs.lemmas.Bool.{cases_eq, cases_lt}
use Rattle.std.proofs.lemmas.List.{append-nil, length-set, length-take-le, get_or-set_same, get_or-set_other, get_or-take, get_or_default}
use Rattle.std.proofs.lemmas.List.Elements.{All-push}
use Rattle.std.proofs.lemmas.List.Sums.{count_by_more_yes, count_by_more_no, sum_by-take-le}
use Rattle.sg_circuit.specs.FanOut.{has}
use Rattle.settle_bound.specs.declared.ways.Link.{Link}
use Rattle.settle_bound.specs.declared.orders.Order.{Order}
use Rattle.settle_bound.specs.Links.{link_at}
use Rattle.settle_bound.specs.Orders.{at, count_driving, AreReady, IsFrom, Released, TakesHop}
use Rattle.settle_bound.proofs.Numbers.{same, other, is_same, is_other, has-push_same, has-push_other, once-push}

-- what stands at a place after a write
at_written : (xs : List ℕ) (i v : ℕ) → i < length xs → at (slice_set xs i v) i ≡ v
at_written xs i v l = get_or-set_same xs i v 0 l

at_elsewhere : (xs : List ℕ) (i j v : ℕ) → j ≢ i → at (slice_set xs i v) j ≡ at xs j
at_elsewhere xs i j v n = get_or-set_other xs i j v 0 n

-- no hop
pub released-none : (links : List Link) (before : ℕ) (hops : List ℕ) (o : Order) → Released links (take 0 hops) before o o
released-none links before hops o = record {
  bound_of_each = refl;
  wait_of_each = refl;
  no_less = λ net. omega arith;
  given = λ i l. absurd (let m : i < 0 = l in omega arith);
  from = λ net. inl refl;
  waits = λ net. omega arith;
  behind = [];
  added = sym (append-nil o.ready.items);
  ready = λ r. r;
}

-- a net that waits for one pin fewer
ready-one : (nets : ℕ) (waits ready waits' ready' : List ℕ) (b : ℕ) → b < nets → length waits ≡ nets → 0 < at waits b → waits' ≡ slice_set waits b (at waits b - 1) → ready' ≡ ready ++ (if at waits' b == 0 then b ∷ [] else [])
    → AreReady nets waits ready → AreReady nets waits' ready'
ready-one nets waits ready waits' ready' b l many some ew er h = by (at waits' b == 0) refl
  where
    inside : b < length waits
    inside = subst (λ n. b < n) (sym many) l

    here : at waits' b ≡ at waits b - 1
    here = ap (λ ws. at ws b) ew ∙ at_written waits b (at waits b - 1) inside

    there : (n : ℕ) → n ≢ b → at waits' n ≡ at waits n
    there n o = ap (λ ws. at ws n) ew ∙ at_elsewhere waits b n (at waits b - 1) o

    absent : has b ready ≡ false
    absent = none (has b ready) refl
      where
        none : (c : Bool) → has b ready ≡ c → has b ready ≡ false
        none true e = let z : at waits b ≡ 0 = (h.each b l).1 e in absurd (omega arith)
        none false e = e

    by : (c : Bool) → (at waits' b == 0) ≡ c → AreReady nets waits' ready'
    by true t =
        let zero_now : at waits' b ≡ 0 = is_same (at waits' b) 0 t in
        let e : ready' ≡ ready ++ b ∷ [] = er ∙ ap (λ c. ready ++ (if c then b ∷ [] else [])) t in
        subst (λ r. AreReady nets waits' r) (sym e) (record {
          within = All-push (λ n. n < nets) ready b h.within l;
          once = once-push ready b h.once absent;
          each = λ net m. elim (cases_eq net b) [
            | inl q ↦ (λ z. has-push_same net ready b (sym q), λ r. ap (at waits') q ∙ zero_now)
            | inr n ↦ (
              λ z. has-push_other net ready b (λ q. n (sym q)) ∙ (h.each net m).0 (sym (there net n) ∙ z),
              λ r. there net n ∙ (h.each net m).1 (sym (has-push_other net ready b (λ q. n (sym q))) ∙ r),
            )
          ];
        })
    by false t =
        let more : at waits' b ≢ 0 = is_other (at waits' b) 0 t in
        let e : ready' ≡ ready = er ∙ (ap (λ c. ready ++ (if c then b ∷ [] else [])) t ∙ append-nil ready) in
        subst (λ r. AreReady nets waits' r) (sym e) (record {
          within = h.within;
          once = h.once;
          each = λ net m. elim (cases_eq net b) [
            | inl q ↦ (
              λ z. absurd (more (ap (at waits') (sym q) ∙ z)),
              λ r. absurd (let f : false ≡ true = sym absent ∙ (ap (λ n. has n ready) (sym q) ∙ r) in cc),
            )
            | inr n ↦ (λ z. (h.each net m).0 (sym (there net n) ∙ z), λ r. there net n ∙ (h.each net m).1 r)
          ];
        })

-- of hops that go on, one more is among all
pub enough-left : (links : List Link) (hops : List ℕ) (before : ℕ) (old mid : Order) (i d : ℕ) → i < length hops → Released links (take i hops) before old mid → ((net : ℕ) → net < length old.waits.items → count_driving links net hops ≤ at old.waits.items net)
    → (link_at links (slice_index_or hops i d)).driven < length old.waits.items → 0 < at mid.waits.items (link_at links (slice_index_or hops i d)).driven
enough-left links hops before old mid i d l h enough inside =
    let net : ℕ = (link_at links (slice_index_or hops i d)).driven in
    let all = enough net inside in
    let so_far = h.waits net in
    let more : count_driving links net (take (i + 1) hops) ≡ count_driving links net (take i hops) + 1 = count_by_more_yes (λ k. (link_at links k).driven == net) hops i d l (same net net refl) in
    let most : count_driving links net (take (i + 1) hops) ≤ count_driving links net hops = sum_by-take-le _ hops (i + 1) in
    omega arith

-- one hop more
pub released-more : (links : List Link) (hops : List ℕ) (before : ℕ) (old mid new : Order) (i d : ℕ) → i < length hops → Released links (take i hops) before old mid
    → length old.waits.items ≡ length old.bounds.items → (link_at links (slice_index_or hops i d)).driven < length old.bounds.items → 0 < at mid.waits.items (link_at links (slice_index_or hops i d)).driven
    → TakesHop (link_at links (slice_index_or hops i d)) before mid new → Released links (take (i + 1) hops) before old new
released-more links hops before old mid new i d l h many inside some t = record {
  bound_of_each = ap length t.bounds ∙ (length-set mid.bounds.items net _ ∙ h.bound_of_each);
  wait_of_each = ap length t.waits ∙ (length-set mid.waits.items net _ ∙ h.wait_of_each);
  no_less = λ n. (let a = h.no_less n in let b = risen n in omega arith);
  given = λ j m. given_at j m (cases_eq j i);
  from = λ n. from_at n (cases_eq n net);
  waits = λ n. waits_at n (cases_eq n net);
  behind = h.behind ++ (if at new.waits.items net == 0 then net ∷ [] else []);
  added = t.ready ∙ (ap (λ r. r ++ (if at new.waits.items net == 0 then net ∷ [] else [])) h.added ∙ append_assoc old.ready.items h.behind _);
  ready = λ r. ready-one (length old.waits.items) mid.waits.items mid.ready.items new.waits.items new.ready.items net (subst (λ n. net < n) (sym many) inside) h.wait_of_each some t.waits t.ready (h.ready r);
}
  where
    hop : ℕ
    hop = slice_index_or hops i d

    net : ℕ
    net = (link_at links hop).driven

    weight : ℕ
    weight = (link_at links hop).weight

    in_bounds : net < length mid.bounds.items
    in_bounds = subst (λ n. net < n) (sym h.bound_of_each) inside

    in_waits : net < length mid.waits.items
    in_waits = subst (λ n. net < n) (sym (h.wait_of_each ∙ many)) inside

    bound_here : at new.bounds.items net ≡ max (at mid.bounds.items net) (before + weight)
    bound_here = ap (λ xs. at xs net) t.bounds ∙ at_written mid.bounds.items net _ in_bounds

    bound_there : (n : ℕ) → n ≢ net → at new.bounds.items n ≡ at mid.bounds.items n
    bound_there n o = ap (λ xs. at xs n) t.bounds ∙ at_elsewhere mid.bounds.items net n _ o

    risen : (n : ℕ) → at mid.bounds.items n ≤ at new.bounds.items n
    risen n = elim (cases_eq n net) [
      | inl q ↦ (let e : at new.bounds.items n ≡ max (at mid.bounds.items n) (before + weight) = subst (λ x. at new.bounds.items x ≡ max (at mid.bounds.items x) (before + weight)) (sym q) bound_here in omega arith)
      | inr o ↦ (let e = bound_there n o in omega arith)
    ]

    fits : i ≤ length hops
    fits = omega arith

    many_taken : length (take (i + 1) hops) ≡ i + 1
    many_taken = length-take-le (i + 1) hops (omega arith)

    taken : (j : ℕ) → j < i + 1 → slice_index_or (take (i + 1) hops) j 0 ≡ slice_index_or hops j 0
    taken j m = get_or-take (i + 1) hops j 0 m

    last_taken : slice_index_or (take (i + 1) hops) i 0 ≡ hop
    last_taken = taken i (omega arith) ∙ get_or_default hops i 0 d l

    given_at : (j : ℕ) → j < length (take (i + 1) hops) → (j ≡ i) ⊎ (j ≢ i) → before + (link_at links (slice_index_or (take (i + 1) hops) j 0)).weight ≤ at new.bounds.items (link_at links (slice_index_or (take (i + 1) hops) j 0)).driven
    given_at j m (inl q) =
        let b = bound_here in
        let top : before + weight ≤ at new.bounds.items net = omega arith in
        subst (λ k. before + (link_at links k).weight ≤ at new.bounds.items (link_at links k).driven) (sym (ap (λ x. slice_index_or (take (i + 1) hops) x 0) q ∙ last_taken)) top
    given_at j m (inr o) =
        let m' : j < i + 1 = subst (λ n. j < n) many_taken m in
        let m'' : j < i = omega arith in
        let old_one = h.given j (subst (λ n. j < n) (sym (length-take-le i hops fits)) m'') in
        let e : slice_index_or (take i hops) j 0 ≡ slice_index_or (take (i + 1) hops) j 0 = get_or-take i hops j 0 m'' ∙ sym (taken j m') in
        let old_two : before + (link_at links (slice_index_or (take (i + 1) hops) j 0)).weight ≤ at mid.bounds.items (link_at links (slice_index_or (take (i + 1) hops) j 0)).driven =
        subst (λ k. before + (link_at links k).weight ≤ at mid.bounds.items (link_at links k).driven) e old_one in
        let up = risen (link_at links (slice_index_or (take (i + 1) hops) j 0)).driven in
        omega arith

    longer : (n sum : ℕ) → IsFrom links (take i hops) before n sum → IsFrom links (take (i + 1) hops) before n sum
    longer n sum f =
        let within : f.place < i = subst (λ k. f.place < k) (length-take-le i hops fits) f.within in
        let e : slice_index_or (take i hops) f.place 0 ≡ slice_index_or (take (i + 1) hops) f.place 0 = get_or-take i hops f.place 0 within ∙ sym (taken f.place (omega arith)) in
        record {
          place = f.place;
          within = subst (λ k. f.place < k) (sym many_taken) (omega arith);
          driven = ap (λ k. (link_at links k).driven) (sym e) ∙ f.driven;
          is = f.is ∙ ap (λ k. before + (link_at links k).weight) e;
        }

    newest : (n sum : ℕ) → n ≡ net → sum ≡ before + weight → IsFrom links (take (i + 1) hops) before n sum
    newest n sum q e = record {
      place = i;
      within = subst (λ k. i < k) (sym many_taken) (omega arith);
      driven = ap (λ k. (link_at links k).driven) last_taken ∙ sym q;
      is = e ∙ ap (λ k. before + (link_at links k).weight) (sym last_taken);
    }

    kept_from : (n : ℕ) → at new.bounds.items n ≡ at mid.bounds.items n → (at new.bounds.items n ≡ at old.bounds.items n) ⊎ IsFrom links (take (i + 1) hops) before n (at new.bounds.items n)
    kept_from n e = elim (h.from n) [
      | inl s ↦ inl (e ∙ s)
      | inr f ↦ inr (subst (λ x. IsFrom links (take (i + 1) hops) before n x) (sym e) (longer n (at mid.bounds.items n) f))
    ]

    from_at : (n : ℕ) → (n ≡ net) ⊎ (n ≢ net) → (at new.bounds.items n ≡ at old.bounds.items n) ⊎ IsFrom links (take (i + 1) hops) before n (at new.bounds.items n)
    from_at n (inr o) = kept_from n (bound_there n o)
    from_at n (inl q) =
        let e : at new.bounds.items n ≡ max (at mid.bounds.items n) (before + weight) = subst (λ x. at new.bounds.items x ≡ max (at mid.bounds.items x) (before + weight)) (sym q) bound_here in
        elim (cases_lt (at mid.bounds.items n) (before + weight)) [
          | inr s ↦ kept_from n (omega arith)
          | inl s ↦ inr (newest n (at new.bounds.items n) q (omega arith))
        ]

    waits_at : (n : ℕ) → (n ≡ net) ⊎ (n ≢ net) → at new.waits.items n + count_driving links n (take (i + 1) hops) ≡ at old.waits.items n
    waits_at n (inl q) =
        let w : at new.waits.items net ≡ at mid.waits.items net - 1 = ap (λ xs. at xs net) t.waits ∙ at_written mid.waits.items net _ in_waits in
        let w' : at new.waits.items n ≡ at mid.waits.items n - 1 = subst (λ x. at new.waits.items x ≡ at mid.waits.items x - 1) (sym q) w in
        let some' : 0 < at mid.waits.items n = subst (λ x. 0 < at mid.waits.items x) (sym q) some in
        let c : count_driving links n (take (i + 1) hops) ≡ count_driving links n (take i hops) + 1 = count_by_more_yes (λ k. (link_at links k).driven == n) hops i d l (same net n (sym q)) in
        let b = h.waits n in
        omega arith
    waits_at n (inr o) =
        let w : at new.waits.items n ≡ at mid.waits.items n = ap (λ xs. at xs n) t.waits ∙ at_elsewhere mid.waits.items net n _ o in
        let c : count_driving links n (take (i + 1) hops) ≡ count_driving links n (take i hops) = count_by_more_no (λ k. (link_at links k).driven == n) hops i d l (other net n (λ q. o (sym q))) in
        let b = h.waits n in
        omega arith
