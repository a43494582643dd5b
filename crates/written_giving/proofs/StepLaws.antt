-- What entries make of a value, one after another: the last that is for it holds.
use Rattle.std.proofs.Common.{◌≡◌, zero, suc, ◌<◌, ◌≤◌, Bool, true, false, List, [], ◌∷◌, ◌++◌, refl, sym, ◌∙◌, ap, subst, arith, inl, inr}
use Rattle.std.specs.Prelude.{ℕ, ◌+◌, ◌==◌, ◌⊎◌, map, cond, if◌then◌else◌}
use Rattle.std.specs.List.{filter, flat_map, range_with_len}
use Rattle.std.proofs.lemmas.Bool.{eqb-true, cases_eq}
use Rattle.annotation_model.specs.Given.{Given}
use Rattle.annotation_model.specs.Spots.{after}
use Rattle.late_limits.proofs.NumberLaws.{test_same}
use Rattle.written_giving.proofs.MemberLaws.{Mem, in-map, map-in, in-filter, filter-in}

abbrev pub stepped : {V : Type 0} → (Given → Bool) → (Given → V → V) → Given → V → V
stepped test f g v = if test g then f g v else v

module _ {V : Type 0} where
  pub after-stepped : (test : Given → Bool) (f : Given → V → V) (gs : List Given) (v : V) → after f (filter test gs) v ≡ after (stepped test f) gs v
  after-stepped test f [] v = refl
  after-stepped test f (g ∷ gs) v = by (test g) (λ w. after-stepped test f gs w)
    where
      by : (b : Bool) → ((w : V) → after f (filter test gs) w ≡ after (stepped test f) gs w) → after f (cond b (g ∷ filter test gs) (filter test gs)) v ≡ after (stepped test f) gs (if b then f g v else v)
      by true rec = rec (f g v)
      by false rec = rec v

  pub after-append : (f : Given → V → V) (xs ys : List Given) (v : V) → after f (xs ++ ys) v ≡ after f ys (after f xs v)
  after-append f [] ys v = refl
  after-append f (x ∷ xs) ys v = after-append f xs ys (f x v)

  -- entries that do the same
  pub after-same : (f g : Given → V → V) (h : Given → Given) (xs : List Given) (v : V) → ((x : Given) (w : V) → f x w ≡ g (h x) w) → after f xs v ≡ after g (map h xs) v
  after-same f g h [] v e = refl
  after-same f g h (x ∷ xs) v e = ap (λ w. after f xs w) (e x v) ∙ after-same f g h xs (g (h x) v) e

module _ {V : Type 0} (f : Given → V → V) (Good : V → Type 0) (w : V) (good : Good w) where
  -- what one entry does, and what a list does
  abbrev pub Sets : Given → Type 0
  Sets g = (v : V) → Good v → f g v ≡ w

  abbrev pub Passes : Given → Type 0
  Passes g = (v : V) → Good v → f g v ≡ v

  abbrev pub Holds : Given → Type 0
  Holds g = (v : V) → Good v → Good (f g v)

  abbrev pub Leads : List Given → Type 0
  Leads gs = (v : V) → Good v → after f gs v ≡ w

  abbrev pub Skips : List Given → Type 0
  Skips gs = (v : V) → Good v → after f gs v ≡ v

  abbrev pub Keeps : List Given → Type 0
  Keeps gs = (v : V) → Good v → Good (after f gs v)

  abbrev pub Stays : List Given → Type 0
  Stays gs = after f gs w ≡ w

  pub leads-behind : (xs ys : List Given) → Keeps xs → Leads ys → Leads (xs ++ ys)
  leads-behind xs ys k l v h = after-append f xs ys v ∙ l (after f xs v) (k v h)

  pub leads-before : (xs ys : List Given) → Leads xs → Stays ys → Leads (xs ++ ys)
  leads-before xs ys l s v h = after-append f xs ys v ∙ (ap (λ x. after f ys x) (l v h) ∙ s)

  pub skips-both : (xs ys : List Given) → Skips xs → Skips ys → Skips (xs ++ ys)
  skips-both xs ys k l v h = after-append f xs ys v ∙ (ap (λ x. after f ys x) (k v h) ∙ l v h)

  pub keeps-skips : (xs : List Given) → Skips xs → Keeps xs
  keeps-skips xs s v h = subst Good (sym (s v h)) h

  pub stays-skips : (xs : List Given) → Skips xs → Stays xs
  stays-skips xs s = s w good

  pub stays-both : (xs ys : List Given) → Stays xs → Stays ys → Stays (xs ++ ys)
  stays-both xs ys k l = after-append f xs ys w ∙ (ap (λ x. after f ys x) k ∙ l)

  pub keeps-each : (xs : List Given) → ((g : Given) → Mem g xs → Holds g) → Keeps xs
  keeps-each [] h v k = k
  keeps-each (x ∷ xs) h v k = keeps-each xs (λ g m. h g (inr m)) (f x v) (h x (inl refl) v k)

  pub skips-each : (xs : List Given) → ((g : Given) → Mem g xs → Passes g) → Skips xs
  skips-each [] h v k = refl
  skips-each (x ∷ xs) h v k =
      let e : f x v ≡ v = h x (inl refl) v k in
      ap (λ y. after f xs y) e ∙ skips-each xs (λ g m. h g (inr m)) v k

  pub stays-each : (xs : List Given) → ((g : Given) → Mem g xs → Sets g ⊎ Passes g) → Stays xs
  stays-each [] h = refl
  stays-each (x ∷ xs) h =
      let e : f x w ≡ w = elim (h x (inl refl)) [
        | inl s ↦ s w good
        | inr p ↦ p w good
      ] in
      ap (λ y. after f xs y) e ∙ stays-each xs (λ g m. h g (inr m))

  -- some entry sets it, and the others set it too or do nothing
  pub leads-each : (xs : List Given) (g : Given) → Mem g xs → Sets g → ((k : Given) → Mem k xs → Sets k ⊎ Passes k) → Leads xs
  leads-each [] g m s h v k = absurd m
  leads-each (x ∷ xs) g m s h v k = elim (h x (inl refl)) [
    | inl t ↦ ap (λ y. after f xs y) (t v k) ∙ stays-each xs (λ g n. h g (inr n))
    | inr p ↦ elim m [
      | inl e ↦ (let t : f x v ≡ w = ap (λ y. f y v) (sym e) ∙ s v k in ap (λ y. after f xs y) t ∙ stays-each xs (λ g n. h g (inr n)))
      | inr n ↦ ap (λ y. after f xs y) (p v k) ∙ leads-each xs g n s (λ g n. h g (inr n)) v k
    ]
  ]

  -- pieces by number: those before one keep what is good, that one leads, those behind leave it so
  pub stays-range : (S : ℕ → List Given) (a k : ℕ) → ((n : ℕ) → a ≤ n → n < a + k → Stays (S n)) → Stays (flat_map S (range_with_len a k))
  stays-range S a zero h = refl
  stays-range S a (suc k) h =
      stays-both (S a) (flat_map S (range_with_len (a + 1) k)) (h a (omega arith) (omega arith)) (stays-range S (a + 1) k (λ n l m. h n (omega (arith, l)) (omega (arith, m))))

  pub leads-range : (S : ℕ → List Given) (r a k : ℕ) → a ≤ r → r < a + k → ((n : ℕ) → n < r → Keeps (S n)) → Leads (S r) → ((n : ℕ) → r < n → n < a + k → Stays (S n)) → Leads (flat_map S (range_with_len a k))
  leads-range S r a zero l m before at behind = absurd (omega (arith, l, m))
  leads-range S r a (suc k) l m before at behind = elim (cases_eq a r) [
    | inl e ↦ leads-before (S a) (flat_map S (range_with_len (a + 1) k)) (subst (λ n. Leads (S n)) (sym e) at) (stays-range S (a + 1) k (λ n p q. behind n (omega (arith, p, e)) (omega (arith, q))))
    | inr d ↦ leads-behind (S a) (flat_map S (range_with_len (a + 1) k)) (before a (omega (arith, l, d)))
        (leads-range S r (a + 1) k (omega (arith, l, d)) (omega (arith, m)) before at (λ n p q. behind n p (omega (arith, q))))
  ]

  -- entries by their rank: those of the rank of one that sets it set it too, or do nothing, and those above do nothing
  module _ {E : Type 0} (h : E → Given) (rank : E → ℕ) (xs : List E) where
    abbrev ranked : ℕ → List Given
    ranked n = map h (filter (λ x. rank x == n) xs)

    ranked-mem : (n : ℕ) (g : Given) → Mem g (ranked n) → (e : E) × Mem e xs × (rank e ≡ n) × (g ≡ h e)
    ranked-mem n g m =
        let r = in-map h (filter (λ x. rank x == n) xs) g m in
        let q = in-filter (λ x. rank x == n) xs r.0 r.1 in
        (r.0, q.0, eqb-true (rank r.0) n q.1, r.2)

    pub leads-ranked : (e : E) → Mem e xs → rank e < 5 → Sets (h e) → ((x : E) → Mem x xs → Holds (h x)) → ((x : E) → Mem x xs → rank x ≡ rank e → Sets (h x) ⊎ Passes (h x)) → ((x : E) → Mem x xs → rank e < rank x → Passes (h x))
        → Leads (flat_map ranked (range_with_len 0 5))
    leads-ranked e m few s holds same above =
        leads-range ranked (rank e) 0 5 (omega arith) (omega (arith, few))
        (λ n l. keeps-each (ranked n) (λ g k. let q = ranked-mem n g k in subst Holds (sym q.3) (holds q.0 q.1)))
        (leads-each (ranked (rank e)) (h e) (map-in h (filter (λ x. rank x == rank e) xs) e (filter-in (λ x. rank x == rank e) xs e m (test_same (rank e) (rank e) refl))) s
        (λ g k. let q = ranked-mem (rank e) g k in subst (λ y. Sets y ⊎ Passes y) (sym q.3) (same q.0 q.1 q.2)))
        (λ n l u. stays-each (ranked n) (λ g k. let q = ranked-mem n g k in inr (subst Passes (sym q.3) (above q.0 q.1 (omega (arith, l, q.2))))))
