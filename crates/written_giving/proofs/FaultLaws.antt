-- What a circuit without faults has: numbers that are read as they were, and one value for each key.
use Rattle.std.proofs.Common.{◌≡◌, suc, ◌<◌, ◌≤◌, Bool, true, false, List, [], ◌∷◌, length, refl, sym, ◌∙◌, ap, subst, arith, inl, inr}
use Rattle.std.specs.Prelude.{ℕ, ◌%◌, ◌^◌, ◌==◌, not, nat_le, ℤ, pos, negsuc, ◌-ℤ◌, ◌≤ℤ◌, unsigned_abs, ◌⊎◌, map, Option, Some, None, IfSome}
use Rattle.std.specs.List.{flat_map}
use Rattle.std.proofs.lemmas.Bool.{or_parts, leb-false, eqb-true, eqb-false}
use Rattle.std.proofs.lemmas.List.{length-map}
use Rattle.sg_time.specs.Ticks.{above}
use Rattle.sg_delay.specs.declared.corners.Corner.{Corner}
use Rattle.sg_circuit.specs.Circuit.{Circuit, scope_at}
use Rattle.sg_circuit.specs.Closed.{IsClosed, AreTimings, IsTiming}
use Rattle.sg_circuit.specs.Timings.{Timing, limits_of, limits_or}
use Rattle.annotation_model.specs.Applied.{Grid}
use Rattle.annotation_model.specs.Spots.{leg_spot, path_spot}
use Rattle.written_model.specs.Entries.{Numbers, numbers_of, LegEntry, PathEntry, CheckEntry, legs, path_entries, check_entries}
use Rattle.written_model.specs.Faults.{Disagree, sizes, sizes_of, precision_of, AreFaultless}
use Rattle.written_giving.proofs.MemberLaws.{Mem, in-place, each-of-all, in-left, in-right, flat-in, map-in, in-map, any-none}
use Rattle.written_giving.proofs.SpotLaws.{spot-timings, path-entry, leg-entry}
use Rattle.written_giving.proofs.TickLaws.{IsOnGrid}
use Rattle.written_giving.proofs.TimingLaws.{AreRead}

-- ---- what can be told apart

abbrev Decided : {A : Type 0} → A → A → Type 0
Decided a b = (a ≡ b) ⊎ (a ≡ b → ⊥)

decide-list : {A : Type 0} → ((a b : A) → Decided a b) → (xs ys : List A) → Decided xs ys
decide-list d [] [] = inl refl
decide-list d [] (y ∷ ys) = inr (λ e. let n : 0 ≡ suc (length ys) = ap length e in omega (arith, n))
decide-list d (x ∷ xs) [] = inr (λ e. let n : suc (length xs) ≡ 0 = ap length e in omega (arith, n))
decide-list {A} d (x ∷ xs) (y ∷ ys) = elim (d x y) [
  | inl e ↦ elim (decide-list d xs ys) [
    | inl f ↦ inl (ap (λ z. z ∷ xs) e ∙ ap (λ zs. y ∷ zs) f)
    | inr g ↦ inr (λ h. g (ap behind h))
  ]
  | inr g ↦ inr (λ h. g (ap (first x) h))
]
  where
    behind : List A → List A
    behind [] = []
    behind (z ∷ zs) = zs

    first : A → List A → A
    first d [] = d
    first d (z ∷ zs) = z

decide-number : (a b : ℕ) → Decided a b
decide-number a b = by (a == b) refl
  where
    by : (t : Bool) → (a == b) ≡ t → Decided a b
    by true e = inl (eqb-true a b e)
    by false e = inr (eqb-false a b e)

decide-numbers : (a b : Numbers) → Decided a b
decide-numbers a b = elim (decide-number a.delay b.delay) [
  | inr g ↦ inr (λ h. g (ap (λ (n : Numbers). n.delay) h))
  | inl e ↦ elim (decide-number a.reject b.reject) [
    | inr g ↦ inr (λ h. g (ap (λ (n : Numbers). n.reject) h))
    | inl f ↦ elim (decide-number a.error b.error) [
      | inr g ↦ inr (λ h. g (ap (λ (n : Numbers). n.error) h))
      | inl k ↦ inl (ap {B = Numbers} (λ x. record { delay = x; reject = a.reject; error = a.error }) e
          ∙ (ap {B = Numbers} (λ x. record { delay = b.delay; reject = x; error = a.error }) f ∙ ap {B = Numbers} (λ x. record { delay = b.delay; reject = b.reject; error = x }) k))
    ]
  ]
]

abbrev is_pos : ℤ → Bool
is_pos (pos n) = true
is_pos (negsuc n) = false

decide-int : (a b : ℤ) → Decided a b
decide-int (pos a) (pos b) = elim (decide-number a b) [
  | inl e ↦ inl (ap pos e)
  | inr g ↦ inr (λ h. g (ap unsigned_abs h))
]
decide-int (negsuc a) (negsuc b) = elim (decide-number a b) [
  | inl e ↦ inl (ap negsuc e)
  | inr g ↦ inr (λ h. let s : suc a ≡ suc b = ap unsigned_abs h in g (omega (arith, s)))
]
decide-int (pos a) (negsuc b) = inr (λ h. let s : true ≡ false = ap is_pos h in absurd cc)
decide-int (negsuc a) (pos b) = inr (λ h. let s : false ≡ true = ap is_pos h in absurd cc)

-- what doesn't disagree is the same
one-value : {A K V : Type 0} (key : A → K) (value : A → V) (es : List A) → ((a b : V) → Decided a b) → (Disagree key value es → ⊥) → (x y : A) → Mem x es → Mem y es → key x ≡ key y → value x ≡ value y
one-value key value es d none x y m n e = elim (d (value x) (value y)) [
  | inl f ↦ f
  | inr g ↦ absurd (let p = in-place es x m in let q = in-place es y n in none (record { one = x; other = y; place = p.0; other_place = q.0; stands = p.1; other_stands = q.1; same = e; differ = g }))
]

module _ (c : Circuit) (faultless : AreFaultless c) (s : ℕ) where
  pub one-path-value : (x y : PathEntry) → Mem x (path_entries c s) → Mem y (path_entries c s) → x.key ≡ y.key → x.numbers ≡ y.numbers
  one-path-value x y m n e =
      one-value (λ (k : PathEntry). k.key) (λ (k : PathEntry). k.numbers) (path_entries c s) (decide-list decide-numbers) (λ h. faultless.unambiguous s (inl h)) x y m n e

  pub one-check-value : (x y : CheckEntry) → Mem x (check_entries c s) → Mem y (check_entries c s) → x.key ≡ y.key → x.limit ≡ y.limit
  one-check-value x y m n e =
      one-value (λ (k : CheckEntry). k.key) (λ (k : CheckEntry). k.limit) (check_entries c s) decide-int (λ h. faultless.unambiguous s (inr h)) x y m n e

  -- ---- sizes

  pub size-read : (n : ℕ) → Mem n (sizes c s) → IsOnGrid n (above ((scope_at c s).precision -ℤ c.tick))
  size-read n m =
      let d = precision_of c s in record {
        grid = not-not (n % d == 0) (any-none (λ k. not (k % d == 0)) (sizes c s) n (faultless.on_grid s) m);
        short = leb-false (10 ^ 18) n (any-none (λ k. nat_le (10 ^ 18) k) (sizes c s) n (or_parts _ _ (faultless.short s)).0 m);
      }
    where
      not-not : (b : Bool) → not b ≡ false → b ≡ true
      not-not true e = refl
      not-not false e = absurd cc

  pub leg-size : (e : LegEntry) (n : Numbers) (k : ℕ) → Mem e (legs c s) → Mem n e.numbers → Mem k (sizes_of n) → Mem k (sizes c s)
  leg-size e n k m l i = in-left _ _ k (flat-in (λ (x : LegEntry). flat_map sizes_of x.numbers) (legs c s) e k m (flat-in sizes_of e.numbers n k l i))

  pub path-size : (e : PathEntry) (n : Numbers) (k : ℕ) → Mem e (path_entries c s) → Mem n e.numbers → Mem k (sizes_of n) → Mem k (sizes c s)
  path-size e n k m l i =
      in-right (flat_map (λ (x : LegEntry). flat_map sizes_of x.numbers) (legs c s)) _ k
      (in-left _ _ k (flat-in (λ (x : PathEntry). flat_map sizes_of x.numbers) (path_entries c s) e k m (flat-in sizes_of e.numbers n k l i)))

  pub check-size : (e : CheckEntry) → Mem e (check_entries c s) → Mem (unsigned_abs e.limit) (sizes c s)
  check-size e m =
      in-right (flat_map (λ (x : LegEntry). flat_map sizes_of x.numbers) (legs c s)) _ (unsigned_abs e.limit)
      (in-right (flat_map (λ (x : PathEntry). flat_map sizes_of x.numbers) (path_entries c s)) _ (unsigned_abs e.limit) (map-in (λ (x : CheckEntry). unsigned_abs x.limit) (check_entries c s) e m))

-- ---- entries

abbrev pub scope_grid : Circuit → Corner → ℕ → Grid
scope_grid c corner s = record { corner = corner; unit = c.tick; precision = (scope_at c s).precision; tick = c.tick }

module _ (c : Circuit) (closed : IsClosed c) (faultless : AreFaultless c) (corner : Corner) (s : ℕ) (within : s < length c.scopes) where
  pub scale : c.tick ≤ℤ (scope_at c s).precision
  scale = closed.scales s _ within

  abbrev pub IsRead : Numbers → Type 0
  IsRead n = AreRead (scope_grid c corner s) refl scale n

  ordered : (t : Timing) → IsTiming t → (limits_of t).0 ≤ (limits_of t).1
  ordered t h = by t.limits h.ordered
    where
      by : (o : Option (ℕ × ℕ)) → IfSome o (λ l. l.0 ≤ l.1) → (limits_or t.delay o).0 ≤ (limits_or t.delay o).1
      by None h = omega arith
      by (Some l) h = h

  all-ordered : (ts : List Timing) → AreTimings ts → (n : Numbers) → Mem n (map numbers_of ts) → n.reject ≤ n.error
  all-ordered ts h n m =
      let r = in-map numbers_of ts n m in subst (λ (k : Numbers). k.reject ≤ k.error) (sym r.2) (ordered r.0 (each-of-all IsTiming ts h.1 r.0 r.1))

  are-read : (n : Numbers) → ((k : ℕ) → Mem k (sizes_of n) → Mem k (sizes c s)) → n.reject ≤ n.error → IsRead n
  are-read n h o = record {
    delay = size-read c faultless s n.delay (h n.delay (inl refl));
    reject = size-read c faultless s n.reject (h n.reject (inr (inl refl)));
    error = size-read c faultless s n.error (h n.error (inr (inr (inl refl))));
    ordered = o;
  }

  pub path-read : (e : PathEntry) → Mem e (path_entries c s) → (n : Numbers) → Mem n e.numbers → IsRead n
  path-read e m n l =
      let p = path-entry c s e m in
      are-read n (λ k i. path-size c faultless s e n k m l i)
      (all-ordered p.path.timings (spot-timings c closed (path_spot s p.output p.path) p.among) n (subst (λ (x : PathEntry). Mem n x.numbers) p.is l))

  pub path-twelve : (e : PathEntry) → Mem e (path_entries c s) → length e.numbers ≡ 12
  path-twelve e m =
      let p = path-entry c s e m in
      ap (λ (x : PathEntry). length x.numbers) p.is ∙ (length-map p.path.timings numbers_of ∙ (spot-timings c closed (path_spot s p.output p.path) p.among).0)

  pub leg-read : (e : LegEntry) → Mem e (legs c s) → (n : Numbers) → Mem n e.numbers → IsRead n
  leg-read e m n l =
      let p = leg-entry c s e m in
      are-read n (λ k i. leg-size c faultless s e n k m l i)
      (all-ordered p.timings (spot-timings c closed (leg_spot s p.inputs p.output p.timings) p.among) n (subst (λ (x : LegEntry). Mem n x.numbers) p.is l))

  pub leg-twelve : (e : LegEntry) → Mem e (legs c s) → length e.numbers ≡ 12
  leg-twelve e m =
      let p = leg-entry c s e m in
      ap (λ (x : LegEntry). length x.numbers) p.is ∙ (length-map p.timings numbers_of ∙ (spot-timings c closed (leg_spot s p.inputs p.output p.timings) p.among).0)
