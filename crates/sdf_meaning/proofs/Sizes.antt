-- Numbers of 18 digits beside one another: powers of ten above the 18th tell nothing more.
use Rattle.std.proofs.Common.{◌≡◌, ◌∙◌, sym, refl, ap, ℕ, ◌*◌, ◌^◌, ◌<◌, ◌≤◌, arith, Bool, true, false, inl, inr}
use Rattle.std.specs.Prelude.{ℤ, pos, negsuc, ◌⊎◌, ◌||◌, ◌≤ℤ◌, ◌-ℤ◌, nat_lt, nat_le}
use Rattle.std.specs.Int.{int_gap}
use Rattle.std.specs.Int.RustNames.{unsigned_abs}
use Rattle.std.proofs.Math.Nat.{mul-le-mul_left}
use Rattle.std.proofs.lemmas.Bool.{cases_lt, le-ltb, lt-ltb}
use Rattle.std.proofs.lemmas.Int.{ints}
use Rattle.sg_time.specs.Spelling.{Number}
use Rattle.sg_time.proofs.ScalingLaws.{pow_at_least, one_at_least}
use Rattle.sdf_tree.specs.Faults.{size_beside, is_less, is_below}
use Rattle.sdf_meaning.specs.Sizes.{few_places, near_size}

-- ---- how far an exponent is above another

pub none_above : (a b : ℤ) → b ≤ℤ a → 0 ≡ int_gap a b
none_above (pos a) (pos b) le = omega (arith, ints, le)
none_above (pos a) (negsuc b) le = refl
none_above (negsuc a) (pos b) le = absurd (omega (arith, ints, le))
none_above (negsuc a) (negsuc b) le = omega (arith, ints, le)

pub so_far_above : (a b : ℤ) → a ≤ℤ b → unsigned_abs (b -ℤ a) ≡ int_gap a b
so_far_above (pos a) (pos b) le = omega (arith, ints, le)
so_far_above (pos a) (negsuc b) le = absurd (omega (arith, ints, le))
so_far_above (negsuc a) (pos b) le = omega (arith, ints, le)
so_far_above (negsuc a) (negsuc b) le = omega (arith, ints, le)

-- one of two isn't above the other
one_way : (a b : ℤ) → (int_gap a b ≡ 0) ⊎ (int_gap b a ≡ 0)
one_way a b = elim (cases_lt (int_gap a b) 1) [
  | inl lt ↦ inl (omega (arith, lt))
  | inr ge ↦ inr (other a b ge)
]
  where
    other : (a b : ℤ) → 1 ≤ int_gap a b → int_gap b a ≡ 0
    other (pos a) (pos b) ge = omega (arith, ge)
    other (pos a) (negsuc b) ge = absurd (omega (arith, ge))
    other (negsuc a) (pos b) ge = refl
    other (negsuc a) (negsuc b) ge = omega (arith, ge)

-- ---- sizes

few_small : (n : ℕ) → n ≤ 18 → few_places n ≡ n
few_small n le = by (nat_le n 18) refl
  where
    by : (b : Bool) → nat_le n 18 ≡ b → few_places n ≡ n
    by true h = rw h refl
    by false h = absurd (grind (arith, le, h))

few_large : (n : ℕ) → 18 < n → few_places n ≡ 18
few_large n lt = by (nat_le n 18) refl
  where
    by : (b : Bool) → nat_le n 18 ≡ b → few_places n ≡ 18
    by true h = absurd (grind (arith, lt, h))
    by false h = rw h refl

-- something times so many places is more than any 18 digits
large : (a k : ℕ) → 1 ≤ a → 18 ≤ k → 10 ^ 18 ≤ a * 10 ^ k
large a k some far = omega (arith, pow_at_least 18 k far, mul-le-mul_left (10 ^ k) some)

none_stays : (a k : ℕ) → a ≡ 0 → a * 10 ^ k ≡ 0
none_stays a k e = ap (λ (n : ℕ). n * 10 ^ k) e ∙ omega arith

some_stays : (a k : ℕ) → 1 ≤ a → 1 ≤ a * 10 ^ k
some_stays a k some = omega (arith, one_at_least k, mul-le-mul_left (10 ^ k) some)

-- a size, and what there is of it near the other one
pub record Near (size near other : ℕ) : Type 0 where
  pub up : nat_lt size other ≡ nat_lt near other
  pub down : nat_lt other size ≡ nat_lt other near
  pub some : nat_lt 0 size ≡ nat_lt 0 near

same_near : (size near other : ℕ) → size ≡ near → Near size near other
same_near size near other e = record { up = ap (λ (n : ℕ). nat_lt n other) e; down = ap (λ (n : ℕ). nat_lt other n) e; some = ap (λ (n : ℕ). nat_lt 0 n) e }

both_far : (size near other : ℕ) → other < size → other < near → Near size near other
both_far size near other s n = record {
  up = le-ltb size other (omega (arith, s)) ∙ sym (le-ltb near other (omega (arith, n)));
  down = lt-ltb other size s ∙ sym (lt-ltb other near n);
  some = lt-ltb 0 size (omega (arith, s)) ∙ sym (lt-ltb 0 near (omega (arith, n)));
}

pub near_enough : (a g b : ℕ) → b < 10 ^ 18 → Near (a * 10 ^ g) (a * 10 ^ few_places g) b
near_enough a g b few = elim (cases_lt 18 g) [
  | inr le ↦ same_near (a * 10 ^ g) (a * 10 ^ few_places g) b (ap (λ (n : ℕ). a * 10 ^ n) (sym (few_small g le)))
  | inl lt ↦ elim (cases_lt 0 a) [
    | inl some ↦
        let near : a * 10 ^ few_places g ≡ a * 10 ^ 18 = ap (λ (n : ℕ). a * 10 ^ n) (few_large g lt) in
        let least : 10 ^ 18 ≤ a * 10 ^ 18 = large a 18 some (omega arith) in
        both_far (a * 10 ^ g) (a * 10 ^ few_places g) b (omega (arith, few, large a g some (omega (arith, lt)))) (omega (arith, few, near, least))
    | inr none ↦
        let e : a ≡ 0 = omega (arith, none) in
        same_near (a * 10 ^ g) (a * 10 ^ few_places g) b (none_stays a g e ∙ sym (none_stays a (few_places g) e))
  ]
]

-- a number whose exponent isn't above the other's is its digits
alone : (a g : ℕ) → g ≡ 0 → (a * 10 ^ g ≡ a) × (a * 10 ^ few_places g ≡ a)
alone a g e = (ap (λ (n : ℕ). a * 10 ^ n) e ∙ omega arith, ap (λ (n : ℕ). a * 10 ^ few_places n) e ∙ omega arith)

same_order : (m n : Bool) (size near other : ℕ) → Near size near other → (is_less m n size other ≡ is_less m n near other) × (is_less m n other size ≡ is_less m n other near)
same_order false false size near other h = (h.up, h.down)
same_order false true size near other h = (refl, refl)
same_order true false size near other h = (ap (λ (b : Bool). b || nat_lt 0 other) h.some, ap (λ (b : Bool). nat_lt 0 other || b) h.some)
same_order true true size near other h = (h.down, h.up)

pub below_near : (a b : Number) → a.digits < 10 ^ 18 → b.digits < 10 ^ 18 → is_less a.negative b.negative (near_size a b) (near_size b a) ≡ is_below a b
below_near a b few_a few_b = elim (one_way b.exponent a.exponent) [
  | inl none ↦
      let own = alone a.digits (int_gap b.exponent a.exponent) none in
      let far = near_enough b.digits (int_gap a.exponent b.exponent) a.digits few_a in
      let order = same_order a.negative b.negative (size_beside b a) (near_size b a) a.digits far in
      ap (λ (s : ℕ). is_less a.negative b.negative s (near_size b a)) own.1 ∙ (sym order.1 ∙ sym (ap (λ (s : ℕ). is_less a.negative b.negative s (size_beside b a)) own.0))
  | inr none ↦
      let own = alone b.digits (int_gap a.exponent b.exponent) none in
      let far = near_enough a.digits (int_gap b.exponent a.exponent) b.digits few_b in
      let order = same_order a.negative b.negative (size_beside a b) (near_size a b) b.digits far in
      ap (λ (s : ℕ). is_less a.negative b.negative (near_size a b) s) own.1 ∙ (sym order.0 ∙ sym (ap (λ (s : ℕ). is_less a.negative b.negative (size_beside a b) s) own.0))
]
