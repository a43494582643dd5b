-- Times in whole ticks.
use Rattle.std.proofs.Common.{ℕ, ◌≡◌, ◌∙◌, sym, refl, ap, ◌+◌, ◌*◌, ◌/◌, ◌%◌, ◌^◌, ◌<◌, ◌≤◌, inl, inr, arith, Ok, Err}
use Rattle.std.specs.Prelude.{nat_le}
use Rattle.std.proofs.Math.Nat.{mod-one, div-one, zero-mod, zero-div, mod-eq_of_lt, mul-le-mul_left}
use Rattle.std.proofs.lemmas.Nat.{div-add-mod', mul-le}
use Rattle.std.proofs.lemmas.Bool.{cases_lt, ne_eqb, lt-leb, le-leb}
use Rattle.sg_time.proofs.ScalingLaws.{pow_at_least, one_at_least}
use Rattle.vcd_model.specs.declared.kinds.VcdKind.TheVariants.{NotWholeTick, TooLarge}
use Rattle.vcd_stim.specs.Meant.{fraction_ticks}

pub large_whole : (n : ℕ) → 2 ^ 60 ≤ n → Err TooLarge ≡ fraction_ticks n 1
large_whole n h = rw (mod-one n, le-leb (2 ^ 60) n h) refl

pub far_up : (size places : ℕ) → (size ≡ 0 → ⊥) → 18 < places → Err TooLarge ≡ fraction_ticks (size * 10 ^ places) 1
far_up size places some far =
    let high : 10 ^ 19 ≤ 10 ^ places = pow_at_least 19 places (omega arith) in
    let least : 1 ≤ size = omega arith in
    large_whole (size * 10 ^ places) (omega (arith, high, mul-le-mul_left (10 ^ places) least))

none_over : (divisor : ℕ) → 0 < divisor → Ok 0 ≡ fraction_ticks 0 divisor
none_over divisor h =
    let high : 2 ^ 60 * 1 ≤ 2 ^ 60 * divisor = mul-le (2 ^ 60) 1 (2 ^ 60) divisor (omega arith) (omega arith) in
    rw (zero-mod divisor, zero-div divisor, lt-leb (2 ^ 60 * divisor) 0 (omega (arith, high))) refl

pub none-over-at : (size places : ℕ) → size ≡ 0 → Ok 0 ≡ fraction_ticks size (10 ^ places)
none-over-at size places e = rw e (none_over (10 ^ places) (one_at_least places))

pub not_whole : (n d : ℕ) → (n % d ≡ 0 → ⊥) → Err NotWholeTick ≡ fraction_ticks n d
not_whole n d h = rw (ne_eqb (n % d) 0 h) refl

pub far_down : (size places : ℕ) → (size ≡ 0 → ⊥) → size < 2 ^ 68 → 20 < places → Err NotWholeTick ≡ fraction_ticks size (10 ^ places)
far_down size places some few far =
    let high : 10 ^ 21 ≤ 10 ^ places = pow_at_least 21 places (omega arith) in
    not_whole size (10 ^ places) (λ e. some (sym (mod-eq_of_lt {n = size} {m = 10 ^ places} (omega (arith, high))) ∙ e))

le-times : (a b d : ℕ) → 0 < d → nat_le (a * d) (b * d) ≡ nat_le a b
le-times a b d some = elim (cases_lt b a) [
  | inl lt ↦
      let more : (b + 1) * d ≤ a * d = mul-le (b + 1) d a d (omega arith) (omega arith) in
      let one : (b + 1) * d ≡ b * d + d = omega arith in
      rw (lt-leb a b lt, lt-leb (a * d) (b * d) (omega (arith, more, one))) refl
  | inr ge ↦ rw (le-leb a b ge, le-leb (a * d) (b * d) (mul-le a d b d ge (omega arith))) refl
]

-- what divides leaves a whole number
pub whole_over : (n d : ℕ) → 0 < d → n % d ≡ 0 → fraction_ticks (n / d) 1 ≡ fraction_ticks n d
whole_over n d some e =
    let sum = div-add-mod' n d in
    let whole : n ≡ n / d * d = omega (arith, sum, e) in
    let same : nat_le (2 ^ 60 * d) n ≡ nat_le (2 ^ 60) (n / d) = ap (nat_le (2 ^ 60 * d)) whole ∙ le-times (2 ^ 60) (n / d) d some in
    rw (mod-one (n / d), div-one (n / d), e, same) refl

pub product_fits : (number places : ℕ) → number < 2 ^ 68 → places ≤ 18 → number * 10 ^ places < 2 ^ 128
product_fits number places few low =
    let p : 10 ^ places ≤ 10 ^ 18 = pow_at_least places 18 low in
    let m : number * 10 ^ places ≤ 2 ^ 68 * 10 ^ 18 = mul-le number (10 ^ places) (2 ^ 68) (10 ^ 18) (omega (arith, few)) p in
    omega (arith, m)
