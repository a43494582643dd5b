-- Times in whole ticks.
use Rattle.std.proofs.Common.{inl, inr, ℕ, ◌≡◌, ◌∙◌, sym, refl, ap, ◌+◌, ◌*◌, ◌/◌, ◌%◌, ◌^◌, ◌<◌, ◌≤◌, arith, true, false, Ok, Err}
use Rattle.std.specs.Prelude.{nat_lt}
use Rattle.std.proofs.Math.Nat.{mod-one, div-one, zero-mod, zero-div, mod-eq_of_lt, mul-le-mul_left, mul_assoc, mul_comm}
use Rattle.std.proofs.lemmas.Nat.{div-add-mod', mul-le, div_below}
use Rattle.std.proofs.lemmas.Bool.{cases_lt, eqb-true, ne_eqb, lt-ltb, le-ltb, lt-leb, le-leb, leb-false}
use Rattle.sg_time.specs.Spelling.{Number}
use Rattle.sg_time.proofs.ScalingLaws.{pow_at_least, one_at_least}
use Rattle.stim_read.specs.declared.kinds.StimKind.TheVariants.{NotWholeTick, TooLarge}
use Rattle.stim_read.specs.Times.{Scale, numerator, denominator, is_whole, ticks, is_before, is_too_large}
use Rattle.stim_read.specs.Meant.{fraction_ticks}

mod-of-one : (n : ℕ) → n % 1 ≡ 0
mod-of-one n = mod-one n

div-of-one : (n : ℕ) → n / 1 ≡ n
div-of-one n = div-one n

-- whole numbers
pub small_whole : (n : ℕ) → n < 2 ^ 60 → Ok n ≡ fraction_ticks n 1
small_whole n h = rw (mod-of-one n, div-of-one n, lt-leb (2 ^ 60) n h) refl

pub large_whole : (n : ℕ) → 2 ^ 60 ≤ n → Err TooLarge ≡ fraction_ticks n 1
large_whole n h = rw (mod-of-one n, le-leb (2 ^ 60) n h) refl

pub far_up : (size places : ℕ) → (size ≡ 0 → ⊥) → 18 < places → Err TooLarge ≡ fraction_ticks (size * 10 ^ places) 1
far_up size places some far =
    let high : 10 ^ 19 ≤ 10 ^ places = pow_at_least 19 places (omega arith) in
    let least : 1 ≤ size = omega arith in
    large_whole (size * 10 ^ places) (omega (arith, high, mul-le-mul_left (10 ^ places) least))

-- parts of whole numbers
pub none_over : (divisor : ℕ) → 0 < divisor → Ok 0 ≡ fraction_ticks 0 divisor
none_over divisor h =
    let high : 2 ^ 60 * 1 ≤ 2 ^ 60 * divisor = mul-le (2 ^ 60) 1 (2 ^ 60) divisor (omega arith) (omega arith) in
    rw (zero-mod divisor, zero-div divisor, lt-leb (2 ^ 60 * divisor) 0 (omega (arith, high))) refl

pub none-over-at : (size places : ℕ) → size ≡ 0 → Ok 0 ≡ fraction_ticks size (10 ^ places)
none-over-at size places e = rw e (none_over (10 ^ places) (one_at_least places))

pub not_whole : (n d : ℕ) → (n % d ≡ 0 → ⊥) → Err NotWholeTick ≡ fraction_ticks n d
not_whole n d h = rw (ne_eqb (n % d) 0 h) refl

pub far_down : (size places : ℕ) → (size ≡ 0 → ⊥) → size < 10 ^ 18 → 18 < places → Err NotWholeTick ≡ fraction_ticks size (10 ^ places)
far_down size places some few far =
    let high : 10 ^ 19 ≤ 10 ^ places = pow_at_least 19 places (omega arith) in
    not_whole size (10 ^ places) (λ e. some (sym (mod-eq_of_lt {n = size} {m = 10 ^ places} (omega (arith, high))) ∙ e))

pub whole_over : (size d : ℕ) → 0 < d → size < 10 ^ 18 → size % d ≡ 0 → Ok (size / d) ≡ fraction_ticks size d
whole_over size d some few e =
    let high : 2 ^ 60 * 1 ≤ 2 ^ 60 * d = mul-le (2 ^ 60) 1 (2 ^ 60) d (omega arith) (omega arith) in
    rw (e, lt-leb (2 ^ 60 * d) size (omega (arith, high))) refl

-- a whole number of ticks
pub whole-parts : (scale : Scale) (t : Number) → is_whole scale t ≡ true → ticks scale t * denominator scale t ≡ numerator scale t
whole-parts scale t h =
    let rest : numerator scale t % denominator scale t ≡ 0 = eqb-true _ 0 h in
    let sum = div-add-mod' (numerator scale t) (denominator scale t) in
    omega (arith, rest, sum)

less-times : (a b d : ℕ) → 0 < d → nat_lt (a * d) (b * d) ≡ nat_lt a b
less-times a b d some = elim (cases_lt a b) [
  | inl lt ↦
      let more : (a + 1) * d ≤ b * d = mul-le (a + 1) d b d (omega arith) (omega arith) in
      let one : (a + 1) * d ≡ a * d + d = omega arith in
      rw (lt-ltb a b lt) (lt-ltb (a * d) (b * d) (omega (arith, more, one)))
  | inr ge ↦ rw (le-ltb a b ge) (le-ltb (a * d) (b * d) (mul-le b d a d ge (omega arith)))
]

product-above : (a b : ℕ) → 0 < a → 0 < b → 0 < a * b
product-above a b x y = let least : 1 * 1 ≤ a * b = mul-le 1 1 a b x y in omega (arith, least)

pub denominator-some : (scale : Scale) (t : Number) → 0 < denominator scale t
denominator-some scale t = one_at_least _

-- times that are whole stand as their ticks do
pub before-ticks : (scale : Scale) (t u : Number) → is_whole scale t ≡ true → is_whole scale u ≡ true → is_before scale t u ≡ nat_lt (ticks scale t) (ticks scale u)
before-ticks scale t u ht hu =
    let dt : ℕ = denominator scale t in
    let du : ℕ = denominator scale u in
    let left : numerator scale t * du ≡ ticks scale t * (dt * du) = ap (λ x. x * du) (sym (whole-parts scale t ht)) ∙ mul_assoc (ticks scale t) dt du in
    let right : numerator scale u * dt ≡ ticks scale u * (dt * du) =
    ap (λ x. x * dt) (sym (whole-parts scale u hu)) ∙ mul_assoc (ticks scale u) du dt ∙ ap (λ x. ticks scale u * x) (mul_comm du dt) in
    ap (λ x. nat_lt x (numerator scale u * dt)) left ∙ ap (λ x. nat_lt (ticks scale t * (dt * du)) x) right
    ∙ less-times (ticks scale t) (ticks scale u) (dt * du) (product-above dt du (denominator-some scale t) (denominator-some scale u))

-- what isn't too large has fewer ticks than 2 ^ 60
pub ticks-below : (scale : Scale) (t : Number) → is_too_large scale t ≡ false → ticks scale t < 2 ^ 60
ticks-below scale t h = div_below (numerator scale t) (denominator scale t) (2 ^ 60) (denominator-some scale t) (leb-false (2 ^ 60 * denominator scale t) (numerator scale t) h)
