-- The two limits of a timing check.
use Rattle.std.specs.Prelude.{◌≡◌, ℕ, ◌*◌, ◌<◌, ◌≤◌, ◌^◌, not, nat_lt, ℤ, unsigned_abs, Bool, true, List, [], ◌∷◌, length, Option, Some, None, slice_index_or}
use Rattle.std.proofs.Common.{ap, arith, ◌∙◌}
use Rattle.std.proofs.Math.Nat.{le-mul_of_pos_right}
use Rattle.std.proofs.lemmas.Bool.Decides.{nat_tests}
use Rattle.annotation_model.specs.Applied.{is_limit_large, limit_or}
use Rattle.annotation_values.specs.declared.bounds.Bounds as code_bounds
use Rattle.annotation_values.specs.declared.bounds.Bounds.TheVariants.{Unsigned, Signed}
use Rattle.annotation_values.specs.Limits.{bounds_seen, changed_limits}
use Rattle.annotation_values.specs.Seen.{is_value_large}

pub both_changed : (signed : Bool) (one other : Option ℤ) (ls : List ℤ) (x y d : ℤ) → length ls ≡ 2 → x ≡ limit_or signed one (slice_index_or ls 0 d) → y ≡ limit_or signed other (slice_index_or ls 1 d)
    → (x ∷ y ∷ []) ≡ changed_limits signed one other ls
both_changed signed one other [] x y d l p q = absurd (omega arith)
both_changed signed one other (a ∷ []) x y d l p q = absurd (omega arith)
both_changed signed one other (a ∷ b ∷ ls) x y d l p q = ap (λ z. z ∷ y ∷ []) p ∙ ap (λ z. limit_or signed one a ∷ z ∷ []) q

-- ---- what is too large by itself is so as often as it weighs

weighs_more : (size weight limit : ℕ) → 0 < weight → not (nat_lt size limit) ≡ true → not (nat_lt (size * weight) limit) ≡ true
weighs_more size weight limit l e = let more : size ≤ size * weight = le-mul_of_pos_right size l in grind (arith, nat_tests)

positive : (b : code_bounds.Bounds) → 0 < (bounds_seen b).weight
positive Unsigned = omega arith
positive (Signed signals) = omega arith

pub large_weighed : (b : code_bounds.Bounds) (value : Option ℤ) → is_value_large value ≡ true → is_limit_large (bounds_seen b).weight value ≡ true
large_weighed b None e = absurd cc
large_weighed b (Some value) e = weighs_more (unsigned_abs value) (bounds_seen b).weight (2 ^ 60) (positive b) e
