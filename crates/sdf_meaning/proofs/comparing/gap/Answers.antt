-- An exponent is above another by the difference, or it isn't.
use Rattle.std.proofs.Common.{◌≡◌, arith, w64, w32, to_z, of_z, FitsSigned, ℤ, ◌-ℤ◌, ap, ◌∙◌}
use Rattle.std.proofs.lemmas.Int.{ints}
use Rattle.std.specs.Int.RustNames.{unsigned_abs}
use Rattle.sdf_meaning.proofs.Sizes.{none_above, so_far_above}
use Rattle.sdf_meaning.proofs.comparing.gap.Goals as goal

difference : (a b x y : ℤ) → FitsSigned w32 a → FitsSigned w32 b → x ≡ to_z w32 (of_z w32 b) → y ≡ to_z w32 (of_z w32 a) → to_z w64 (of_z w64 (to_z w64 (of_z w64 x) -ℤ to_z w64 (of_z w64 y))) ≡ b -ℤ a
difference a b x y fa fb h k = omega (arith, ints)

pub returns-then-to-from : goal.returns-then-to-from
returns-then-to-from c = none_above c.args.from c.args.to (omega (arith, ints, c.if-to-from.true))

pub returns : goal.returns
returns c =
    let same = difference c.args.from c.args.to c.from.result c.from-2.result c.ranges.from c.ranges.to c.from.ensures c.from-2.ensures in
    c.unsigned_abs.ensures.value ∙ ap unsigned_abs same ∙ so_far_above c.args.from c.args.to (omega (arith, ints, c.if-to-from.false))
