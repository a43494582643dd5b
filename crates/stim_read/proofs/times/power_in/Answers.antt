-- The difference of two powers fits.
use Rattle.std.proofs.Common.{◌≡◌, arith, rules, w64, w32, w8, to_z, of_z, FitsSigned, ℤ, pos, negsuc, ◌≤ℤ◌, ◌+ℤ◌, ◌-ℤ◌}
use Rattle.std.proofs.lemmas.Int.{ints}
use Rattle.stim_read.proofs.times.power_in.Goals as goal

difference : (f p b : ℤ) → negsuc 14 ≤ℤ f → f ≤ℤ pos 2 → negsuc 14 ≤ℤ p → p ≤ℤ pos 2 → b ≡ to_z w8 (of_z w8 (to_z w8 (of_z w8 f) -ℤ to_z w8 (of_z w8 p))) → b ≡ f -ℤ p
difference f p b fl fg pl pg h = omega (arith, ints)

total : (e f p a b : ℤ) → FitsSigned w32 e → negsuc 14 ≤ℤ f → f ≤ℤ pos 2 → negsuc 14 ≤ℤ p → p ≤ℤ pos 2 → a ≡ to_z w32 (of_z w32 e) → b ≡ f -ℤ p
    → to_z w64 (of_z w64 (to_z w64 (of_z w64 a) +ℤ to_z w64 (of_z w64 b))) ≡ e +ℤ (f -ℤ p)
total e f p a b fits fl fg pl pg h k = omega (arith, ints)

pub returns : goal.returns
returns c =
    let fits : FitsSigned w32 c.args.time.now.exponent = search rules in
    total c.args.time.now.exponent c.args.scale.unit.power c.args.scale.tick.power c.from.result c.from-2.result fits c.args.scale.unit.least c.args.scale.unit.greatest c.args.scale.tick.least c.args.scale.tick.greatest c.from.ensures
    (difference c.args.scale.unit.power c.args.scale.tick.power c.from-2.result c.args.scale.unit.least c.args.scale.unit.greatest c.args.scale.tick.least c.args.scale.tick.greatest c.from-2.ensures)
