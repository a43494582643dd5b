-- One number more.
use Rattle.std.proofs.Common.{◌+◌, ◌-◌, ℕ, Option, map, rules}
use Rattle.std.specs.List.{range_with_len}
use Rattle.elab_bits.proofs.OneMore.{one-added, first-of}
use Rattle.elab_nets.specs.Inputs.{bound_at, number_in}
use Rattle.elab_nets.proofs.outside.add_numbers.Goals as goal

pub loop-place-preserved : goal.loop-place-preserved
loop-place-preserved c =
    let p = c.loop-place.place in
    let n = c.args.count in
    let f : ℕ → Option ℕ = λ (i : ℕ). number_in c.args.row.now (bound_at c.args.bits.now i) in
    one-added (f p) c.loop-place.outer.items (map f (range_with_len p (n - p))) (map f (range_with_len (p + 1) (n - (p + 1)))) c.push.new.self.items _ (first-of f p n c.loop-place-test.true) (search rules)
    c.loop-place.invariant
