use Rattle.std.proofs.Common.{◌≡◌, length, sym, ap, ◌∙◌, arith}
use Rattle.settle_bound.specs.Hops.{longest}
use Rattle.settle_bound.proofs.LongestLaws.{delays-seen}
use Rattle.settle_bound.proofs.weights.longest_of_twelve.Goals as goal

pub returns : goal.returns
returns c =
    let many : length c.args.delays.now ≡ length c.args.limits.now = omega (arith, c.told-delays, c.told-limits) in
    c.longest.ensures ∙ sym (ap longest (delays-seen c.args.delays.now c.args.limits.now many))
