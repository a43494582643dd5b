use Rattle.std.proofs.Common.{rules, ◌≡◌, ap, sym, length, replicate}
use Rattle.annotation_values.proofs.pulses.set_all.Goals as goal

pub returns : goal.returns
returns c = let twelve : length c.args.limits.now ≡ 12 = search rules in ap (λ n. replicate n c.args.limit) (sym twelve)
