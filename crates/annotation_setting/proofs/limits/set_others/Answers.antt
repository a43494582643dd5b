-- Limits that stay are as if they were set.
use Rattle.std.proofs.Common.{◌≡◌, rules}
use Rattle.annotation_setting.proofs.LimitLaws.{here, none-set}
use Rattle.annotation_setting.proofs.limits.set_others.Goals as goal

pub returns-then-are_same-clause-set : goal.returns-then-are_same-clause-set
returns-then-are_same-clause-set c =
    let x = c.index.result.now in
    let same : x.limits ≡ c.args.limits.now = search rules in
    none-set c.args.opened.now c.args.check c.args.limits.now x (here c.args.opened.now.circuit c.parts.result.now c.args.check x c.parts.ensures.seen c.index.ensures) same c.are_same.ensures.two
