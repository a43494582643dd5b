-- The lines between two bytes are added.
use Rattle.std.proofs.Common.{arith}
use Rattle.fit_changes.proofs.LineLaws.{line-later}
use Rattle.fit_changes.proofs.lines.line_at.Goals as goal

pub returns : goal.returns
returns c =
    let later = line-later c.args.source.now c.args.from c.args.byte c.requires.order.0 in
    let n = c.feeds.ensures in
    let l = c.requires.line in
    omega (arith, later, n, l)
