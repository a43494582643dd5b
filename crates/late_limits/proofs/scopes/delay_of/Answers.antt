use Rattle.late_limits.proofs.ScopeLaws.{delay-is}
use Rattle.late_limits.proofs.scopes.delay_of.Goals as goal

pub returns : goal.returns
returns c =
    delay-is c.args.elements.now c.index-elements-late.result c.args.late c.args.signals.now c.args.delays.now c.deref.result.now c.copied-net.result c.number.result c.delay_at.result
    c.requires c.deref.ensures c.copied-net.ensures c.number.ensures c.delay_at.ensures
