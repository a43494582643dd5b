use Rattle.written_faults.proofs.DepthLaws.{left_over}
use Rattle.written_faults.proofs.depths.is_deep.Goals as goal

pub returns-then-unclosed-gt-DEEPEST : goal.returns-then-unclosed-gt-DEEPEST
returns-then-unclosed-gt-DEEPEST c =
    left_over c.args.tokens.now c.loop-token.token-index c.loop-token.unclosed c.open_behind-unclosed.result c.token-item.result c.loop-token-test.true c.loop-token.invariant c.token-item.is c.open_behind-unclosed.ensures c.if-unclosed-gt-DEEPEST.true
