-- The step is there, or it is made to a new node.
use Rattle.std.proofs.Common.{sym, arith}
use Rattle.name_trie.proofs.Growing.{old-step, new-step}
use Rattle.name_trie.proofs.tries.Trie.grow.Goals as goal

pub returns-in-Some : goal.returns-in-Some
returns-in-Some c = old-step c.args.self.now c.args.node c.args.byte c.in-Some.next.now c.requires.tree (sym c.in-Some.ensures.value)

pub returns : goal.returns
returns c =
    new-step c.args.self.now (record { steps = c.insert.new.self; ends = c.push.new.self }) c.args.node c.args.byte c.len-next.result c.requires.tree c.requires.node
    (omega (arith, c.len-next.ensures, c.args.self.now.ends.ok.0)) (sym c.in_default.ensures.value) c.in_ok-insert.ensures.updates.0 c.in_ok-push.ensures.items
