-- Byte by byte, and the mark at the end.
use Rattle.name_trie.specs.Turned.{turned}
use Rattle.name_trie.proofs.Adding.{at-root, all-bytes}
use Rattle.name_trie.proofs.tries.Trie.add.Goals as goal

pub loop-count-init : goal.loop-count-init
loop-count-init c = at-root c.args.self.now (turned c.args.way c.args.name.now) c.requires.tree

pub returns-clause-names : goal.returns-clause-names
returns-clause-names c = all-bytes c.args.self.now c.loop-count.self c.args.way c.args.name.now c.loop-count.count c.loop-count.node c.loop-count-test.false c.loop-count.invariant
