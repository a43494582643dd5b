-- The bytes so far led to the node.
use Rattle.name_trie.specs.Turned.{turned}
use Rattle.name_trie.proofs.Adding.{IsUnderWay}
use Rattle.name_trie.proofs.tries.Trie.add.Given as goal

abbrev pub invariant-loop-count : goal.invariant-loop-count
invariant-loop-count l = IsUnderWay l.fn.self l.self (turned l.way l.name) l.count l.node
