-- The fronts so far are marked.
use Rattle.name_trie.specs.Tree.{steps_of}
use Rattle.name_trie.specs.Turned.{turned}
use Rattle.name_trie.proofs.Marking.{AreMarked}
use Rattle.name_trie.proofs.tries.Trie.fronts.Given as goal

abbrev pub invariant-loop-count : goal.invariant-loop-count
invariant-loop-count l = AreMarked (steps_of l.self) l.self.ends.items (turned l.way l.text) l.count l.node l.marks.items
