-- One front after another.
use Rattle.name_trie.specs.Tree.{steps_of}
use Rattle.name_trie.specs.Turned.{turned}
use Rattle.name_trie.proofs.Marking.{none-marked, one-turned, all-marked}
use Rattle.name_trie.proofs.tries.Trie.fronts.Goals as goal

pub loop-count-init : goal.loop-count-init
loop-count-init c = none-marked (steps_of c.args.self.now) c.args.self.now.ends.items (turned c.args.way c.args.text.now) c.new-marks.result.items c.new-marks.ensures.items

pub loop-count-preserved : goal.loop-count-preserved
loop-count-preserved c =
    one-turned (steps_of c.args.self.now) c.args.self.now.ends.items c.args.way c.args.text.now c.loop-count.count c.byte.result c.loop-count.node c.next-node.result c.loop-count.marks.items
    c.push.new.self.items c.ends_at.result c.loop-count-test.true c.byte.ensures c.loop-count.invariant c.ends_at.ensures c.in_ok-push.ensures.items c.next-node.ensures

pub returns-clause-marks : goal.returns-clause-marks
returns-clause-marks c =
    all-marked (steps_of c.args.self.now) c.args.self.now.ends.items c.args.text.now (turned c.args.way c.args.text.now) c.loop-count.count c.loop-count.node c.loop-count.marks.items c.loop-count-test.false
    c.loop-count.invariant
