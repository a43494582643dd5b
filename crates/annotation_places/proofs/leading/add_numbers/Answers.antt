-- One number more is there, and one fewer is left.
use Rattle.annotation_places.proofs.Turns.{number_added}
use Rattle.annotation_places.proofs.leading.add_numbers.Goals as goal

pub loop-number-preserved : goal.loop-number-preserved
loop-number-preserved c = number_added c.loop-number.number c.args.end c.loop-number.found.items c.push.new.self.items _ c.loop-number-test.true c.in_ok-push.ensures.items c.loop-number.invariant
