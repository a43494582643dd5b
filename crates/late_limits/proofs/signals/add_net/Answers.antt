use Rattle.std.proofs.Common.{arith}
use Rattle.late_limits.proofs.NumberLaws.{one-placed}
use Rattle.late_limits.proofs.signals.add_net.Goals as goal

pub returns-clause-placed : goal.returns-clause-placed
returns-clause-placed c =
    one-placed c.args.nets.now.items c.args.places.now.items c.make_room.new.places.items c.push.new.self.items c.args.net c.len-number.result
    c.make_room.ensures.kept c.requires.placed c.requires.new (omega (arith, c.len-number.ensures, c.args.nets.now.ok.0)) (omega arith) c.in_ok-make_room.ensures.room c.in_ok-push.ensures.items
