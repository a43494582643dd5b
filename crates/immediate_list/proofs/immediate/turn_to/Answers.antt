use Rattle.std.proofs.Common.{◌≡◌, length, ap, arith}
use Rattle.immediate_list.proofs.immediate.turn_to.Goals as goal

pub returns-clause-lists : goal.returns-clause-lists
returns-clause-lists g c = c.flush.ensures.lists c.args.now

pub returns-clause-spare : goal.returns-clause-spare
returns-clause-spare g c =
    let none : length c.flush.new.front.drivers.items ≡ 0 = ap length c.flush.ensures.drivers in
    omega (arith, c.flush.ensures.spare, none)
