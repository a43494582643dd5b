-- Each transition has its node.
use Rattle.std.proofs.Common.{subst}
use Rattle.event_wheel.specs.Wheel.{WheelView, HoldsPairs}
use Rattle.event_wheel.proofs.AgendaLaws.{holds_pairs}
use Rattle.event_wheel.proofs.wheel.Wheel.nodes.Goals as goal

pub returns-clause-pairs : goal.returns-clause-pairs
returns-clause-pairs c =
    let D = c.self.invariant.chained.by_driver in
    subst (λ (v : WheelView). HoldsPairs c.self.inside.chains.nodes v.lists) c.self.view_is (holds_pairs c.self.inside.chains.nodes c.self.inside.chains.drivers.items D.chains D.indexed)
