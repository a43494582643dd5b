-- One link is set.
use Rattle.std.proofs.Common.{IsSome, rules, sym, ◌∙◌}
use Rattle.event_wheel.specs.Slots.{node_at}
use Rattle.event_wheel.proofs.LinkLaws.{becomes-linked}
use Rattle.event_wheel.proofs.links.link_some.Goals as goal

pub returns-in-Some-clause-nodes : goal.returns-in-Some-clause-nodes
returns-in-Some-clause-nodes g c =
    let held : IsSome (node_at c.args.nodes.now c.in-Some.key) = search rules in
    rw (sym c.key.ensures ∙ c.in-Some.is) (becomes-linked c.args.nodes.now c.link.new.self c.in-Some.key c.args.side c.args.to held c.link.ensures.node)
