-- No time before the place is later.
use Rattle.std.proofs.Common.{◌≤◌, arith, ◌∙◌, sym, subst}
use Rattle.event_wheel.specs.Slots.{node_at}
use Rattle.event_wheel.specs.Places.{IsEarlier}
use Rattle.event_wheel.proofs.PlaceLaws.{front_earlier, near_held, near_earlier}
use Rattle.event_wheel.proofs.places.start_of.Goals as goal

pub returns-in_default : goal.returns-in_default
returns-in_default g c = λ keys h. subst (λ b. IsEarlier (node_at c.args.nodes.now) keys c.args.time b c.args.first) (sym c.none.ensures) (front_earlier (node_at c.args.nodes.now) keys c.args.near c.args.first c.args.time h)

pub read-node-requires : goal.read-node-requires
read-node-requires g c = near_held (node_at c.args.nodes.now) c.requires.0 c.args.near c.args.first c.in-Some.key c.requires.1 (sym c.key.ensures ∙ c.in-Some.is)

pub returns-then-time-node : goal.returns-then-time-node
returns-then-time-node g c = λ keys h. subst (λ b. IsEarlier (node_at c.args.nodes.now) keys c.args.time b c.args.first) (sym c.none-then-time-node.ensures) (front_earlier (node_at c.args.nodes.now) keys c.args.near c.args.first c.args.time h)

pub returns : goal.returns
returns g c =
    let early : c.read-node.result.time ≤ c.args.time = omega arith in
    λ keys h. near_earlier (node_at c.args.nodes.now) keys c.args.near c.args.first c.in-Some.key c.read-node.result c.args.time c.beyond.result.0 c.beyond.result.1 h (sym c.key.ensures ∙ c.in-Some.is) c.read-node.ensures.node early (c.beyond.ensures c.in-Some.key (sym c.key.ensures ∙ c.in-Some.is))
