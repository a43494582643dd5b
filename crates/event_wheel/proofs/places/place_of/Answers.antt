-- Each run that is passed isn't later than the time.
use Rattle.std.proofs.Common.{◌≤◌, arith, ◌∙◌, sym}
use Rattle.event_wheel.specs.Slots.{node_at}
use Rattle.event_wheel.proofs.PlaceLaws.{after_held, passing_step, passing_falls, place_found, place_end}
use Rattle.event_wheel.proofs.places.place_of.Goals as goal

pub loop-key-init : goal.loop-key-init
loop-key-init g c = record { each = λ keys h. c.start_of-before.ensures keys h }

pub read-node-requires : goal.read-node-requires
read-node-requires g c =
    after_held (node_at c.args.nodes.now) c.requires.0 c.loop-key.before c.loop-key.after c.in-Some.key (c.loop-key.invariant.each c.requires.0 c.requires.1).between (sym c.key.ensures ∙ c.in-Some.is)

pub returns-then-time-node : goal.returns-then-time-node
returns-then-time-node g c =
    let late : c.args.time ≤ c.read-node.result.time = omega arith in
    place_found (node_at c.args.nodes.now) c.args.near c.args.first c.args.time c.loop-key.before c.loop-key.after c.in-Some.key c.read-node.result c.loop-key.invariant (sym c.key.ensures ∙ c.in-Some.is) c.read-node.ensures.node late

pub loop-key-smaller : goal.loop-key-smaller
loop-key-smaller g c =
    passing_falls c.args.nodes.now c.requires.0 c.loop-key.before c.loop-key.after c.in-Some.key c.read-node.result c.beyond-next.result.0 c.beyond-next.result.1 (c.loop-key.invariant.each c.requires.0 c.requires.1).between (sym c.key.ensures ∙ c.in-Some.is) c.read-node.ensures.node
    (c.beyond-next.ensures c.in-Some.key (sym c.key.ensures ∙ c.in-Some.is))

pub loop-key-preserved : goal.loop-key-preserved
loop-key-preserved g c =
    let early : c.read-node.result.time ≤ c.args.time = omega arith in
    passing_step (node_at c.args.nodes.now) c.args.near c.args.first c.args.time c.loop-key.before c.loop-key.after c.in-Some.key c.read-node.result c.beyond-next.result.0 c.beyond-next.result.1 c.loop-key.invariant (sym c.key.ensures ∙ c.in-Some.is) c.read-node.ensures.node early (c.beyond-next.ensures c.in-Some.key (sym c.key.ensures ∙ c.in-Some.is))

pub returns : goal.returns
returns g c = place_end (node_at c.args.nodes.now) c.args.near c.args.first c.args.time c.loop-key.before c.loop-key.after c.loop-key.invariant (sym c.key.ensures ∙ c.in_default.is)
