-- The link is that of the new key.
use Rattle.std.proofs.Common.{◌<◌, length, None, rules}
use Rattle.std.proofs.lemmas.List.{get_or_default}
use Rattle.event_wheel.specs.Slots.{node_at}
use Rattle.event_wheel.proofs.LinkLaws.{puts-with, put-between}
use Rattle.event_wheel.proofs.links.put_in.Goals as goal

pub returns-clause-nodes : goal.returns-clause-nodes
returns-clause-nodes g c =
    let links = c.args.node.links in
    let first : 0 < length c.args.node.links = search rules in
    let second : 1 < length c.args.node.links = search rules in
    let third : 2 < length c.args.node.links = search rules in
    let fourth : 3 < length c.args.node.links = search rules in
    put-between (node_at c.args.nodes.now) (node_at c.add-key.new.self) (node_at c.relink.new.nodes) (node_at c.relink-2.new.nodes) c.add-key.result c.args.node _ _ _ _ c.to-link.result
    (puts-with c.args.nodes.now c.add-key.new.self c.add-key.result c.args.node c.add-key.ensures.node) c.relink.ensures.nodes c.relink-2.ensures.nodes
    (get_or_default links 0 c.index-links-0.result None first) (get_or_default links 1 c.index-links-1.result None second) (get_or_default links 2 c.index-links-2.result None third) (get_or_default links 3 c.index-links-3.result None fourth) c.to-link.ensures
