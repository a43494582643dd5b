-- The node goes out of both chains.
use Rattle.std.proofs.Common.{◌≡◌, ◌<◌, ◌≤◌, ◌%◌, length, refl, sym, ◌∙◌, ap, subst, arith}
use Rattle.std.specs.Prelude.{slice_set}
use Rattle.event_wheel.specs.Links.{known_without}
use Rattle.event_wheel.specs.Kept.{AreBuckets}
use Rattle.event_wheel.specs.Slots.{node_at, link_of}
use Rattle.event_wheel.proofs.EffectLaws.{has_neighbours}
use Rattle.event_wheel.proofs.WheelLaws.{has_taken}
use Rattle.event_wheel.proofs.WriteLaws.{ends_joined, read_near, closed, known_between}
use Rattle.event_wheel.proofs.LeastLaws.{others_taken, others_at, others_from}
use Rattle.event_wheel.proofs.chains.Chains.take.Goals as goal

pub take_out-node-requires-clause-neighbours : goal.take_out-node-requires-clause-neighbours
take_out-node-requires-clause-neighbours g c =
    has_neighbours (node_at c.args.self.now.nodes) (length c.args.self.now.buckets.items) (λ s t. s ≤ t) (λ s t. s < t) c.args.self.now.buckets.items c.args.self.now.drivers.items
    c.requires.chained.by_time.chains c.requires.chained.by_driver.chains c.args.key c.requires.chained.by_time.indexed c.requires.chained.by_driver.indexed

pub index_mut-requires-2 : goal.index_mut-requires-2
index_mut-requires-2 g c =
    let within = (c.requires.chained.by_driver.indexed.family.complete c.args.key c.take_out-node.result c.take_out-node.ensures.node).0 in
    let len = c.args.self.now.drivers.ok.0 in
    omega arith

pub returns-clause-taken : goal.returns-clause-taken
returns-clause-taken g c =
    let B = c.args.self.now.buckets.items in
    let D = c.args.self.now.drivers.items in
    let node = c.take_out-node.result in
    let within = (c.requires.chained.by_driver.indexed.family.complete c.args.key node c.take_out-node.ensures.node).0 in
    let some = c.requires.chained.some in
    let N = c.args.self.now.near.items in
    let as_many = c.requires.chained.as_many in
    let inside : node.time % length B < length B = omega arith in
    let known : node.time % length B < length N = omega arith in
    let bucket : c.bucket_of-bucket.result ≡ node.time % length B = c.bucket_of-bucket.ensures ∙ ap (λ xs. node.time % length xs) c.deref.ensures.value in
    has_taken c.args.self.now.nodes c.take_out-node.new.nodes B D _ _ c.args.self.now.near.items _ c.args.key node c.requires.chained c.take_out-node.ensures.node c.take_out-node.ensures.nodes
    (ends_joined B _ _ c.index_mut.result.now _ (link_of node 0) (link_of node 1) (link_of node 1) (link_of node 0) bucket inside c.index_mut.ensures.value (closed c.index_mut.result.now _ c.link-before.result c.link-after.result (link_of node 0) (link_of node 1) c.link-before.ensures c.link-after.ensures c.join.ensures))
    (ends_joined D _ _ c.index_mut-2.result.now _ (link_of node 2) (link_of node 3) (link_of node 3) (link_of node 2) refl within c.index_mut-2.ensures.value (closed c.index_mut-2.result.now _ c.link-previous.result c.link-next.result (link_of node 2) (link_of node 3) c.link-previous.ensures c.link-next.ensures c.join-2.ensures))
    (ap (λ i. slice_set N i c.known_without.result) bucket
    ∙ ap (slice_set N (node.time % length B)) (c.known_without.ensures ∙ known_between c.index.result.now c.link-before.result c.link-after.result (link_of node 0) (link_of node 1) c.args.key c.link-before.ensures c.link-after.ensures ∙ ap (λ n. known_without n c.args.key (link_of node 0) (link_of node 1)) (read_near N _ (node.time % length B) c.index.result.now bucket known c.index.ensures)))

pub note_first-requires-clause-buckets : goal.note_first-requires-clause-buckets
note_first-requires-clause-buckets g c =
    let B = c.args.self.now.buckets.items in
    let D = c.args.self.now.drivers.items in
    let node = c.take_out-node.result in
    let within = (c.requires.chained.by_driver.indexed.family.complete c.args.key node c.take_out-node.ensures.node).0 in
    let some = c.requires.chained.some in
    let N = c.args.self.now.near.items in
    let as_many = c.requires.chained.as_many in
    let inside : node.time % length B < length B = omega arith in
    let known : node.time % length B < length N = omega arith in
    let bucket : c.bucket_of-bucket.result ≡ node.time % length B = c.bucket_of-bucket.ensures ∙ ap (λ xs. node.time % length xs) c.deref.ensures.value in
    subst (AreBuckets (node_at c.take_out-node.new.nodes)) (sym c.deref-2.ensures.value)
    (has_taken c.args.self.now.nodes c.take_out-node.new.nodes B D _ _ c.args.self.now.near.items _ c.args.key node c.requires.chained c.take_out-node.ensures.node c.take_out-node.ensures.nodes
    (ends_joined B _ _ c.index_mut.result.now _ (link_of node 0) (link_of node 1) (link_of node 1) (link_of node 0) bucket inside c.index_mut.ensures.value (closed c.index_mut.result.now _ c.link-before.result c.link-after.result (link_of node 0) (link_of node 1) c.link-before.ensures c.link-after.ensures c.join.ensures))
    (ends_joined D _ _ c.index_mut-2.result.now _ (link_of node 2) (link_of node 3) (link_of node 3) (link_of node 2) refl within c.index_mut-2.ensures.value (closed c.index_mut-2.result.now _ c.link-previous.result c.link-next.result (link_of node 2) (link_of node 3) c.link-previous.ensures c.link-next.ensures c.join-2.ensures))
    (ap (λ i. slice_set N i c.known_without.result) bucket
    ∙ ap (slice_set N (node.time % length B)) (c.known_without.ensures ∙ known_between c.index.result.now c.link-before.result c.link-after.result (link_of node 0) (link_of node 1) c.args.key c.link-before.ensures c.link-after.ensures ∙ ap (λ n. known_without n c.args.key (link_of node 0) (link_of node 1)) (read_near N _ (node.time % length B) c.index.result.now bucket known c.index.ensures)))).chained.by_time

pub note_first-requires-clause-others : goal.note_first-requires-clause-others
note_first-requires-clause-others g c =
    let B = c.args.self.now.buckets.items in
    let node = c.take_out-node.result in
    let some = c.requires.chained.some in
    let inside : node.time % length B < length B = omega arith in
    let bucket : c.bucket_of-bucket.result ≡ node.time % length B = c.bucket_of-bucket.ensures ∙ ap (λ xs. node.time % length xs) c.deref.ensures.value in
    others_from (node_at c.take_out-node.new.nodes) _ _ _ c.link-before.result (link_of node 0) c.link-before.ensures
    (others_at (node_at c.take_out-node.new.nodes) _ _ c.args.self.now.firsts.items _ (node.time % length B) _ (link_of node 0) c.deref-2.ensures.value c.deref_mut.ensures.value bucket
    (others_taken (node_at c.args.self.now.nodes) (node_at c.take_out-node.new.nodes) B _ c.args.self.now.firsts.items c.args.key node (link_of node 1) (link_of node 1) (link_of node 0) c.requires.chained.by_time c.requires.firsts inside c.take_out-node.ensures.node c.take_out-node.ensures.nodes
    (ends_joined B _ _ c.index_mut.result.now _ (link_of node 0) (link_of node 1) (link_of node 1) (link_of node 0) bucket inside c.index_mut.ensures.value (closed c.index_mut.result.now _ c.link-before.result c.link-after.result (link_of node 0) (link_of node 1) c.link-before.ensures c.link-after.ensures c.join.ensures))))
