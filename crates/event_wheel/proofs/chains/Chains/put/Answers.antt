-- The node comes into both chains.
use Rattle.std.proofs.Common.{◌≡◌, ◌<◌, ◌%◌, [], ◌∷◌, length, None, Some, refl, sym, ◌∙◌, ap, subst, arith}
use Rattle.std.specs.Prelude.{slice_index_or, slice_set}
use Rattle.event_wheel.specs.declared.chains.Ends.{Ends}
use Rattle.event_wheel.specs.Slots.{node_at}
use Rattle.event_wheel.specs.Links.{AreNeighbours}
use Rattle.event_wheel.specs.Places.{IsBucketChain}
use Rattle.event_wheel.specs.Kept.{AreBuckets}
use Rattle.event_wheel.proofs.WheelLaws.{has_put, put_neighbours, bucket_chain}
use Rattle.event_wheel.proofs.WriteLaws.{joined, ends_joined, read_ends, read_at, read_near}
use Rattle.event_wheel.proofs.LeastLaws.{others_put, others_at}
use Rattle.event_wheel.proofs.chains.Chains.put.Goals as goal

pub place_of-before-requires : goal.place_of-before-requires
place_of-before-requires g c =
    let B = c.args.self.now.buckets.items in
    let N = c.args.self.now.near.items in
    let some = c.requires.chained.some in
    let as_many = c.requires.chained.as_many in
    let inside : c.args.time % length B < length B = omega arith in
    let known : c.args.time % length B < length N = omega arith in
    let bucket : c.bucket_of-bucket.result ≡ c.args.time % length B = c.bucket_of-bucket.ensures ∙ ap (λ xs. c.args.time % length xs) c.deref.ensures.value in
    let at = read_at B _ (c.args.time % length B) c.index-2.result.now bucket inside c.index-2.ensures in
    let near = read_near N _ (c.args.time % length B) c.index.result.now bucket known c.index.ensures in (
      c.requires.chained.by_time.chains (c.args.time % length B),
      subst (λ l. IsBucketChain (node_at c.args.self.now.nodes) (c.requires.chained.by_time.chains (c.args.time % length B)) c.index.result.now l) (ap (λ (x : Ends). x.first) (sym at))
          (bucket_chain (node_at c.args.self.now.nodes) B (c.args.time % length B) c.index.result.now c.requires.chained.by_time inside (λ k e. c.requires.chained.near_in (c.args.time % length B) k inside (sym near ∙ e))),
    )

pub put_in-key-requires-clause-neighbours : goal.put_in-key-requires-clause-neighbours
put_in-key-requires-clause-neighbours g c =
    let B = c.args.self.now.buckets.items in
    let D = c.args.self.now.drivers.items in
    let N = c.args.self.now.near.items in
    let some = c.requires.chained.some in
    let as_many = c.requires.chained.as_many in
    let inside : c.args.time % length B < length B = omega arith in
    let known : c.args.time % length B < length N = omega arith in
    let bucket : c.bucket_of-bucket.result ≡ c.args.time % length B = c.bucket_of-bucket.ensures ∙ ap (λ xs. c.args.time % length xs) c.deref.ensures.value in
    let at = read_at B _ (c.args.time % length B) c.index-2.result.now bucket inside c.index-2.ensures in
    let near = read_near N _ (c.args.time % length B) c.index.result.now bucket known c.index.ensures in
    subst (λ n. AreNeighbours (node_at c.args.self.now.nodes) (c.place_of-before.result.0 ∷ c.place_of-before.result.1 ∷ c.index-3.result.now.last ∷ n ∷ [])) (sym c.none-none.ensures)
    (put_neighbours c.args.self.now.nodes B D N c.args.driver c.args.time c.place_of-before.result.0 c.place_of-before.result.1 c.index-3.result.now.last c.requires.chained c.requires.driver
    (λ keys h. c.place_of-before.ensures keys
    (subst (λ n. IsBucketChain (node_at c.args.self.now.nodes) keys n c.index-2.result.now.first) (sym near) (subst (IsBucketChain (node_at c.args.self.now.nodes) keys (slice_index_or N (c.args.time % length B) None)) (ap (λ (x : Ends). x.first) (sym at)) h)))
    (ap (λ (x : Ends). x.last) (read_ends D c.args.driver c.index-3.result.now c.requires.driver c.index-3.ensures)))

pub returns-clause-put : goal.returns-clause-put
returns-clause-put g c =
    let B = c.args.self.now.buckets.items in
    let D = c.args.self.now.drivers.items in
    let N = c.args.self.now.near.items in
    let some = c.requires.chained.some in
    let as_many = c.requires.chained.as_many in
    let inside : c.args.time % length B < length B = omega arith in
    let known : c.args.time % length B < length N = omega arith in
    let bucket : c.bucket_of-bucket.result ≡ c.args.time % length B = c.bucket_of-bucket.ensures ∙ ap (λ xs. c.args.time % length xs) c.deref.ensures.value in
    let at = read_at B _ (c.args.time % length B) c.index-2.result.now bucket inside c.index-2.ensures in
    let near = read_near N _ (c.args.time % length B) c.index.result.now bucket known c.index.ensures in
    has_put c.args.self.now.nodes c.put_in-key.new.nodes B D _ _ N _ c.put_in-key.result
    (record { driver = c.args.driver; time = c.args.time; value = c.args.value; links = c.place_of-before.result.0 ∷ c.place_of-before.result.1 ∷ c.index-3.result.now.last ∷ c.none-none.result ∷ [] })
    c.requires.chained c.requires.driver (omega arith) c.requires.later
    (λ keys h. c.place_of-before.ensures keys
    (subst (λ n. IsBucketChain (node_at c.args.self.now.nodes) keys n c.index-2.result.now.first) (sym near) (subst (IsBucketChain (node_at c.args.self.now.nodes) keys (slice_index_or N (c.args.time % length B) None)) (ap (λ (x : Ends). x.first) (sym at)) h)))
    (ap (λ (x : Ends). x.last) (read_ends D c.args.driver c.index-3.result.now c.requires.driver c.index-3.ensures)) c.none-none.ensures
    c.put_in-key.ensures.vacant c.put_in-key.ensures.nodes
    (ends_joined B _ _ c.index_mut.result.now _ c.place_of-before.result.0 c.place_of-before.result.1 (Some c.put_in-key.result) (Some c.put_in-key.result) bucket inside c.index_mut.ensures.value (joined c.index_mut.result.now _ c.place_of-before.result.0 c.place_of-before.result.1 c.to-link.result (Some c.put_in-key.result) c.to-link.ensures c.join.ensures))
    (ends_joined D _ _ c.index_mut-2.result.now _ c.index-3.result.now.last c.none-none.result (Some c.put_in-key.result) (Some c.put_in-key.result) refl c.requires.driver c.index_mut-2.ensures.value (joined c.index_mut-2.result.now _ c.index-3.result.now.last c.none-none.result c.to-link.result (Some c.put_in-key.result) c.to-link.ensures c.join-2.ensures))
    (ap (λ i. slice_set N i c.to-link.result) bucket ∙ ap (slice_set N (c.args.time % length B)) c.to-link.ensures)

pub note_first-requires-clause-buckets : goal.note_first-requires-clause-buckets
note_first-requires-clause-buckets g c =
    let B = c.args.self.now.buckets.items in
    let D = c.args.self.now.drivers.items in
    let N = c.args.self.now.near.items in
    let some = c.requires.chained.some in
    let as_many = c.requires.chained.as_many in
    let inside : c.args.time % length B < length B = omega arith in
    let known : c.args.time % length B < length N = omega arith in
    let bucket : c.bucket_of-bucket.result ≡ c.args.time % length B = c.bucket_of-bucket.ensures ∙ ap (λ xs. c.args.time % length xs) c.deref.ensures.value in
    let at = read_at B _ (c.args.time % length B) c.index-2.result.now bucket inside c.index-2.ensures in
    let near = read_near N _ (c.args.time % length B) c.index.result.now bucket known c.index.ensures in
    subst (AreBuckets (node_at c.put_in-key.new.nodes)) (sym c.deref-2.ensures.value)
    (has_put c.args.self.now.nodes c.put_in-key.new.nodes B D _ _ N _ c.put_in-key.result
    (record { driver = c.args.driver; time = c.args.time; value = c.args.value; links = c.place_of-before.result.0 ∷ c.place_of-before.result.1 ∷ c.index-3.result.now.last ∷ c.none-none.result ∷ [] })
    c.requires.chained c.requires.driver (omega arith) c.requires.later
    (λ keys h. c.place_of-before.ensures keys
    (subst (λ n. IsBucketChain (node_at c.args.self.now.nodes) keys n c.index-2.result.now.first) (sym near) (subst (IsBucketChain (node_at c.args.self.now.nodes) keys (slice_index_or N (c.args.time % length B) None)) (ap (λ (x : Ends). x.first) (sym at)) h)))
    (ap (λ (x : Ends). x.last) (read_ends D c.args.driver c.index-3.result.now c.requires.driver c.index-3.ensures)) c.none-none.ensures
    c.put_in-key.ensures.vacant c.put_in-key.ensures.nodes
    (ends_joined B _ _ c.index_mut.result.now _ c.place_of-before.result.0 c.place_of-before.result.1 (Some c.put_in-key.result) (Some c.put_in-key.result) bucket inside c.index_mut.ensures.value (joined c.index_mut.result.now _ c.place_of-before.result.0 c.place_of-before.result.1 c.to-link.result (Some c.put_in-key.result) c.to-link.ensures c.join.ensures))
    (ends_joined D _ _ c.index_mut-2.result.now _ c.index-3.result.now.last c.none-none.result (Some c.put_in-key.result) (Some c.put_in-key.result) refl c.requires.driver c.index_mut-2.ensures.value (joined c.index_mut-2.result.now _ c.index-3.result.now.last c.none-none.result c.to-link.result (Some c.put_in-key.result) c.to-link.ensures c.join-2.ensures))
    (ap (λ i. slice_set N i c.to-link.result) bucket ∙ ap (slice_set N (c.args.time % length B)) c.to-link.ensures)).chained.by_time

pub note_first-requires-clause-others : goal.note_first-requires-clause-others
note_first-requires-clause-others g c =
    let B = c.args.self.now.buckets.items in
    let D = c.args.self.now.drivers.items in
    let some = c.requires.chained.some in
    let inside : c.args.time % length B < length B = omega arith in
    let bucket : c.bucket_of-bucket.result ≡ c.args.time % length B = c.bucket_of-bucket.ensures ∙ ap (λ xs. c.args.time % length xs) c.deref.ensures.value in
    others_at (node_at c.put_in-key.new.nodes) _ _ c.args.self.now.firsts.items _ (c.args.time % length B) _ c.place_of-before.result.0 c.deref-2.ensures.value c.deref_mut.ensures.value bucket
    (others_put (node_at c.args.self.now.nodes) (node_at c.put_in-key.new.nodes) B _ c.args.self.now.firsts.items c.put_in-key.result (c.args.time % length B)
    (record { driver = c.args.driver; time = c.args.time; value = c.args.value; links = c.place_of-before.result.0 ∷ c.place_of-before.result.1 ∷ c.index-3.result.now.last ∷ c.none-none.result ∷ [] })
    c.place_of-before.result.0 c.place_of-before.result.1 (Some c.put_in-key.result) (Some c.put_in-key.result) c.requires.chained.by_time c.requires.firsts inside c.put_in-key.ensures.vacant c.put_in-key.ensures.nodes
    (ends_joined B _ _ c.index_mut.result.now _ c.place_of-before.result.0 c.place_of-before.result.1 (Some c.put_in-key.result) (Some c.put_in-key.result) bucket inside c.index_mut.ensures.value (joined c.index_mut.result.now _ c.place_of-before.result.0 c.place_of-before.result.1 c.to-link.result (Some c.put_in-key.result) c.to-link.ensures c.join.ensures)))
