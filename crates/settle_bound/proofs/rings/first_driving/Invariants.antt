use Rattle.std.proofs.Common.{◌≢◌, ℕ, ◌<◌, slice_index_or}
use Rattle.settle_bound.specs.Links.{link_at}
use Rattle.settle_bound.proofs.rings.first_driving.Given as goal

-- none so far drives it
abbrev pub invariant-loop-place : goal.invariant-loop-place
invariant-loop-place l = (i : ℕ) → i < l.place → (link_at l.links (slice_index_or l.hops i 0)).driven ≢ l.net
