-- The inner nets of the bits so far.
use Rattle.std.proofs.Common.{◌≡◌, ℕ, nat_eq, take}
use Rattle.indexmap.specs.IndexMap.{get}
use Rattle.elab_elements.specs.Words.{ends_in, inner_of}
use Rattle.elab_elements.proofs.driven.inner_nets.Given as goal

abbrev pub invariant-loop-at : goal.invariant-loop-at
invariant-loop-at l = (net : ℕ) → get nat_eq l.nets net ≡ inner_of (take l.at (ends_in l.row l.bits l.ends)) net
