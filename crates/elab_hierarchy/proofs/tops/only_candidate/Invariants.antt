-- What was found so far.
use Rattle.std.proofs.Common.{map}
use Rattle.vl_tree.specs.Seen.{view_part}
use Rattle.elab_declared.specs.Words.{is_seen}
use Rattle.elab_hierarchy.proofs.Chosen.{FoundSoFar}
use Rattle.elab_hierarchy.proofs.tops.only_candidate.Given as goal

abbrev pub invariant-loop-place : goal.invariant-loop-place
invariant-loop-place l = FoundSoFar (λ n. is_seen n l.used.keys) (map view_part l.parts) l.found l.place
