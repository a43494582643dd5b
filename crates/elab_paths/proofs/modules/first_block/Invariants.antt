-- What is left has the same first block.
use Rattle.std.proofs.Common.{◌≡◌, length, map}
use Rattle.vl_tree.specs.Seen.{view_item}
use Rattle.elab_declared.specs.Words.{first_of}
use Rattle.elab_paths.proofs.BlocksBeside.{places_among}
use Rattle.elab_paths.proofs.modules.first_block.Given as goal

abbrev pub invariant-loop-rest : goal.invariant-loop-rest
invariant-loop-rest l = first_of (places_among (map view_item l.rest)) ≡ first_of (places_among (map view_item l.items))

abbrev pub decreases-loop-rest : goal.decreases-loop-rest
decreases-loop-rest l = length l.rest
