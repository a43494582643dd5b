-- The candidates so far were seen.
use Rattle.std.proofs.Common.{List, ℕ, ◌++◌, take}
use Rattle.annotation_index.specs.Picking.{ArePicked}
use Rattle.annotation_index.proofs.picking.pick.Given as goal

abbrev pub invariant-loop-place : goal.invariant-loop-place
invariant-loop-place g l = (seen : List ℕ) → ArePicked (g.T.Test.test l.test) seen l.fn.marks l.fn.found.items → ArePicked (g.T.Test.test l.test) (seen ++ take l.place-index l.candidates) l.marks l.found.items
