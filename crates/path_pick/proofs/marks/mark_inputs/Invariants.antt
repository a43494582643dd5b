use Rattle.std.proofs.Common.{take}
use Rattle.path_pick.specs.Marks.{AreMarked}
use Rattle.path_pick.proofs.marks.mark_inputs.Given as goal

abbrev pub invariant-loop-path : goal.invariant-loop-path
invariant-loop-path g l = AreMarked (take l.path-index l.paths) (g.N.Nets.values l.nets) l.flags
