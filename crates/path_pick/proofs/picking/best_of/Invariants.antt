use Rattle.std.proofs.Common.{List, IfSome}
use Rattle.cond_expr.specs.Condition.{Condition}
use Rattle.path_pick.specs.Pass.{IsReady}
use Rattle.path_pick.proofs.PassLaws.{IsBestUpTo}
use Rattle.path_pick.proofs.picking.best_of.Given as goal

abbrev pub invariant-loop-path : goal.invariant-loop-path
invariant-loop-path g l = record {
  best : (conditions : List Condition) → IsBestUpTo conditions l.timings l.paths (g.N.Nets.values l.nets) (g.S.Stamps.stamps l.stamps) l.place l.path-index l.best;
  ready : IfSome l.best IsReady;
}
