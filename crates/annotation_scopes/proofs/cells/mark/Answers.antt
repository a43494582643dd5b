-- One scope more, or all.
use Rattle.std.proofs.Common.{rules, ◌<◌, slice_index_or, subst, sym}
use Rattle.annotation_scopes.proofs.CellLaws.{one_marked, all_marked}
use Rattle.annotation_scopes.proofs.cells.mark.Goals as goal

pub loop-scope-preserved : goal.loop-scope-preserved
loop-scope-preserved c = (
  search (rules, c.loop-scope.invariant.0),
  one_marked c.args.marks.now c.args.scopes.now c.args.mark c.loop-scope.scope-index 0 c.loop-scope.marks c.loop-scope-test.true (subst (λ n. slice_index_or c.args.scopes.now c.loop-scope.scope-index 0 < n) (sym c.loop-scope.invariant.0) (c.requires c.loop-scope.scope-index 0 c.loop-scope-test.true))
      c.loop-scope.invariant.1,
)

pub returns-clause-each : goal.returns-clause-each
returns-clause-each c = all_marked c.args.marks.now c.args.scopes.now c.args.mark c.loop-scope.scope-index c.loop-scope.marks c.loop-scope-test.false c.loop-scope.invariant.1
