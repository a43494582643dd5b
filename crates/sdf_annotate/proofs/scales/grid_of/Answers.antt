-- The precision of a scope isn't finer than the tick.
use Rattle.std.proofs.Common.{◌≤ℤ◌, subst, sym}
use Rattle.sg_circuit.specs.declared.scopes.Scope as code_scope
use Rattle.sdf_annotate.proofs.ScopeLaws.{precision-fine}
use Rattle.sdf_annotate.proofs.scales.grid_of.Goals as goal

pub invariant_of-result : goal.invariant_of-result
invariant_of-result c = record {
  fine = subst (λ (s : code_scope.Scope). c.args.task.now.places.now.parts.now.tick.power ≤ℤ s.scale.precision.power) (sym c.index.ensures)
      (precision-fine c.args.task.now.places.now.parts.now c.args.scope c.index.result.now c.requires.places.closed c.requires.scope);
}
