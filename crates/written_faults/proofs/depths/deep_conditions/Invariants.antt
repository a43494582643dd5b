-- What is known of the conditions so far.
use Rattle.std.proofs.Common.{◌≡◌, map, take}
use Rattle.cond_expr.specs.Condition.{Condition}
use Rattle.annotation_model.specs.Same.{bare}
use Rattle.written_faults.specs.Depths.{is_deep}
use Rattle.written_faults.proofs.depths.deep_conditions.Given as goal

abbrev pub invariant-loop-condition : goal.invariant-loop-condition
invariant-loop-condition l = l.deep.items ≡ map (λ (c : Condition). is_deep (bare c.tokens)) (take l.condition-index l.conditions)
