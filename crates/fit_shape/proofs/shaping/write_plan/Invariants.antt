-- The texts stay.
use Rattle.std.specs.Prelude.{◌≡◌, map}
use Rattle.fit_shape.proofs.shaping.write_plan.Given as goal

abbrev pub invariant-loop-number : goal.invariant-loop-number
invariant-loop-number l = map (λ f. f.text) l.list ≡ map (λ f. f.text) l.initial.list
