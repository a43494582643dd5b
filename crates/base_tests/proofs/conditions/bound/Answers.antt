-- The nets that are found are 0 and 1.
use Rattle.std.proofs.Common.{◌≡◌, ◌==◌, ◌<◌, ℕ, Bool, true, false, length, is_none, Some, None, if◌then◌else◌, arith}
use Rattle.std.proofs.lemmas.Result.{IfOk-weaker}
use Rattle.cond_expr.specs.Values.{AreBelow}
use Rattle.cond_expr.specs.Binding.{Finding, IsBound}
use Rattle.cond_expr.proofs.BindingLaws.{bound_is_below}
use Rattle.base_tests.proofs.conditions.bound.Goals as goal

abbrev found : Finding
found name index = if length name == 1 then Some (if is_none index then 0 else 1) else None

chosen_below : (short plain : Bool) (net : ℕ) → (if short then Some (if plain then 0 else 1) else None) ≡ Some net → net < 2
chosen_below true true net h = grind arith
chosen_below true false net h = grind arith
chosen_below false plain net h = absurd (cc)

pub returns-in-Ok-read : goal.returns-in-Ok-read
returns-in-Ok-read c =
    IfOk-weaker c.bind.result (IsBound found c.in-Ok-read.condition.tokens c.in-Ok-read.condition.tree) (AreBelow 2)
    (λ b h. bound_is_below found c.in-Ok-read.condition.tokens 2 c.in-Ok-read.condition.tree b (λ name index. chosen_below (length name == 1) (is_none index)) h)
    c.bind.ensures.ok
