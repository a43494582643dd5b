-- The limits of the checks so far are set.
use Rattle.std.proofs.Common.{◌≡◌, All, length, take}
use Rattle.annotation_setting.specs.Limits.{with_all_limits}
use Rattle.annotation_setting.proofs.limits.set_limits.Given as goal

abbrev pub invariant-loop-check : goal.invariant-loop-check
invariant-loop-check l = record {
  circuit : l.opened.circuit ≡ with_all_limits (take l.check l.limits) l.fn.opened.circuit;
  two : All (λ t. length t.limits ≡ 2) (take l.check l.fn.opened.circuit.check_timings);
}
