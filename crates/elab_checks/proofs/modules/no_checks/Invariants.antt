-- So many are nothing.
use Rattle.std.proofs.Common.{◌≡◌, None, replicate}
use Rattle.elab_checks.proofs.modules.no_checks.Given as goal

abbrev pub invariant-loop : goal.invariant-loop
invariant-loop l = l.checks.items ≡ replicate l.counter None
