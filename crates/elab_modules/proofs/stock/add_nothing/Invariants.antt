-- So many are nothing.
use Rattle.std.proofs.Common.{◌≡◌, None, replicate}
use Rattle.elab_modules.proofs.stock.add_nothing.Given as goal

abbrev pub invariant-loop : goal.invariant-loop
invariant-loop l = l.parts.items ≡ replicate l.counter None
