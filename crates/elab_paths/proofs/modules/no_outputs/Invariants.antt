-- So many are nothing.
use Rattle.std.proofs.Common.{◌≡◌, None, replicate}
use Rattle.elab_paths.proofs.modules.no_outputs.Given as goal

abbrev pub invariant-loop : goal.invariant-loop
invariant-loop l = l.outputs.items ≡ replicate l.counter None
