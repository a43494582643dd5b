-- So many are nothing.
use Rattle.std.proofs.Common.{◌≡◌, None, replicate}
use Rattle.sdf_annotate.proofs.values.no_timings.Given as goal

abbrev pub invariant-loop : goal.invariant-loop
invariant-loop l = l.timings.items ≡ replicate l.counter None
