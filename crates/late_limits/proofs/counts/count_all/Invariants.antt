use Rattle.std.proofs.Common.{◌≡◌, length, map}
use Rattle.std.specs.List.{range_with_len}
use Rattle.sg_circuit.specs.FanOut.{readers_at}
use Rattle.late_limits.specs.Found.{signals_at}
use Rattle.late_limits.proofs.counts.count_all.Given as goal

abbrev pub invariant-loop-scope : goal.invariant-loop-scope
invariant-loop-scope l = l.counts.items ≡ map (λ scope. length (signals_at l.timings (readers_at l.windows scope))) (range_with_len 0 l.scope)
