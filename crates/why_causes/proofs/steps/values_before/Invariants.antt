-- The values of the nets so far.
use Rattle.std.proofs.Common.{◌≡◌, map, take}
use Rattle.why_causes.specs.Waveform.{value_before}
use Rattle.why_causes.proofs.steps.values_before.Given as goal

abbrev pub invariant-loop-net : goal.invariant-loop-net
invariant-loop-net l = l.values.items ≡ map (λ n. value_before l.trace n l.time) (take l.net-index l.nets)
