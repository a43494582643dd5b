-- The limits so far are those of their delays, and none was too large.
use Rattle.std.proofs.Common.{◌≡◌, false, take}
use Rattle.std.specs.List.{list_any}
use Rattle.sg_circuit.specs.TimingsSeen.{timings_of}
use Rattle.sg_time.specs.Seen.{number}
use Rattle.annotation_values.proofs.PercentLaws.{first, is_large_of}
use Rattle.annotation_values.proofs.pulses.set_percents.Given as goal

abbrev pub invariant-loop-i : goal.invariant-loop-i
invariant-loop-i l = record {
  changed : timings_of l.delays l.limits ≡ first (number l.reject, number l.error) l.i l.delays l.fn.limits;
  small : list_any (is_large_of (number l.reject, number l.error)) (take l.i l.delays) ≡ false;
}
