use Rattle.std.proofs.Common.{◌≡◌, ◌≤◌, All, map, take}
use Rattle.sg_circuit.specs.Pins.{pins_from}
use Rattle.time_checks.specs.AdjustedSeen.{adjusted_seen}
use Rattle.time_checks.specs.Within.{terminals}
use Rattle.time_checks.proofs.touching.add_all_terminals.Given as goal

abbrev pub invariant-loop-number : goal.invariant-loop-number
invariant-loop-number l = record {
  pins : l.pins.items ≡ pins_from 0 (map (λ c. terminals (adjusted_seen c)) (take l.number l.checks));
  fresh : All (λ s. s ≤ l.number) l.seen;
}
