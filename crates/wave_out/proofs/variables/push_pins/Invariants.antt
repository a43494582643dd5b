use Rattle.std.proofs.Common.{◌≡◌, ◌≤◌, All, take}
use Rattle.sg_circuit.specs.Pins.{pins_from}
use Rattle.wave_out.proofs.variables.push_pins.Given as goal

abbrev pub invariant-loop-k : goal.invariant-loop-k
invariant-loop-k l = record {
  pins : l.pins.items ≡ pins_from 0 (take l.k l.variables);
  fresh : All (λ s. s ≤ l.k) l.seen;
}
