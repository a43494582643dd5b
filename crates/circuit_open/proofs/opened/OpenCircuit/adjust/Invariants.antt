use Rattle.std.proofs.Common.{◌≡◌, All, drop}
use Rattle.late_limits.specs.declared.adjusting.LateDelay.{LateDelay}
use Rattle.circuit_open.proofs.AdjustLaws.{with_delays, IsLateAt}
use Rattle.circuit_open.proofs.opened.OpenCircuit.adjust.Given as goal

-- the delays that are left complete the circuit
abbrev pub invariant-loop-late : goal.invariant-loop-late
invariant-loop-late l = record {
  rest : with_delays (drop l.late-index l.late-items) l.self.circuit ≡ with_delays l.late-items l.fn.self.circuit;
  lates : All (λ (d : LateDelay). IsLateAt l.self.circuit d.element) l.late-items;
  room : l.self.room ≡ l.fn.self.room;
}
