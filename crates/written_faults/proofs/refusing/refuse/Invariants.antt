-- The scopes so far have no faults.
use Rattle.std.proofs.Common.{ℕ, ◌<◌, ◌≤◌, length}
use Rattle.sg_circuit.specs.Seen.{circuit_seen}
use Rattle.written_faults.specs.Refusing.{IsFaultlessScope}
use Rattle.written_faults.proofs.refusing.refuse.Given as goal

abbrev pub invariant-loop-scope : goal.invariant-loop-scope
invariant-loop-scope l = record {
  reached : l.scope ≤ length l.parts.scopes.items;
  faultless : (s : ℕ) → s < l.scope → IsFaultlessScope (circuit_seen l.parts) s;
}
