use Rattle.std.proofs.Common.{◌≡◌, ◌++◌, ◌<◌, length}
use Rattle.std.specs.Prelude.{All}
use Rattle.sg_circuit.specs.Seen.{circuit_seen}
use Rattle.written_text.specs.Instances.{chain}
use Rattle.written_text.proofs.instances.chain_of.Given as goal

-- the scopes that are left to climb complete the list
abbrev pub invariant-loop-parent : goal.invariant-loop-parent
invariant-loop-parent l = record {
  chain : l.scopes.items ++ chain (circuit_seen l.parts) l.next ≡ chain (circuit_seen l.parts) l.fn.scope;
  next : l.next < length l.parts.scopes.items;
  within : All (λ s. s < length l.parts.scopes.items) l.scopes.items;
}

abbrev pub decreases-loop-parent : goal.decreases-loop-parent
decreases-loop-parent l = l.next
