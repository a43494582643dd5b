use Rattle.std.proofs.Common.{◌≡◌, ◌++◌, ◌<◌, length, reverse}
use Rattle.std.specs.Prelude.{All}
use Rattle.sg_circuit.specs.Seen.{circuit_seen}
use Rattle.written_model.specs.Names.{names_to}
use Rattle.written_model.specs.Text.{instance_text}
use Rattle.written_text.specs.Instances.{marked_names}
use Rattle.written_text.proofs.instances.push_instance.Given as goal

-- the names that are left complete the text
abbrev pub invariant-loop-next : goal.invariant-loop-next
invariant-loop-next l = record {
  text : l.text.items ++ marked_names (circuit_seen l.parts) l.mark (reverse l.left.items) ≡ l.fn.text.items ++ instance_text (names_to (circuit_seen l.parts) l.scope);
  left : All (λ s. s < length l.parts.scopes.items) l.left.items;
}

abbrev pub decreases-loop-next : goal.decreases-loop-next
decreases-loop-next l = length l.left.items
