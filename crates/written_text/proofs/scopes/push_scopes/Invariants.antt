use Rattle.std.proofs.Common.{◌≡◌, ◌++◌, ◌-◌, ◌≤◌, length}
use Rattle.std.specs.Prelude.{All, flat_map}
use Rattle.std.specs.List.{range_with_len}
use Rattle.sg_circuit.specs.Seen.{circuit_seen}
use Rattle.written_model.specs.Text.{cell_text}
use Rattle.written_text.proofs.scopes.push_scopes.Given as goal

-- the scopes that are left complete the text
abbrev pub invariant-loop-scope : goal.invariant-loop-scope
invariant-loop-scope l = record {
  text :
      l.text.items ++ flat_map (cell_text (circuit_seen l.parts)) (range_with_len l.scope (length l.parts.scopes.items - l.scope))
      ≡ l.fn.text.items ++ flat_map (cell_text (circuit_seen l.parts)) (range_with_len 0 (length l.parts.scopes.items));
  marks : All (λ p. p.mark ≤ l.scope) l.places;
  nets : length l.places ≡ length l.parts.nets.items;
}
