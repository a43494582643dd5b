use Rattle.std.proofs.Common.{◌≡◌, ◌<◌, ◌≤◌, ℕ, length, drop}
use Rattle.std.specs.Prelude.{All, map}
use Rattle.std.specs.Option.{option_or}
use Rattle.sg_circuit.specs.Seen.{variable_seen}
use Rattle.written_text.specs.Places.{place_at, variables_place}
use Rattle.written_text.proofs.places.place_variables.Given as goal

-- the variables that are left complete the places
abbrev pub invariant-loop-variable : goal.invariant-loop-variable
invariant-loop-variable l = record {
  each : (net : ℕ) → net < length l.places → option_or (place_at l.places l.mark net) (variables_place l.variable (drop l.variable (map (λ v. variable_seen v) l.variables)) net) ≡ variables_place 0 (map (λ v. variable_seen v) l.variables) net;
  marks : All (λ p. p.mark ≤ l.mark) l.places;
}
