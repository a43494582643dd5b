-- Words of contracts: what is known of a circuit, and a scope without faults.
use Rattle.std.specs.Prelude.{◌≡◌, ℕ, false, length, map}
use Rattle.std.specs.List.{range_with_len}
use Rattle.sg_circuit.specs.declared.circuits.Parts.{Parts}
use Rattle.sg_circuit.specs.Circuit.{Circuit}
use Rattle.sg_circuit.specs.Signals.{signals}
use Rattle.written_model.specs.Faults.{IsAmbiguous, is_off_grid, is_too_deep, is_too_long}
use Rattle.written_faults.specs.declared.refusing.Known.{Known}
use Rattle.written_faults.specs.Classes.{AreClasses, AreDeep}

-- the classes of the conditions, which of these nest too deep, and how many signals each scope has
pub record IsKnown (parts : Parts) (known : Known) : Type 0 where
  pub classes : AreClasses parts.conditions.items known.classes.items
  pub deep : AreDeep parts.conditions.items known.deep.items
  pub counts : known.signals.items ≡ map (λ scope. length (signals parts.checks.items parts.check_timings.items scope)) (range_with_len 0 (length parts.scopes.items))

-- none stands in a scope
pub record IsFaultlessScope (c : Circuit) (s : ℕ) : Type 0 where
  pub unambiguous : IsAmbiguous c s → ⊥
  pub on_grid : is_off_grid c s ≡ false
  pub shallow : is_too_deep c s ≡ false
  pub short : is_too_long c s ≡ false
