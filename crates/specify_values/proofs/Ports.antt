-- A name's port, as the table of variables has it.
use Rattle.std.specs.Prelude.{◌≡◌, ℕ, List, Some, None, false}
use Rattle.std.proofs.Common.{sym, ◌∙◌, ap}
use Rattle.sg_circuit.specs.declared.scopes.Port.{Port}
use Rattle.elab_bits.proofs.NamedAt.{named-at, not-named}
use Rattle.elab_model.specs.Names.{Variable}
use Rattle.elab_variables.specs.Seen.{variable_at, place_named}
use Rattle.specify_model.specs.PulseLimits.{is_outside, found_port, is_port}

pub port-found : (vs : List Variable) (n : List ℕ) (i : ℕ) (p : Port) → Some i ≡ place_named vs n → p ≡ (variable_at vs i).port → is_outside p ≡ is_port vs n
port-found vs n i p e is = ap is_outside is ∙ sym (ap found_port (named-at vs n i e).found)

pub no-port : (vs : List Variable) (n : List ℕ) → None ≡ place_named vs n → false ≡ is_port vs n
no-port vs n e = sym (ap found_port (not-named vs n e))
