-- The variables of a scope are those of its instance.
use Rattle.std.specs.Prelude.{◌≡◌, ℕ, List, [], ◌∷◌, Bool, Option, map, refl}
use Rattle.std.proofs.Common.{◌∙◌, ap}
use Rattle.sg_circuit.specs.Circuit.{Variable as ScopeVariable}
use Rattle.sg_circuit.specs.declared.scopes.Port.{Port}
use Rattle.sg_circuit.specs.declared.scopes.Range.{Range}
use Rattle.vl_tree.specs.Tree.{Source}
use Rattle.elab_model.specs.Bits.{positions}
use Rattle.elab_model.specs.Hierarchy.{Instance}
use Rattle.elab_model.specs.Homes.{home_of}
use Rattle.elab_model.specs.Names.{Variable}
use Rattle.elab_model.specs.Nets.{OwnNet, number_of}
use Rattle.elab_model.specs.Scopes.{scope_variable}
use Rattle.elab_laws.specs.Handing.{variable_bits, number_at}

pub bits-numbered : (all : List OwnNet) (source : Source) (s : Instance) (v : Variable)
    → map (number_at all source s) (variable_bits v) ≡ map (λ p. number_of all (home_of source s v.name p)) (positions v.range)
bits-numbered all source s v = each (positions v.range)
  where
    each : (ps : List ℕ) → map (number_at all source s) (map (λ p. (v, p)) ps) ≡ map (λ p. number_of all (home_of source s v.name p)) ps
    each [] = refl
    each (p ∷ ps) = ap (λ ns. number_of all (home_of source s v.name p) ∷ ns) (each ps)

pub variable-shown : (all : List OwnNet) (source : Source) (s : Instance) (v : Variable) (name : List ℕ) (range : Option Range) (is_reg : Bool) (port : Port) (bits : List ℕ)
    → name ≡ v.name → range ≡ v.range → is_reg ≡ v.is_reg → port ≡ v.port → bits ≡ map (number_at all source s) (variable_bits v)
    → ◌≡◌ {A = ScopeVariable} (record { name = name; range = range; is_reg = is_reg; port = port; bits = bits }) (scope_variable all source s v)
variable-shown all source s v name range is_reg port bits n r g p b =
    let c : bits ≡ map (λ q. number_of all (home_of source s v.name q)) (positions v.range) = b ∙ bits-numbered all source s v in
    rw (n, r, g, p, c) refl
