-- What the code's indexes of a circuit give, and that they are right.
use Rattle.std.specs.Prelude.{◌≡◌, ℕ, ◌<◌, ◌+◌, ◌-◌, ◌^◌, bytes_eq, Bool, All, List, [], length, None, slice_index_or}
use Rattle.std.specs.List.{filter, range_with_len}
use Rattle.sg_circuit.specs.Circuit.{Circuit, Variable, net_at, scope_at}
use Rattle.sg_circuit.specs.Closed.{IsClosed}
use Rattle.sg_circuit.specs.Seen.{circuit_seen, AreIndexed}
use Rattle.sg_circuit.specs.declared.nets.Driver.{Driver}
use Rattle.sg_circuit.specs.declared.nets.Driver.TheVariants as driver
use Rattle.sg_circuit.specs.declared.scopes.Port.{Port}
use Rattle.sg_circuit.specs.declared.scopes.Port.TheVariants.{Inner}
use Rattle.annotation_model.specs.Ports.{is_input, is_output, is_any}
use Rattle.annotation_index.specs.Candidates.{Lookups, AreOf}
use Rattle.annotation_index.specs.Index.{list_at, AreNamed}
use Rattle.annotation_spots.specs.Rows.{AreRows, AreFirsts}
use Rattle.annotation_places.specs.declared.nets.Role.{Role}
use Rattle.annotation_places.specs.declared.nets.Role.TheVariants as role
use Rattle.annotation_places.specs.declared.places.Places as code_places

abbrev pub role_seen : Role → Port → Bool
role_seen role.Input = is_input
role_seen role.Output = is_output
role_seen role.Any = is_any

-- the numbers of what leads to the output of the element that drives a net
abbrev pub led_by : List ℕ → Driver → List ℕ
led_by firsts (driver.Element e) = range_with_len (slice_index_or firsts e 0) (slice_index_or firsts (e + 1) 0 - slice_index_or firsts e 0)
led_by firsts _ = []

abbrev pub lookups_of : code_places.Places → Lookups
lookups_of p = record {
  inside = λ s name. list_at p.inside s name;
  of_module = λ name. list_at p.modules 0 name;
  leading = λ net. led_by p.firsts.items (net_at (circuit_seen p.parts.now) net).driver;
  standing = λ s. list_at p.standing s [];
  referring = λ net. list_at p.referring net [];
}

abbrev pub no_variable : Variable
no_variable = record { name = []; range = None; is_reg = Bool.false; port = Inner; bits = [] }

-- the places of the variables of a name among those of a scope
abbrev pub variables_of : Circuit → ℕ → List ℕ → List ℕ
variables_of c s name =
    filter (λ place. bytes_eq (slice_index_or (scope_at c s).variables place no_variable).name name) (range_with_len 0 (length (scope_at c s).variables))

-- what is so of them
pub record ArePlaces (p : code_places.Places) : Type 0 where
  pub closed : IsClosed (circuit_seen p.parts.now)
  pub indexed : AreIndexed p.parts.now
  pub rows : AreRows (circuit_seen p.parts.now) p.spots.items
  pub few : length p.spots.items < 2 ^ 32
  pub firsts : AreFirsts (circuit_seen p.parts.now) p.firsts.items
  pub named : AreNamed p.inside × (AreNamed p.modules × (AreNamed p.standing × (AreNamed p.referring × AreNamed p.variables)))
  pub exact : AreOf (circuit_seen p.parts.now) (lookups_of p)
  pub scopes_inside : (s : ℕ) (name : List ℕ) → All (λ t. t < length p.parts.now.scopes.items) (list_at p.inside s name)
  pub scopes_of : (name : List ℕ) → All (λ t. t < length p.parts.now.scopes.items) (list_at p.modules 0 name)
  pub spots_of : (s : ℕ) → All (λ k. k < length p.spots.items) (list_at p.standing s [])
  pub checks_of : (net : ℕ) → All (λ k. k < length p.parts.now.checks.items) (list_at p.referring net [])
  pub variables : (s : ℕ) (name : List ℕ) → s < length p.parts.now.scopes.items → list_at p.variables s name ≡ variables_of (circuit_seen p.parts.now) s name
