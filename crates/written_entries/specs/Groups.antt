-- Words of contracts: what each scope has.
use Rattle.std.specs.Prelude.{◌≡◌, ℕ, ◌<◌, Bool, true, false, All, List, length, slice_index_or}
use Rattle.sg_circuit.specs.declared.checks.Check.{Check}
use Rattle.sg_circuit.specs.declared.circuits.Parts.{Parts}
use Rattle.sg_circuit.specs.declared.elements.Element as code_element
use Rattle.sg_circuit.specs.declared.elements.ElementKind.{ElementKind}
use Rattle.sg_circuit.specs.declared.elements.ElementKind.TheVariants.{Leg, Path}
use Rattle.sg_circuit.specs.Pins.{HasPins}
use Rattle.late_limits.specs.Grouping.{element_scope, pins_by}
use Rattle.written_entries.specs.declared.groups.Groups.{Groups}

abbrev pub is_delayed_kind : ElementKind → Bool
is_delayed_kind (Leg timing) = true
is_delayed_kind (Path paths style) = true
is_delayed_kind _ = false

abbrev pub is_delayed : code_element.Element → Bool
is_delayed e = is_delayed_kind e.kind

abbrev pub check_scope : Check → ℕ
check_scope k = k.scope

abbrev pub any_check : Check → Bool
any_check k = true

-- these numbers are those of elements of a scope
pub record AreElementsOf (elements : List code_element.Element) (scope : ℕ) (numbers : List ℕ) : Type 0 where
  pub within : All (λ n. n < length elements) numbers
  pub scopes : All (λ n. (e : code_element.Element) → (slice_index_or elements n e).scope ≡ scope) numbers

-- these numbers are those of timing checks of a scope
pub record AreChecksOf (checks : List Check) (scope : ℕ) (numbers : List ℕ) : Type 0 where
  pub within : All (λ n. n < length checks) numbers
  pub scopes : All (λ n. (k : Check) → (slice_index_or checks n k).scope ≡ scope) numbers

-- the tables of all scopes
pub record AreGroups (parts : Parts) (g : Groups) : Type 0 where
  pub elements : HasPins (pins_by element_scope is_delayed 0 parts.elements.items) g.elements
  pub element_scopes : length g.elements ≡ length parts.scopes.items
  pub checks : HasPins (pins_by check_scope any_check 0 parts.checks.items) g.checks
  pub check_scopes : length g.checks ≡ length parts.scopes.items
