-- Lists by which a table of each scope's numbers is made.
use Rattle.std.specs.Prelude.{ℕ, ◌+◌, ◌&&◌, nat_lt, Bool, if◌then◌else◌, List, [], ◌∷◌, ◌++◌}
use Rattle.sg_circuit.specs.declared.building.Pin.{Pin}
use Rattle.sg_circuit.specs.declared.checks.Check.{Check}
use Rattle.sg_circuit.specs.declared.checks.CheckTiming.{CheckTiming}
use Rattle.sg_circuit.specs.declared.elements.Element as code_element
use Rattle.sg_circuit.specs.Signals.{takes_lates}
use Rattle.late_limits.specs.Found.{is_late_kind}

-- the numbers under their keys of the items that pass a test
abbrev pub pin_by : {A : Type 0} → (A → ℕ) → (A → Bool) → ℕ → A → List Pin
pin_by key test number x = if test x then record { net = key x; element = number } ∷ [] else []

abbrev pub pins_by : {A : Type 0} → (A → ℕ) → (A → Bool) → ℕ → List A → List Pin
pins_by key test number [] = []
pins_by key test number (x ∷ xs) = pin_by key test number x ++ pins_by key test (number + 1) xs

-- checks of so many scopes that take limits below 0
abbrev pub check_scope : Check × CheckTiming → ℕ
check_scope w = w.0.scope

abbrev pub is_among : ℕ → Check × CheckTiming → Bool
is_among scopes w = takes_lates w.1.kind && nat_lt w.0.scope scopes

-- Lates of so many scopes
abbrev pub element_scope : code_element.Element → ℕ
element_scope e = e.scope

abbrev pub is_late_among : ℕ → code_element.Element → Bool
is_late_among scopes e = is_late_kind e.kind && nat_lt e.scope scopes
