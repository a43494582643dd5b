-- The notifiers of timing checks (IEEE 1364-2005, 15.5).
use Rattle.std.specs.Prelude.{ℕ, zero, suc, ◌==◌, Bool, false, ◌||◌, if◌then◌else◌, List, [], ◌∷◌, Option, Some, None, slice_index_or}
use Rattle.sg_circuit.specs.declared.checks.Check.{Check}
use Rattle.sg_circuit.specs.declared.checks.CheckKind.TheVariants as kind
use Rattle.sg_logic.specs.declared.values.Value.{Value}
use Rattle.sg_logic.specs.declared.values.Value.TheVariants.{Zero, One, X, Z}
use Rattle.sg_model.specs.Machine.{Violation}

-- the net that the check of a number names as its notifier, if it names one
abbrev pub notifier_at : List Check → ℕ → Option ℕ
notifier_at checks number = (slice_index_or checks number (record { scope = 0; kind = kind.Setup; refer = record { name = []; bit = None }; datum = None; notifier = None; place = record { file = 0; byte = 0 } })).notifier

abbrev pub is_net : ℕ → Option ℕ → Bool
is_net net None = false
is_net net (Some notifier) = notifier == net

-- whether a check that is violated names a net
abbrev pub is_named : List Check → List Violation → ℕ → Bool
is_named checks [] net = false
is_named checks (v ∷ vs) net = is_net net (notifier_at checks v.check) || is_named checks vs net

-- of so many numbers from k on, those that pass a test
abbrev pub numbers_from : (ℕ → Bool) → ℕ → ℕ → List ℕ
numbers_from test k zero = []
numbers_from test k (suc n) = if test k then (k ∷ numbers_from test (suc k) n) else numbers_from test (suc k) n

-- of so many nets, those that violated checks name: each once, in the order of the nets
abbrev pub notifiers_of : List Check → ℕ → List Violation → List ℕ
notifiers_of checks nets found = numbers_from (is_named checks found) 0 nets

-- Words of the code.

-- the value that a net takes when it toggles, if it takes one
abbrev pub toggled_value : Value → Option Value
toggled_value Zero = Some One
toggled_value One = Some Zero
toggled_value X = Some Zero
toggled_value Z = None

-- a net takes a value, if there is one, before other changes
abbrev pub toggle_to : Option Value → ℕ → List (ℕ × Value) → List (ℕ × Value)
toggle_to None net rest = rest
toggle_to (Some value) net rest = (net, value) ∷ rest
