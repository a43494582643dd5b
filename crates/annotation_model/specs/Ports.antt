-- The nets that ports mean (IEEE 1497-2001, port instances and bit selects).
use Rattle.std.specs.Prelude.{ℕ, ◌==◌, ◌&&◌, ◌||◌, ℤ, ◌-ℤ◌, nat_abs, int_le, Bool, true, false, List, [], ◌∷◌, ◌++◌, slice_get, Option, Some, None, bytes_eq, if◌then◌else◌}
use Rattle.sg_circuit.specs.declared.scopes.Range.{Range}
use Rattle.sg_circuit.specs.declared.scopes.Port.{Port}
use Rattle.sg_circuit.specs.declared.scopes.Port.TheVariants.{Input, Output, Inner}
use Rattle.sg_circuit.specs.Circuit.{Circuit, Variable, scope_at}

-- whether a number stands in a list
abbrev pub has : ℕ → List ℕ → Bool
has k [] = false
has k (x ∷ xs) = x == k || has k xs

abbrev pub is_input : Port → Bool
is_input Input = true
is_input Output = false
is_input Inner = false

abbrev pub is_output : Port → Bool
is_output Input = false
is_output Output = true
is_output Inner = false

abbrev pub is_any : Port → Bool
is_any port = true

-- whether an index lies between the bounds, either of which may be the greater (IEEE 1364-2005, 4.3.1)
abbrev pub is_within : Range → ℤ → Bool
is_within r i = (int_le r.left i && int_le i r.right) || (int_le r.right i && int_le i r.left)

-- the position of an index from the left; a scalar has none
abbrev pub position_at : Option Range → ℤ → Option ℕ
position_at None i = None
position_at (Some r) i = if is_within r i then Some (nat_abs (i -ℤ r.left)) else None

abbrev pub one_of : Option ℕ → List ℕ
one_of None = []
one_of (Some net) = net ∷ []

abbrev pub net_in : List ℕ → Option ℕ → List ℕ
net_in bits None = []
net_in bits (Some position) = one_of (slice_get bits position)

-- the nets of a variable, or that of the bit of an index
abbrev pub bits_of : Variable → Option ℤ → List ℕ
bits_of v None = v.bits
bits_of v (Some i) = net_in v.bits (position_at v.range i)

-- the nets that a name, and perhaps an index, means among variables that are ports of a kind
abbrev pub nets_named : (Port → Bool) → List Variable → List ℕ → Option ℤ → List ℕ
nets_named kind [] name bit = []
nets_named kind (v ∷ vs) name bit = (if bytes_eq v.name name && kind v.port then bits_of v bit else []) ++ nets_named kind vs name bit

-- the nets of a port of the scope itself: its path, the last name first, is one name
abbrev pub own_nets : Circuit → (Port → Bool) → ℕ → List (List ℕ) → Option ℤ → List ℕ
own_nets c kind s [] bit = []
own_nets c kind s (name ∷ []) bit = nets_named kind (scope_at c s).variables name bit
own_nets c kind s (name ∷ n ∷ ns) bit = []
