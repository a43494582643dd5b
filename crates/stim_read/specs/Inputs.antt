-- The inputs of the top, and what sets do to them. The nets that the stimulus drives are the bits of the top's inputs, so an
-- input is a variable of the top's scope all of whose bits the stimulus drives.
use Rattle.std.specs.Prelude.{ℕ, ◌==◌, ◌&&◌, ◌||◌, Bool, true, false, List, [], ◌∷◌, length, map, zip, find, flat_map, slice_get, bytes_eq, nat_lt, ℤ, pos, neg_ℤ, ◌-ℤ◌, nat_abs, int_le, Option, Some, None, option_map, option_and_then, if◌then◌else◌}
use Rattle.std.specs.List.{list_any, list_all}
use Rattle.sg_logic.specs.declared.values.Value.{Value}
use Rattle.sg_logic.specs.declared.values.Value.TheVariants.{Zero, One, X, Z}
use Rattle.sg_time.specs.Spelling.{number_from}
use Rattle.sg_circuit.specs.declared.nets.Driver.{Driver}
use Rattle.sg_circuit.specs.declared.nets.Driver.TheVariants as driver
use Rattle.sg_circuit.specs.declared.scopes.Range.{Range}
use Rattle.sg_circuit.specs.Circuit.{Circuit, Variable, net_at, scope_at}
use Rattle.stim_read.specs.Sets.{Name, Set}

abbrev pub is_stimulated : Driver → Bool
is_stimulated driver.Nobody = false
is_stimulated driver.Stimulus = true
is_stimulated (driver.Element e) = false
is_stimulated driver.Notifier = false

abbrev pub is_input_net : Circuit → ℕ → Bool
is_input_net circuit n = nat_lt n (length circuit.nets) && is_stimulated (net_at circuit n).driver

abbrev pub is_input : Circuit → Variable → Bool
is_input circuit v = list_all (is_input_net circuit) v.bits

abbrev pub input_named : Circuit → List ℕ → Option Variable
input_named circuit name = find (λ v. bytes_eq v.name name && is_input circuit v) (scope_at circuit 0).variables

-- the number that an index is
abbrev pub index_value : List ℕ → ℤ
index_value [] = pos 0
index_value (b ∷ bs) = if b == 45 then neg_ℤ (pos (number_from 0 bs)) else pos (number_from 0 (b ∷ bs))

-- the position of an index from the left, where it lies between the bounds, either of which may be the greater (IEEE
-- 1364-2005, 4.3.1); a scalar has none
abbrev pub is_within : Range → ℤ → Bool
is_within r i = (int_le r.left i && int_le i r.right) || (int_le r.right i && int_le i r.left)

abbrev pub position_at : Option Range → ℤ → Option ℕ
position_at None i = None
position_at (Some r) i = if is_within r i then Some (nat_abs (i -ℤ r.left)) else None

-- the nets of an input that a name means, left first: all, or that of the index
abbrev pub nets_of : Option (List ℕ) → Variable → Option (List ℕ)
nets_of None v = Some v.bits
nets_of (Some index) v = option_map (λ net. net ∷ []) (option_and_then (slice_get v.bits) (position_at v.range (index_value index)))

abbrev pub nets_named : Circuit → Name → Option (List ℕ)
nets_named circuit n = option_and_then (nets_of n.index) (input_named circuit n.name)

abbrev pub value_of : ℕ → Value
value_of b = if b == 48 then Zero else if b == 49 then One else if b == 122 then Z else X

-- the nets that a set sets, each to the value of its digit
abbrev pub bits_from : List ℕ → Option (List ℕ) → List (ℕ × Value)
bits_from digits None = []
bits_from digits (Some nets) = zip nets (map value_of digits)

unfoldable pub bits_set : Circuit → Set → List (ℕ × Value)
bits_set circuit s = bits_from s.digits (nets_named circuit s.target)

-- of several sets of a net the last one holds
abbrev pub is_set : ℕ → List (ℕ × Value) → Bool
is_set net sets = list_any (λ c. c.0 == net) sets

abbrev pub last_of_each : List (ℕ × Value) → List (ℕ × Value)
last_of_each [] = []
last_of_each (c ∷ cs) = if is_set c.0 cs then last_of_each cs else c ∷ last_of_each cs

abbrev pub all_set : Circuit → List Set → List (ℕ × Value)
all_set circuit sets = last_of_each (flat_map (bits_set circuit) sets)
