-- The nets that variables of a kind mean, by their places.
use Rattle.std.specs.Prelude.{ℕ, ℤ, Bool, List, [], Option, if◌then◌else◌, map, slice_index_or}
use Rattle.sg_circuit.specs.Circuit.{Variable}
use Rattle.sg_circuit.specs.Seen.{variable_seen}
use Rattle.sg_circuit.specs.declared.scopes.Port.{Port}
use Rattle.sg_circuit.specs.declared.scopes.Variable as code_variable
use Rattle.annotation_model.specs.Ports.{bits_of}
use Rattle.annotation_places.specs.Places.{no_variable}

-- the nets of a variable, or that of a bit, where it is a port of a kind
abbrev pub meant_of : (Port → Bool) → Option ℤ → Variable → List ℕ
meant_of kind bit v = if kind v.port then bits_of v bit else []

-- those of the variable at a place
abbrev pub meant_at : (Port → Bool) → Option ℤ → List code_variable.Variable → ℕ → List ℕ
meant_at kind bit vs place = meant_of kind bit (slice_index_or (map (λ v. variable_seen v) vs) place no_variable)
