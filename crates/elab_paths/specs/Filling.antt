-- What becomes of elements whose Paths get the paths of uses, one after another.
use Rattle.std.specs.Prelude.{ℕ, suc, List, [], ◌∷◌, Bool, true, false, drop, if◌then◌else◌}
use Rattle.sg_circuit.specs.declared.elements.Element.{Element}
use Rattle.sg_circuit.specs.declared.elements.ElementKind.{ElementKind}
use Rattle.sg_circuit.specs.declared.elements.ElementKind.TheVariants as kind
use Rattle.elab_paths.specs.declared.uses.PathUse.{PathUse}

abbrev pub is_path : ElementKind → Bool
is_path (kind.Gate g d) = false
is_path (kind.Udp u d) = false
is_path (kind.Pass v) = false
is_path (kind.Leg t) = false
is_path (kind.Path paths style) = true
is_path (kind.Late d) = false

-- how many Paths there are
abbrev pub paths_among : List Element → ℕ
paths_among [] = 0
paths_among (e ∷ es) = if is_path e.kind then suc (paths_among es) else paths_among es

abbrev pub with_use : PathUse → Element → Element
with_use u e = record { scope = e.scope; inputs = e.inputs; output = e.output; kind = kind.Path u.paths u.style }

abbrev pub with_next : List PathUse → Element → Element
with_next [] e = e
with_next (u ∷ us) e = with_use u e

-- each Path has the paths and the style of the next use
abbrev pub filled : List PathUse → List Element → List Element
filled us [] = []
filled us (e ∷ es) = if is_path e.kind then with_next us e ∷ filled (drop 1 us) es else e ∷ filled us es
