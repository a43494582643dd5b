-- The user-defined primitives that a top reaches, in order of first use (IEEE 1364-2005, 8.1, 8.6).
use Rattle.std.specs.Prelude.{ℕ, List, [], ◌∷◌, Ok, map, if◌then◌else◌}
use Rattle.sg_circuit.specs.Circuit.{UsedPrimitive}
use Rattle.vl_tree.specs.Tree.{Primitive, Module, Source}
use Rattle.elab_model.specs.Names.{is_among}
use Rattle.elab_model.specs.PrimitiveFaults.{primitives}
use Rattle.elab_model.specs.Primitives.{table_of, initial_value}

-- each once, where it stands first, but for those of names seen before
abbrev pub first_uses : List (List ℕ) → List Primitive → List Primitive
first_uses seen [] = []
first_uses seen (p ∷ ps) = if is_among p.name.text seen then first_uses seen ps else p ∷ first_uses (p.name.text ∷ seen) ps

abbrev pub used : Primitive → UsedPrimitive
used p = record { primitive = table_of p; first = initial_value p.initial }

abbrev pub used_primitives : Source → Module → List UsedPrimitive
used_primitives source top = map used (first_uses [] (primitives source (Ok top)))
