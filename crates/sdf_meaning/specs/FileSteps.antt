-- What a file says with another part behind it.
use Rattle.std.specs.Prelude.{[], ◌∷◌, ◌++◌}
use Rattle.sdf_tree.specs.Meant.{Sdf, cell_of}
use Rattle.sdf_tree.specs.Written.{Head, text_head, divider_head, unit_head, value_head, FilePart, a_head, a_cell}

abbrev pub with_head : Sdf → Head → Sdf
with_head s text_head = s
with_head s (divider_head d) = record { unit = s.unit; divider = d; cells = s.cells }
with_head s (unit_head u) = record { unit = u; divider = s.divider; cells = s.cells }
with_head s (value_head v) = s

abbrev pub with_part : Sdf → FilePart → Sdf
with_part s (a_head h) = with_head s h
with_part s (a_cell c) = record { unit = s.unit; divider = s.divider; cells = s.cells ++ cell_of c ∷ [] }
