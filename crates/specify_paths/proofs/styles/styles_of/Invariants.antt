-- The table stands for the choices so far; the faults of the others are those of all.
use Rattle.std.proofs.Common.{◌≡◌, ◌<◌, ℕ, length, map, take}
use Rattle.elab_laws.specs.Handing.{all_bits}
use Rattle.specify_model.specs.Faults.{style_faults}
use Rattle.specify_model.specs.Outputs.{style_of}
use Rattle.specify_values.specs.Seen.{view_style}
use Rattle.specify_values.proofs.InTurn.{left_from}
use Rattle.elab_ends.specs.Seen.{bit_seen}
use Rattle.specify_paths.specs.Words.{style_at}
use Rattle.specify_paths.proofs.styles.styles_of.Given as goal

abbrev pub invariant-loop-text : goal.invariant-loop-text
invariant-loop-text l =
    ((i : ℕ) → i < length (all_bits l.table) → style_at l.styles i ≡ style_of l.table (map view_style (take l.text-index l.texts)) (bit_seen l.table i))
    × left_from view_style (style_faults l.table) l.texts l.text-index
