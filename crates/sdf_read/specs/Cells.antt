-- Parts of cells that the readers keep, as the definitions see them.
use Rattle.std.specs.Prelude.{map}
use Rattle.sdf_tree.specs.Files.{PartBody, delays_body, checks_body, skipped_body}
use Rattle.sdf_tree.specs.Seen.{view_check, view_group}
use Rattle.sdf_read.specs.declared.cells.PartBody as code_body
use Rattle.sdf_read.specs.declared.cells.PartBody.TheVariants as body

abbrev pub view_part_body : code_body.PartBody → PartBody
view_part_body (body.Delays gs) = delays_body (map view_group gs.items)
view_part_body (body.Checks cs) = checks_body (map view_check cs.items)
view_part_body (body.Skipped s) = skipped_body s
