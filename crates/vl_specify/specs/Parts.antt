-- Parts of paths that the readers keep, as the definitions see them.
use Rattle.std.specs.Prelude.{map, option_map}
use Rattle.vl_tree.specs.Paths.{Ends, PathBody as Body}
use Rattle.vl_tree.specs.Seen.{view_amounts, view_destination, view_edge, view_term}
use Rattle.vl_specify.specs.declared.ends.PathEnds as code_ends
use Rattle.vl_specify.specs.declared.paths.PathBody as code_body

abbrev pub view_ends : code_ends.PathEnds → Ends
view_ends e = ((map view_term e.sources.items, e.polarity), (e.arrow, view_destination e.destination))

abbrev pub view_body : code_body.PathBody → Body
view_body b = (option_map view_edge b.edge, (view_ends b.ends, map view_amounts b.delays.items))
