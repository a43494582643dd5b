-- Those so far are grouped.
use Rattle.std.proofs.Common.{◌≡◌, [], map, take}
use Rattle.specify_paths.specs.Words.{first_to_each, grouped, output_kept, outputs_in, style_at}
use Rattle.specify_paths.proofs.grouping.group.Given as goal

abbrev pub invariant-loop-path : goal.invariant-loop-path
invariant-loop-path l =
    (l.places.keys ≡ outputs_in (first_to_each [] (take l.path-index l.paths))) × (map output_kept l.outputs.items ≡ grouped (style_at l.styles) (take l.path-index l.paths))
