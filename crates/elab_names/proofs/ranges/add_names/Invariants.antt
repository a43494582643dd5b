-- What is there, followed by what is left, is the whole.
use Rattle.std.proofs.Common.{◌≡◌, ◌++◌, map, drop}
use Rattle.vl_tree.specs.Seen.{view_name}
use Rattle.elab_names.specs.GivenRanges.{with_range, view_range}
use Rattle.elab_names.proofs.ranges.add_names.Given as goal

abbrev pub invariant-loop-name : goal.invariant-loop-name
invariant-loop-name l = map view_range l.ranges.items ++ map (with_range l.range) (map view_name (drop l.name-index l.names)) ≡ map view_range l.initial.ranges.items ++ map (with_range l.range) (map view_name l.names)
