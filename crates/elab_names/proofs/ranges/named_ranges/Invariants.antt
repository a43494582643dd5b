-- What is there, followed by what is left, is the whole.
use Rattle.std.proofs.Common.{◌≡◌, ◌++◌, map, flat_map, drop}
use Rattle.vl_tree.specs.Seen.{view_item, view_module}
use Rattle.elab_model.specs.NameFaults.{range_texts}
use Rattle.elab_names.specs.GivenRanges.{given, given_by_item, view_range}
use Rattle.elab_names.proofs.ranges.named_ranges.Given as goal

abbrev pub invariant-loop-item : goal.invariant-loop-item
invariant-loop-item l = map view_range l.ranges.items ++ flat_map given_by_item (map view_item (drop l.item-index l.definition.items.items)) ≡ given (range_texts (view_module l.definition))
