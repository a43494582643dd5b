-- One part more, or the end.
use Rattle.std.proofs.Common.{map, [], ◌∙◌, ap}
use Rattle.sdf_tree.specs.Meant as meant
use Rattle.sdf_tree.specs.Seen.{view_part}
use Rattle.sdf_meaning.specs.MeantSeen.{view_meant}
use Rattle.sdf_meaning.proofs.Moving.{lists_begin, lists_go_on, lists_end}
use Rattle.sdf_meaning.proofs.meant_files.entries_of.Goals as goal

pub loop-part-init : goal.loop-part-init
loop-part-init c = rw c.new-entries.ensures.items (lists_begin meant.entries_of_part view_part c.into_iter-part-iterator.result c.args.parts.items [] c.into_iter-part-iterator.ensures.into_iter_gives.0)

pub loop-part-preserved : goal.loop-part-preserved
loop-part-preserved c = lists_go_on meant.entries_of_part view_part c.loop-part.part-iterator c.next.new.self (map view_meant c.loop-part.entries.items) _ _ c.in-Some.part c.in-Some.ensures.steps c.in_ok-add_part.ensures c.loop-part.invariant

pub returns : goal.returns
returns c = ap (map view_meant) c.shrink_to_fit.ensures.items ∙ lists_end meant.entries_of_part view_part c.loop-part.part-iterator (map view_meant c.loop-part.entries.items) _ c.in-None.ensures.steps.0 c.loop-part.invariant
