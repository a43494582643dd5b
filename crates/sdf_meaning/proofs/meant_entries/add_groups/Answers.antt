-- One group more, or the end.
use Rattle.std.proofs.Common.{map}
use Rattle.sdf_tree.specs.Meant as meant
use Rattle.sdf_tree.specs.Seen.{view_group}
use Rattle.sdf_meaning.specs.MeantSeen.{view_meant}
use Rattle.sdf_meaning.proofs.Moving.{lists_begin, lists_go_on, lists_end}
use Rattle.sdf_meaning.proofs.meant_entries.add_groups.Goals as goal

pub loop-group-init : goal.loop-group-init
loop-group-init c = lists_begin meant.entries_of_group view_group c.into_iter-group-iterator.result c.args.groups.items (map view_meant c.args.entries.now.items) c.into_iter-group-iterator.ensures.into_iter_gives.0

pub loop-group-preserved : goal.loop-group-preserved
loop-group-preserved c = lists_go_on meant.entries_of_group view_group c.loop-group.group-iterator c.next.new.self (map view_meant c.loop-group.entries.items) _ _ c.in-Some.group c.in-Some.ensures.steps c.in_ok-add_group.ensures c.loop-group.invariant

pub returns : goal.returns
returns c = lists_end meant.entries_of_group view_group c.loop-group.group-iterator (map view_meant c.loop-group.entries.items) _ c.in-None.ensures.steps.0 c.loop-group.invariant
