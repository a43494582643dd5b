-- One part more, or the end.
use Rattle.std.proofs.Common.{List, ap, map}
use Rattle.std.specs.Prelude.{pos, neg_ℤ}
use Rattle.sdf_tree.specs.declared.words.Divider.TheVariants.{Point}
use Rattle.sdf_tree.specs.Meant.{Cell}
use Rattle.sdf_tree.specs.Seen.{view_file_part}
use Rattle.sdf_meaning.specs.MeantSeen.{view_sdf, view_meant_cell}
use Rattle.sdf_meaning.proofs.MeantFiles.{parts_begin, parts_go_on, parts_end}
use Rattle.sdf_meaning.proofs.meant_files.sdf_of.Goals as goal

pub loop-part-init : goal.loop-part-init
loop-part-init c =
    parts_begin view_file_part c.into_iter-part-iterator.result c.args.file.parts.items _ _
    (ap (λ (cs : List Cell). record { unit = neg_ℤ (pos 9); divider = Point; cells = cs }) (ap (map view_meant_cell) c.new-cells.ensures.items))
    c.into_iter-part-iterator.ensures.into_iter_gives.0

pub loop-part-preserved : goal.loop-part-preserved
loop-part-preserved c = parts_go_on view_file_part c.loop-part.part-iterator c.next.new.self (view_sdf c.loop-part.sdf) _ _ c.in-Some.part c.in-Some.ensures.steps c.in_ok-add_file_part.ensures c.loop-part.invariant

pub returns : goal.returns
returns c = parts_end view_file_part c.loop-part.part-iterator (view_sdf c.loop-part.sdf) _ c.in-None.ensures.steps.0 c.loop-part.invariant
