-- The Passes are those of the definition.
use Rattle.std.proofs.Common.{map, flat_map, zip}
use Rattle.std.proofs.lemmas.List.Elements.{recursion_from_All}
use Rattle.std.proofs.lemmas.Result.{on_ok_weaker}
use Rattle.elab_model.specs.Elements.{passes}
use Rattle.elab_bits.specs.Seen.{view_bit, IsInRow}
use Rattle.elab_elements.specs.Words.{pass_puts}
use Rattle.elab_elements.proofs.Meaning.{adds}
use Rattle.elab_elements.proofs.PassMeaning.{passes-mean, passes-within}
use Rattle.elab_elements.proofs.Putting.{if_err-weaker, refuses-count}
use Rattle.elab_elements.proofs.passes.add_passes.Goals as goal

pub returns-clause-passes : goal.returns-clause-passes
returns-clause-passes c =
    on_ok_weaker c.add_each.result
    (λ puts. λ delays udps all source s here drives. adds delays udps all c.args.made.now c.add_each.new.made _ _
    (passes-mean delays udps all source s c.args.scope c.args.table.now c.args.row.now c.args.driven.now c.args.place c.args.left.now c.args.right.now here drives
    (recursion_from_All (IsInRow c.args.table.now) c.args.left.now c.requires.left)
    (recursion_from_All (IsInRow c.args.table.now) c.args.right.now c.requires.right))
    puts)
    c.add_each.ensures.puts

pub returns-clause-refused : goal.returns-clause-refused
returns-clause-refused c =
    if_err-weaker c.add_each.result _ _
    (λ r refused. λ all source s here drives. refuses-count c.args.made.now (flat_map (pass_puts c.args.scope c.args.place c.args.row.now c.args.driven.now) (zip c.args.left.now c.args.right.now))
    (passes source s c.args.place (map (view_bit c.args.table.now) c.args.left.now) (map (view_bit c.args.table.now) c.args.right.now)) r
    (passes-within all source s c.args.scope c.args.table.now c.args.row.now c.args.driven.now c.args.place c.args.left.now c.args.right.now here drives
    (recursion_from_All (IsInRow c.args.table.now) c.args.left.now c.requires.left)
    (recursion_from_All (IsInRow c.args.table.now) c.args.right.now c.requires.right))
    refused)
    c.add_each.ensures.refused
