-- The Passes are those of the definition.
use Rattle.std.proofs.Common.{map, flat_map}
use Rattle.std.proofs.lemmas.List.Elements.{recursion_from_All}
use Rattle.std.proofs.lemmas.Result.{on_ok_weaker}
use Rattle.elab_model.specs.Bits.{constant}
use Rattle.elab_model.specs.Elements.{pass_to}
use Rattle.elab_bits.specs.declared.bits.Bit.TheVariants as bit
use Rattle.elab_bits.specs.Seen.{view_bit, IsInRow}
use Rattle.elab_elements.specs.Words.{pass_puts}
use Rattle.elab_elements.proofs.Meaning.{adds}
use Rattle.elab_elements.proofs.PassMeaning.{supply-means, supply-within}
use Rattle.elab_elements.proofs.Putting.{if_err-weaker, refuses-count}
use Rattle.elab_elements.proofs.passes.add_supply.Goals as goal

pub returns-clause-passes : goal.returns-clause-passes
returns-clause-passes c =
    on_ok_weaker c.add_constants.result
    (λ puts. λ delays udps all source s here drives. adds delays udps all c.args.made.now c.add_constants.new.made _ _
    (supply-means delays udps all source s c.args.scope c.args.table.now c.args.row.now c.args.driven.now c.args.place c.args.value c.args.bits.now here drives
    (recursion_from_All (IsInRow c.args.table.now) c.args.bits.now c.requires.bits))
    puts)
    c.add_constants.ensures.puts

pub returns-clause-refused : goal.returns-clause-refused
returns-clause-refused c =
    if_err-weaker c.add_constants.result _ _
    (λ r refused. λ all source s here drives. refuses-count c.args.made.now (flat_map (λ b. pass_puts c.args.scope c.args.place c.args.row.now c.args.driven.now
    (b, bit.Constant c.args.place c.args.value)) c.args.bits.now) (flat_map (λ b. pass_to source s c.args.place (b, constant c.args.place c.args.value)) (map (view_bit c.args.table.now) c.args.bits.now)) r
    (supply-within all source s c.args.scope c.args.table.now c.args.row.now c.args.driven.now c.args.place c.args.value c.args.bits.now here drives
    (recursion_from_All (IsInRow c.args.table.now) c.args.bits.now c.requires.bits))
    refused)
    c.add_constants.ensures.refused
