use Rattle.std.proofs.Common.{◌∙◌, ap}
use Rattle.sg_logic.specs.declared.values.Value.TheVariants.{X}
use Rattle.udp_rows.specs.Meaning.{output_or}
use Rattle.udp_rows.proofs.NoChange.{combinational-step}
use Rattle.udp_rows.proofs.meaning.combinational_output.Goals as goal

pub returns : goal.returns
returns c = c.output_by.ensures ∙ (ap (λ row. output_or row X X) c.covering_row.ensures ∙ combinational-step c.args.rows.now c.args.new.now)
