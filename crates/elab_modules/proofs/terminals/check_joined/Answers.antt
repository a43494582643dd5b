-- An output of the right width has no fault but constants.
use Rattle.std.proofs.Common.{map, ap, ◌∙◌}
use Rattle.vl_tree.specs.Seen.{view_expression}
use Rattle.elab_bits.specs.Seen.{view_bit}
use Rattle.elab_modules.proofs.JoinedFaults.{joined-output}
use Rattle.elab_modules.proofs.terminals.check_joined.Goals as goal

pub returns : goal.returns
returns c =
    joined-output c.args.table.now c.args.width c.args.is_output (view_expression c.args.expression.now) c.deref.result.now c.check_driven.result c.if-not-is_output.false
    c.in_ok-check_expression.ensures.faultless c.in_ok-check_width.ensures.told (ap (map (view_bit c.args.table.now)) c.deref.ensures.value ∙ c.in_ok-check_width.ensures.bits)
    (c.check_driven.ensures c.args.table.now)
