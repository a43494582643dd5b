-- One net more is there, and at the end all are.
use Rattle.std.proofs.Common.{◌+◌, length, subst, drop, flat_map}
use Rattle.std.proofs.lemmas.Result.{err_from_is_err_and}
use Rattle.elab_bits.specs.Seen.{bit_at}
use Rattle.elab_numbering.specs.Refusals.{RefusesCount}
use Rattle.elab_nets.specs.Own.{net_at}
use Rattle.elab_nets.specs.Terminals.{at_constant}
use Rattle.elab_nets.proofs.Counts.{handed-on}
use Rattle.elab_nets.proofs.ConstantNets.{would-be}
use Rattle.elab_nets.proofs.terminals.add_constants.Goals as goal

pub returns-in_err-push_bit_net-in-Constant-clause-refused : goal.returns-in_err-push_bit_net-in-Constant-clause-refused
returns-in_err-push_bit_net-in-Constant-clause-refused c =
    let o = net_at c.args.scope (bit_at c.args.table.now c.args.place) in
    let bs = c.args.bits.now in
    let i = c.loop-bit.bit-index in
    handed-on c.from_residual.result (RefusesCount (length c.args.nets.now.items + length (flat_map (at_constant o) bs))) c.in_err-push_bit_net-in-Constant.field-0.0
    (err_from_is_err_and c.from_residual.result c.from_residual.ensures.1)
    (subst (λ n. RefusesCount n c.in_err-push_bit_net-in-Constant.field-0.0)
    (would-be o bs c.args.nets.now.items i c.in-Constant.place c.in-Constant.value _ c.loop-bit.nets.items c.loop-bit-test.true c.in-Constant.is c.loop-bit.invariant.there)
    (c.in_err-push_bit_net-in-Constant.ensures.refused (length (flat_map (at_constant o) (drop (i + 1) bs)))))
