-- All have come, and nothing was there before.
use Rattle.std.proofs.lemmas.Result.{on_ok_weaker}
use Rattle.std.proofs.Common.{map}
use Rattle.vl_tree.specs.Seen.{view_expression}
use Rattle.elab_nets.proofs.MemberBits.{has-bits}
use Rattle.elab_nets.proofs.member_bits.terminal_bits.Goals as goal

pub returns-clause-bits : goal.returns-clause-bits
returns-clause-bits c =
    on_ok_weaker c.add_all.result
    (λ h. has-bits c.args.table.now c.args.outputs (map view_expression c.args.terminals.now) c.await_outputs.new.room c.add_all.new.room c.await_outputs.ensures.awaited c.await_outputs.ensures.outputs
    c.await_outputs.ensures.inputs h)
    c.add_all.ensures.bits
