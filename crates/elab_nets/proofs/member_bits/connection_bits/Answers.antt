-- All have come, and nothing was there before.
use Rattle.std.proofs.lemmas.Result.{on_ok_weaker}
use Rattle.vl_tree.specs.Seen.{view_connections}
use Rattle.elab_model.specs.Members.{connection_values}
use Rattle.elab_nets.proofs.MemberBits.{has-bits}
use Rattle.elab_nets.proofs.member_bits.connection_bits.Goals as goal

pub returns-clause-bits : goal.returns-clause-bits
returns-clause-bits c =
    on_ok_weaker c.add_connected.result
    (λ h. has-bits c.args.table.now c.args.outputs (connection_values (view_connections c.args.connections.now)) c.await_outputs.new.room c.add_connected.new.room c.await_outputs.ensures.awaited
    c.await_outputs.ensures.outputs c.await_outputs.ensures.inputs h)
    c.add_connected.ensures.bits
