-- An input comes where no output is to come.
use Rattle.std.proofs.Common.{◌≡◌, ◌+◌, ◌-◌, arith, refl}
use Rattle.std.proofs.lemmas.Result.{on_ok_weaker}
use Rattle.vl_tree.specs.Seen.{view_expression}
use Rattle.elab_nets.proofs.MemberBits.{input-added, output-added}
use Rattle.elab_nets.proofs.member_bits.add_terminal.Goals as goal

pub returns-then-room-eq0-clause-bits : goal.returns-then-room-eq0-clause-bits
returns-then-room-eq0-clause-bits c =
    let room = c.args.room.now in
    on_ok_weaker c.add_bits.result
    (λ h. input-added c.args.table.now (view_expression c.args.terminal.now) room (record { outputs_to_come = room.outputs_to_come; outputs = room.outputs; inputs = c.add_bits.new.bits })
    c.if-room-eq0.true refl refl h)
    c.add_bits.ensures.bits

pub returns-clause-bits : goal.returns-clause-bits
returns-clause-bits c =
    let room = c.args.room.now in
    let some = c.if-room-eq0.false in
    let one : room.outputs_to_come ≡ (room.outputs_to_come - 1) + 1 = omega (arith, some) in
    on_ok_weaker c.add_output.result
    (λ h. output-added c.args.table.now (view_expression c.args.terminal.now) room (record { outputs_to_come = room.outputs_to_come - 1; outputs = c.add_output.new.bits; inputs = room.inputs }) one refl h)
    c.add_output.ensures.bits
