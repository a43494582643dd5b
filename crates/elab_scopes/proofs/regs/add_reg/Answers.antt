-- A reg's bits may be toggled.
use Rattle.std.proofs.Common.{◌≡◌, true, false, arith}
use Rattle.elab_variables.specs.Seen.{variable_at}
use Rattle.elab_scopes.proofs.RegDrives.{no-reg, one-reg}
use Rattle.elab_scopes.proofs.regs.add_reg.Goals as goal

pub returns-then-not-row : goal.returns-then-not-row
returns-then-not-row c = λ all source s is.
    let v = variable_at c.args.here.now.prepared.now.table c.args.variable in
    let reg : v.is_reg ≡ false = grind (arith, c.row.ensures.reg, c.if-not-row.true) in
    no-reg all source s v c.args.nets.now.items reg

pub returns : goal.returns
returns c = λ all source s is.
    let v = variable_at c.args.here.now.prepared.now.table c.args.variable in
    let reg : v.is_reg ≡ true = grind (arith, c.row.ensures.reg, c.if-not-row.false) in
    one-reg all source s v c.bits_of.result.now c.args.nets.now.items c.extend_from_slice.new.self.items reg (c.bits_of.ensures all source s is) c.in_ok-extend_from_slice.ensures.items
