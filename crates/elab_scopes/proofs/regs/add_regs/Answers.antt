-- One variable more.
use Rattle.std.proofs.Common.{◌<◌, ◌≤◌, ◌∙◌, ◌++◌, ap, arith, length}
use Rattle.std.specs.Prelude.{flat_map}
use Rattle.std.proofs.lemmas.List.{take_all}
use Rattle.elab_model.specs.Drivers.{reg_drives}
use Rattle.elab_scopes.specs.Driven.{drive_numbers}
use Rattle.elab_scopes.proofs.RegDrives.{regs-next}
use Rattle.elab_scopes.proofs.regs.add_regs.Goals as goal

pub loop-variable-preserved : goal.loop-variable-preserved
loop-variable-preserved c = λ all source s is.
    let vs = c.args.here.now.prepared.now.table in
    let lt : c.loop-variable.variable < length vs = omega (arith, c.loop-variable-test.true, c.len-variable-end.ensures) in
    regs-next all source s vs c.loop-variable.variable c.args.nets.now.items c.loop-variable.nets.items c.add_reg.new.nets.items lt
    (c.in_ok-add_reg.ensures all source s is) (c.loop-variable.invariant all source s is)

pub returns : goal.returns
returns c = λ all source s is.
    let vs = c.args.here.now.prepared.now.table in
    let le : length vs ≤ c.loop-variable.variable = omega (arith, c.loop-variable-test.false, c.len-variable-end.ensures) in
    c.loop-variable.invariant all source s is ∙ ap (λ us. c.args.nets.now.items ++ drive_numbers all (flat_map (reg_drives source s) us)) (take_all c.loop-variable.variable vs le ∙ is.prepared.table)
