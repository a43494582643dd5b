-- What has been made is the circuit.
use Rattle.std.proofs.Common.{◌∙◌}
use Rattle.vl_elab.proofs.Whole.{drivers-fit, is-of, parts_of, whole-closed, whole-indexed, whole-is}
use Rattle.vl_elab.proofs.circuits.close.Goals as goal

pub drive-requires : goal.drive-requires
drive-requires c =
    let w = c.requires in
    drivers-fit w.0 w.1.0 w.1.1.0 c.args.tick c.args.library c.args.rows c.args.made c.args.drivers.now c.args.checks c.args.scopes.items w.1.1.1

pub close-requires-clause-closed : goal.close-requires-clause-closed
close-requires-clause-closed c =
    let w = c.requires in
    whole-closed w.0 w.1.0 w.1.1.0 c.args.tick c.args.library c.args.rows c.args.made c.args.drivers.now c.args.checks c.args.scopes.items w.1.1.1
    (parts_of c.args.tick c.args.library c.args.made c.args.checks c.args.scopes c.drive.new.nets c.new-zeroed.result)
    (is-of c.args.tick c.args.library c.args.rows c.args.made c.args.drivers.now c.args.checks c.args.scopes c.drive.new.nets c.new-zeroed.result c.drive.ensures c.new-zeroed.ensures.items)

pub close-requires-clause-indexed : goal.close-requires-clause-indexed
close-requires-clause-indexed c =
    let w = c.requires in
    whole-indexed w.0 w.1.0 w.1.1.0 c.args.tick c.args.library c.args.rows c.args.made c.args.drivers.now c.args.checks c.args.scopes.items w.1.1.1
    (parts_of c.args.tick c.args.library c.args.made c.args.checks c.args.scopes c.drive.new.nets c.new-zeroed.result)
    (is-of c.args.tick c.args.library c.args.rows c.args.made c.args.drivers.now c.args.checks c.args.scopes c.drive.new.nets c.new-zeroed.result c.drive.ensures c.new-zeroed.ensures.items)

pub returns : goal.returns
returns c source m corner w =
    c.close.ensures
    ∙ whole-is source m corner c.args.tick c.args.library c.args.rows c.args.made c.args.drivers.now c.args.checks c.args.scopes.items w
    (parts_of c.args.tick c.args.library c.args.made c.args.checks c.args.scopes c.drive.new.nets c.new-zeroed.result)
    (is-of c.args.tick c.args.library c.args.rows c.args.made c.args.drivers.now c.args.checks c.args.scopes c.drive.new.nets c.new-zeroed.result c.drive.ensures c.new-zeroed.ensures.items)
