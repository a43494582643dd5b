-- One instance more.
use Rattle.std.proofs.Common.{◌<◌, length, take, arith}
use Rattle.std.proofs.lemmas.Result.{err_from_is_err_and}
use Rattle.elab_hierarchy.proofs.Whole.{refuses}
use Rattle.elab_modules.proofs.Meeting.{met-next, met-refused, places_of}
use Rattle.elab_modules.proofs.stock.add_modules.Goals as goal

pub returns-in_err-add_module-clause-refused : goal.returns-in_err-add_module-clause-refused
returns-in_err-add_module-clause-refused c =
    let lt : c.loop-instance.instance-index < length c.args.instances.now = omega arith in
    refuses _ c.from_residual.result c.in_err-add_module.field-0.0 (err_from_is_err_and c.from_residual.result c.from_residual.ensures.1)
    (met-refused c.args.definitions.now c.instance-item.result c.instance-item.result c.args.instances.now c.loop-instance.instance-index c.in_err-add_module.field-0.0 lt c.instance-item.is
    c.in_err-add_module.ensures.refused)

pub loop-instance-preserved : goal.loop-instance-preserved
loop-instance-preserved c =
    let lt : c.loop-instance.instance-index < length c.args.instances.now = omega arith in
    met-next c.args.definitions.now c.instance-item.result c.instance-item.result c.add_module.new.parts c.add_module.new.udps.items c.args.instances.now c.loop-instance.instance-index lt
    c.instance-item.is (c.in_ok-add_module.ensures.met (places_of (take c.loop-instance.instance-index c.args.instances.now)) c.loop-instance.invariant)
