-- One more is there.
use Rattle.vl_tree.specs.Seen.{view_specparam}
use Rattle.specify_values.proofs.Gathered.{next-specparam}
use Rattle.specify_values.proofs.gathering.add_specparams.Goals as goal

pub loop-specparam-preserved : goal.loop-specparam-preserved
loop-specparam-preserved c =
    next-specparam view_specparam c.args.specparams.now c.loop-specparam.specparam-index c.specparam-item.result c.args.items.now c.loop-specparam.items c.add_specparam.new.items
    c.loop-specparam-test.true c.specparam-item.is c.loop-specparam.invariant c.in_ok-add_specparam.ensures
