-- One more is put, and a refusal on the way is one of all.
use Rattle.std.proofs.Common.{flat_map}
use Rattle.std.proofs.lemmas.Result.{err_from_is_err_and}
use Rattle.sg_logic.specs.declared.values.Value.TheVariants.{Zero}
use Rattle.elab_elements.specs.Puts.{RefusesPuts}
use Rattle.elab_elements.specs.Words.{port_puts}
use Rattle.elab_elements.proofs.Left.{list-refused}
use Rattle.elab_elements.proofs.PortMeaning.{driven-refused}
use Rattle.elab_elements.proofs.Putting.{exit-by}
use Rattle.elab_elements.proofs.ports.add_all.Goals as goal

pub returns-in_err-add_driven-clause-refused : goal.returns-in_err-add_driven-clause-refused
returns-in_err-add_driven-clause-refused c =
    exit-by (RefusesPuts c.args.made.now (flat_map (port_puts c.args.scope c.args.table.now c.args.leaf c.args.inner.now c.args.outer.now) c.args.constants.now)) c.from_residual.result c.in_err-add_driven.field-0.0 (err_from_is_err_and c.from_residual.result c.from_residual.ensures.1)
    (list-refused (port_puts c.args.scope c.args.table.now c.args.leaf c.args.inner.now c.args.outer.now) c.args.constants.now c.loop-constant.constant-index (record { bit = 0; place = record { file = 0; byte = 0 }; value = Zero }) c.args.made.now c.loop-constant.made c.in_err-add_driven.field-0.0
    c.loop-constant-test.true c.loop-constant.invariant.left
    (driven-refused c.args.scope c.args.table.now c.args.leaf c.args.inner.now c.args.outer.now _ c.net_of-output.result c.loop-constant.made c.in_err-add_driven.field-0.0 c.net_of-output.ensures c.in_err-add_driven.ensures.refused))
