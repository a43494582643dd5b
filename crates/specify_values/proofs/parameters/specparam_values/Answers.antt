-- One more is in the table, and at the end all are.
use Rattle.specify_values.specs.Seen.{named_in}
use Rattle.specify_values.proofs.ByName.{next-value, all-values}
use Rattle.specify_values.proofs.parameters.specparam_values.Goals as goal

pub loop-parameter-preserved : goal.loop-parameter-preserved
loop-parameter-preserved c =
    next-value c.args.list.now c.loop-parameter.parameter-index c.parameter-item.result (named_in c.loop-parameter.values) (named_in c.add_value.new.values) c.loop-parameter-test.true
    c.parameter-item.is c.loop-parameter.invariant c.in_ok-add_value.ensures

pub returns : goal.returns
returns c = all-values c.args.list.now c.loop-parameter.parameter-index (named_in c.loop-parameter.values) c.loop-parameter-test.false c.loop-parameter.invariant
