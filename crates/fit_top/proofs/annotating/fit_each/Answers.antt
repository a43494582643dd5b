use Rattle.fit_top.specs.Work.{input_seen}
use Rattle.fit_top.proofs.SdfLaws.{each_fitted, each_more, none_fitted}
use Rattle.fit_top.proofs.annotating.fit_each.Goals as goal

pub loop-input-init : goal.loop-input-init
loop-input-init c = none_fitted _ _ c.no_files-files.ensures.list c.no_files-files.ensures.faults

pub loop-input-preserved : goal.loop-input-preserved
loop-input-preserved c =
    each_more input_seen c.args.inputs.now c.loop-input.input-index c.input-item.result c.input-item.is c.loop-input-test.true _ _ _ _ c.loop-input.invariant c.in_ok-add_file.ensures

pub returns : goal.returns
returns c = each_fitted input_seen c.args.inputs.now c.loop-input.input-index _ _ c.loop-input-test.false c.loop-input.invariant
