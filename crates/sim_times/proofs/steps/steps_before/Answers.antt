use Rattle.std.specs.Prelude.{nat_lt}
use Rattle.std.proofs.Common.{rules}
use Rattle.std.proofs.lemmas.List.Sorted.{IsPartitionPoint-from_clause}
use Rattle.sg_stimulus.specs.declared.steps.StimStep.{StimStep}
use Rattle.sim_times.proofs.StepLaws.{Rising, rising, are_partitioned, splits}
use Rattle.sim_times.proofs.steps.steps_before.Goals as goal

pub returns : goal.returns
returns c =
    let steps = c.args.stimulus.now.steps.items in
    let r : Rising steps = rising steps c.requires in
    let point = IsPartitionPoint-from_clause (λ (s : StimStep). nat_lt s.time c.args.time) _ _ c.partition_point.ensures.partitioned (are_partitioned steps c.deref.result.now c.deref.ensures.value r c.args.time) (λ a x f k. search rules) in
    splits steps c.deref.result.now c.args.time c.partition_point.result c.deref.ensures.value c.partition_point.ensures.bound point.0 point.1
