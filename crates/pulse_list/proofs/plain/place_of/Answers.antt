-- Times fall, so one place parts the later from the earlier.
use Rattle.std.proofs.Common.{rules}
use Rattle.std.proofs.lemmas.List.Sorted.{IsPartitionPoint-from_clause}
use Rattle.pulse_list.proofs.OrderLaws.{Falls-partitioned, is_from, point_of}
use Rattle.pulse_list.proofs.plain.place_of.Goals as goal

pub returns-clause-place : goal.returns-clause-place
returns-clause-place c =
    let xs = c.args.pending.now in
    point_of xs c.args.time c.partition_point.result
    (IsPartitionPoint-from_clause (is_from c.args.time) xs c.partition_point.result c.partition_point.ensures.partitioned (Falls-partitioned xs c.args.time c.requires) (λ a r f' k. search rules))
