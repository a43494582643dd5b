use Rattle.std.proofs.Common.{rules, of_calls}
use Rattle.std.proofs.lemmas.List.Sorted.{IsPartitionPoint-from_clause}
use Rattle.why_causes.specs.Traces.{holds_before}
use Rattle.why_causes.proofs.TraceLaws.{up-to-point}
use Rattle.why_causes.proofs.traces.count_before.Goals as goal

pub returns-clause-count : goal.returns-clause-count
returns-clause-count c =
    up-to-point (holds_before c.args.events.now c.args.time) c.args.row.now c.partition_point.result
    (IsPartitionPoint-from_clause (holds_before c.args.events.now c.args.time) c.args.row.now c.partition_point.result c.partition_point.ensures.partitioned c.requires (λ a r f k. search (rules, of_calls)))
    c.partition_point.ensures.bound
