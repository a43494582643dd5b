-- Starts rise, so one place parts the rows.
use Rattle.std.proofs.Common.{rules, leb}
use Rattle.std.proofs.lemmas.List.Sorted.{IsPartitionPoint-from_clause}
use Rattle.elab_variables.specs.declared.tables.Row.{Row}
use Rattle.elab_variables.proofs.BitPlaces.{place-found, starts-partition}
use Rattle.elab_variables.proofs.tables.row_with.Goals as goal

pub overflow_sub-result : goal.overflow_sub-result
overflow_sub-result c =
    let point = IsPartitionPoint-from_clause (λ (r : Row). leb r.start c.args.place) c.args.rows.now c.partition_point.result c.partition_point.ensures.partitioned
    (starts-partition c.args.rows.now c.args.place c.requires.starts) (λ a x f k. search rules) in
    (place-found c.args.rows.now c.args.place c.partition_point.result c.requires.starts c.requires.below c.partition_point.ensures.bound point).0

pub returns : goal.returns
returns c =
    let point = IsPartitionPoint-from_clause (λ (r : Row). leb r.start c.args.place) c.args.rows.now c.partition_point.result c.partition_point.ensures.partitioned
    (starts-partition c.args.rows.now c.args.place c.requires.starts) (λ a x f k. search rules) in
    (place-found c.args.rows.now c.args.place c.partition_point.result c.requires.starts c.requires.below c.partition_point.ensures.bound point).1
