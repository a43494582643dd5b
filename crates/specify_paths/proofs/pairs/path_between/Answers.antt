-- The names of the two bits are those by which the limits are found.
use Rattle.specify_values.specs.Seen.{limits_seen}
use Rattle.specify_paths.proofs.Between.{between-bits}
use Rattle.specify_paths.proofs.pairs.path_between.Goals as goal

pub returns-clause-path : goal.returns-clause-path
returns-clause-path c =
    between-bits c.args.table.now (limits_seen c.args.limits.now) c.args.origin.statement c.args.input c.args.output c.args.origin.place c.name-from.result.now c.name-to.result.now _ _ c.between.result
    c.bit.ensures.bit c.bit-2.ensures.bit c.name-from.ensures c.name-to.ensures c.between.ensures
