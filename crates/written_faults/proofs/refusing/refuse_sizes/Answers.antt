-- What is wrong of sizes is told as it is meant.
use Rattle.std.proofs.Common.{true, false}
use Rattle.std.specs.Prelude.{◌-ℤ◌}
use Rattle.sg_time.specs.Ticks.{above}
use Rattle.written_faults.proofs.RefusingLaws.{some_ticks, grid_told}
use Rattle.written_faults.proofs.refusing.refuse_sizes.Goals as goal

pub has_size-requires-clause-precision : goal.has_size-requires-clause-precision
has_size-requires-clause-precision c = some_ticks (above (c.index.result.now.scale.precision.power -ℤ c.args.parts.now.tick.power)) c.ticks_of-precision.result c.ticks_of-precision.ensures

pub returns-then-has_size-clause-fault : goal.returns-then-has_size-clause-fault
returns-then-has_size-clause-fault c =
    grid_told c.args.parts.now c.args.scope c.index.result.now c.ticks_of-precision.result c.has_size.result true c.requires.scope c.index.ensures c.ticks_of-precision.ensures c.has_size.ensures c.if-has_size.true

pub returns-clause-on_grid : goal.returns-clause-on_grid
returns-clause-on_grid c =
    grid_told c.args.parts.now c.args.scope c.index.result.now c.ticks_of-precision.result c.has_size.result false c.requires.scope c.index.ensures c.ticks_of-precision.ensures c.has_size.ensures c.if-has_size.false
