-- What the specify paths so far say, their paths, and the faults of the others.
use Rattle.std.proofs.Common.{length}
use Rattle.specify_values.specs.Seen.{limits_seen, measured, values_of}
use Rattle.specify_paths.proofs.InTurns.{AreSoFar}
use Rattle.specify_paths.proofs.outputs.all_paths.Given as goal

abbrev pub invariant-loop-path : goal.invariant-loop-path
invariant-loop-path l = AreSoFar (measured l.by) l.table (values_of l.parameters) (limits_seen l.limits) l.fn.paths.items (length l.yielded) l.statements.items l.list.items
