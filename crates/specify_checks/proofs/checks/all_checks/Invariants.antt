-- The checks that are left, and their faults, complete all.
use Rattle.std.proofs.Common.{length}
use Rattle.specify_values.specs.Seen.{measured, values_of}
use Rattle.specify_checks.specs.Copies.{copies_seen}
use Rattle.specify_checks.proofs.NextCheck.{AreSoFar}
use Rattle.specify_checks.proofs.checks.all_checks.Given as goal

abbrev pub invariant-loop-text : goal.invariant-loop-text
invariant-loop-text l = AreSoFar (measured l.by) l.table (copies_seen l.table l.copies) (length l.copies.copies.items) l.copies.signals (values_of l.parameters) l.fn.texts.items (length l.yielded) l.checks.items
