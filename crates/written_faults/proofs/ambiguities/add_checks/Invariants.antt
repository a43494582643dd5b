-- The timing checks so far were read, and no two of their parts differ.
use Rattle.std.proofs.Common.{take, false}
use Rattle.written_faults.specs.Ambiguities.{limit_in, pairs_of_checks}
use Rattle.written_faults.specs.Reading.{Reads}
use Rattle.written_faults.proofs.ambiguities.add_checks.Given as goal

abbrev pub invariant-loop-number : goal.invariant-loop-number
invariant-loop-number l = Reads (pairs_of_checks l.parts l.classes (take l.number-index l.numbers)) (limit_in l.fn.seen) (limit_in l.seen) false
