-- The elements so far were read, and no two of their paths differ.
use Rattle.std.proofs.Common.{take, false}
use Rattle.written_faults.specs.Ambiguities.{numbers_in, pairs_of_elements}
use Rattle.written_faults.specs.Reading.{Reads}
use Rattle.written_faults.proofs.ambiguities.add_elements.Given as goal

abbrev pub invariant-loop-number : goal.invariant-loop-number
invariant-loop-number l = Reads (pairs_of_elements l.parts l.classes (take l.number-index l.numbers)) (numbers_in l.fn.seen) (numbers_in l.seen) false
