-- The paths so far were read, and no two of them differ.
use Rattle.std.proofs.Common.{take, false}
use Rattle.written_faults.specs.Ambiguities.{numbers_in, path_pairs}
use Rattle.written_faults.specs.Reading.{Reads}
use Rattle.written_faults.proofs.ambiguities.add_paths.Given as goal

abbrev pub invariant-loop-path : goal.invariant-loop-path
invariant-loop-path l = Reads (path_pairs l.timings l.classes l.output (take l.path-index l.paths)) (numbers_in l.fn.seen) (numbers_in l.seen) false
