-- No files have distinct names.
use Rattle.sg_io.proofs.HeldLemmas.{distinct-none}
use Rattle.sg_io.proofs.memory_shelf.MemoryShelf.new.Goals as goal

pub invariant_of-result : goal.invariant_of-result
invariant_of-result c = rw c.new.ensures distinct-none
