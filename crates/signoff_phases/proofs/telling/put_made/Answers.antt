use Rattle.signoff_phases.specs.Told.{no_memory}
use Rattle.signoff_phases.proofs.telling.put_made.Goals as goal

pub returns-in-Err-clause-err : goal.returns-in-Err-clause-err
returns-in-Err-clause-err g c = rw c.in-Err.is (λ text. rw c.tell_no_memory.ensures.status (no_memory c.tell_no_memory.ensures.put))
