use Rattle.std.proofs.Common.{refl}
use Rattle.why_top.specs.Program.{no_words}
use Rattle.why_top.proofs.ProgramWords.{ends_on}
use Rattle.why_top.proofs.system.status_of.Goals as goal

pub returns-in-Ok : goal.returns-in-Ok
returns-in-Ok g c = ends_on c.args.args c.in-Ok.words _ _ _ _ _ c.top.result c.in-Ok.ensures c.deref.ensures.value c.top.ensures.outcome

pub returns-in-Err : goal.returns-in-Err
returns-in-Err g c = rw c.tell_no_memory.ensures.status (no_words refl c.tell_no_memory.ensures.put)
