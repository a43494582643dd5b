-- What the putting of a report tells.
use Rattle.std.proofs.Common.{◌≡◌, ◌∙◌, sym, ℕ, true, false, List, []}
use Rattle.std.specs.Prelude.{Ok, Err}
use Rattle.sg_io.specs.Put.{Puts, SinkTold}
use Rattle.sg_io.specs.declared.outside.ShelfError.TheVariants as shelf
use Rattle.tally_top.specs.Answer.{report_fault_line, no_memory_line}
use Rattle.tally_top.specs.Promises.{whole, till_fault}
use Rattle.tally_top.specs.Putting.{PutsLast}
use Rattle.tally_top.specs.Status.{is_report}
use Rattle.tally_top.specs.Seen.{Tells, told, fault, want}
use Rattle.tally_top.specs.declared.status.Status.{Status}
use Rattle.tally_top.specs.declared.status.Status.TheVariants as status
use Rattle.tally_top.proofs.Putting.{put_by}

pub tells_all : (text : List ℕ) (planned : Status) (old new : SinkTold) (u : Unit {0}) → Puts text old new (Ok u) → Tells text planned old new planned
tells_all text planned old new u h = told (whole (put_by text old new (Ok u) h))

pub tells_fault : (text : List ℕ) (planned : Status) (old cut new : SinkTold) → is_report planned ≡ true → Puts text old cut (Err shelf.Failed) → PutsLast report_fault_line cut new
    → Tells text planned old new status.Fault
tells_fault text planned old cut new e h l = fault cut e (put_by text old cut (Err shelf.Failed) h) l

pub tells_cut : (text : List ℕ) (planned : Status) (old new : SinkTold) → is_report planned ≡ false → Puts text old new (Err shelf.Failed) → Tells text planned old new planned
tells_cut text planned old new e h = told (till_fault (λ r. let k : false ≡ true = sym e ∙ r in cc) (put_by text old new (Err shelf.Failed) h))

pub tells_want : (text : List ℕ) (planned : Status) (old cut new : SinkTold) → Puts text old cut (Err shelf.NoMemory) → PutsLast no_memory_line cut new → Tells text planned old new status.NoMemory
tells_want text planned old cut new h l = want cut (put_by [] old cut (Err shelf.NoMemory) h) l
