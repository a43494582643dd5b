-- What the putting of a report tells.
use Rattle.std.proofs.Common.{◌≡◌, ◌∙◌, sym, subst, inl, inr, ℕ, true, false, List, []}
use Rattle.std.specs.Global.{Vec}
use Rattle.std.specs.Prelude.{Result, Ok, Err, IfOk, IfErr}
use Rattle.std.specs.declared.alloc.AllocError.{AllocError}
use Rattle.sg_io.specs.Put.{Puts, SinkTold}
use Rattle.sg_io.specs.declared.outside.ShelfError.TheVariants as shelf
use Rattle.signoff_phases.specs.Telling.{report_fault_line, no_memory_line, whole, till_fault}
use Rattle.signoff_phases.specs.Putting.{PutsLast}
use Rattle.signoff_phases.specs.Status.{is_run_end}
use Rattle.signoff_phases.specs.Told.{Tells, TellsMade, told, fault, want, made, no_memory}
use Rattle.signoff_phases.specs.declared.status.Status.{Status}
use Rattle.signoff_phases.specs.declared.status.Status.TheVariants as status
use Rattle.run_report.specs.Reporting.{PutsMade}
use Rattle.signoff_phases.proofs.Putting.{put_by}

-- a text that was put
pub made_all : (text : List ℕ) (planned : Status) (old new : SinkTold) (u : Unit {0}) → Puts text old new (Ok u) → TellsMade text planned old new planned
made_all text planned old new u h = told (whole (put_by text old new (Ok u) h))

pub made_fault : (text : List ℕ) (planned : Status) (old cut new : SinkTold) → is_run_end planned ≡ true → Puts text old cut (Err shelf.Failed) → PutsLast report_fault_line cut new
    → TellsMade text planned old new status.Fault
made_fault text planned old cut new e h l = fault cut e (put_by text old cut (Err shelf.Failed) h) l

pub made_cut : (text : List ℕ) (planned : Status) (old new : SinkTold) → is_run_end planned ≡ false → Puts text old new (Err shelf.Failed) → TellsMade text planned old new planned
made_cut text planned old new e h = told (till_fault (λ r. let k : false ≡ true = sym e ∙ r in cc) (put_by text old new (Err shelf.Failed) h))

pub made_want : (text : List ℕ) (planned : Status) (old cut new : SinkTold) → Puts text old cut (Err shelf.NoMemory) → PutsLast no_memory_line cut new → TellsMade text planned old new status.NoMemory
made_want text planned old cut new h l = want cut (put_by [] old cut (Err shelf.NoMemory) h) l

-- or for which there was no memory
pub tells_all : (text : List ℕ) (planned : Status) (old new : SinkTold) (u : Unit {0}) → PutsMade text old new (Ok u) → Tells text planned old new planned
tells_all text planned old new u (inl h) = made planned (made_all text planned old new u h)
tells_all text planned old new u (inr h) = let e : Ok u ≡ Err shelf.NoMemory = h.0 in cc

pub tells_fault : (text : List ℕ) (planned : Status) (old cut new : SinkTold) → is_run_end planned ≡ true → PutsMade text old cut (Err shelf.Failed) → PutsLast report_fault_line cut new
    → Tells text planned old new status.Fault
tells_fault text planned old cut new e (inl h) l = made status.Fault (made_fault text planned old cut new e h l)
tells_fault text planned old cut new e (inr h) l = let f : Err shelf.Failed ≡ Err shelf.NoMemory = h.0 in cc

pub tells_cut : (text : List ℕ) (planned : Status) (old new : SinkTold) → is_run_end planned ≡ false → PutsMade text old new (Err shelf.Failed) → Tells text planned old new planned
tells_cut text planned old new e (inl h) = made planned (made_cut text planned old new e h)
tells_cut text planned old new e (inr h) = let f : Err shelf.Failed ≡ Err shelf.NoMemory = h.0 in cc

pub tells_want : (text : List ℕ) (planned : Status) (old cut new : SinkTold) → PutsMade text old cut (Err shelf.NoMemory) → PutsLast no_memory_line cut new → Tells text planned old new status.NoMemory
tells_want text planned old cut new (inl h) l = made status.NoMemory (made_want text planned old cut new h l)
tells_want text planned old cut new (inr h) l = no_memory (subst (λ s. PutsLast no_memory_line s new) h.1 l)

-- a text that was made and put, or for which there was no memory
pub made_tells : (text_made : Result (Vec ℕ) AllocError) (text : List ℕ) (given planned : Status) (old new : SinkTold) (how : Status) → IfOk text_made (λ v. v.items ≡ text) → given ≡ planned
    → IfOk text_made (λ v. Tells v.items given old new how) → IfErr text_made (λ _. (t : List ℕ) → Tells t given old new how) → Tells text planned old new how
made_tells (Ok v) text given planned old new how is e h k = subst (λ t. Tells t planned old new how) is (subst (λ s. Tells v.items s old new how) e h)
made_tells (Err r) text given planned old new how is e h k = subst (λ s. Tells text s old new how) e (k text)
