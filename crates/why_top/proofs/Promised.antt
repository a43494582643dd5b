-- From what the work left and what was told comes the case of the top call.
use Rattle.std.proofs.Common.{◌≡◌, ◌≢◌, sym, refl, subst, ℕ, List, []}
use Rattle.std.specs.Prelude.{Option, Some, Result, Ok, Err, unwrap_or}
use Rattle.sg_io.specs.Faults.{Cause}
use Rattle.sg_io.specs.Files.{File}
use Rattle.sg_io.specs.Put.{SinkTold}
use Rattle.signoff_phases.specs.Phases.{refusal_line, status_of_refusal}
use Rattle.signoff_phases.specs.Putting.{PutsLast}
use Rattle.signoff_phases.specs.Stops.{IfFailed, end_of_phase, refusal_seen}
use Rattle.signoff_phases.specs.Telling.{ShelfTold, fault_line}
use Rattle.signoff_phases.specs.Told.{Tells, TellsMade}
use Rattle.signoff_phases.specs.Told as telling
use Rattle.signoff_phases.specs.declared.status.Status.{Status}
use Rattle.signoff_phases.specs.declared.status.Status.TheVariants as status
use Rattle.signoff_phases.specs.declared.stop.Stop as code_stop
use Rattle.signoff_phases.specs.declared.stop.Stop.TheVariants as stop
use Rattle.why_words.specs.Words.{Asked, names_in}
use Rattle.why_top.specs.Answer.{usage}
use Rattle.why_top.specs.Promises.{HasAnswer, Outcome, answered, no_memory, shelf_fault, sink_fault, sink_want}
use Rattle.why_top.specs.Seen.{FailsAmong, Gives, TellsEnd}
use Rattle.why_top.specs.declared.answers.Answer as code

module _ (asked : Option Asked) where
  -- an answer, and how it was told
  made_case : (planned how : Status) (text : List ℕ) (shelf shelf' : ShelfTold) (sink sink' : SinkTold) → HasAnswer asked planned text shelf shelf' → TellsMade text planned sink sink' how → Outcome asked shelf shelf' sink sink' how
  made_case planned _ text shelf shelf' sink sink' h (telling.told r) = answered planned text h r
  made_case planned _ text shelf shelf' sink sink' h (telling.fault cut e f l) = sink_fault planned text cut h e f l
  made_case planned _ text shelf shelf' sink sink' h (telling.want cut w l) = sink_want planned text cut h w l

  told_case : (planned how : Status) (text : List ℕ) (shelf shelf' : ShelfTold) (sink sink' : SinkTold) → HasAnswer asked planned text shelf shelf' → Tells text planned sink sink' how → Outcome asked shelf shelf' sink sink' how
  told_case planned _ text shelf shelf' sink sink' h (telling.made how m) = made_case planned how text shelf shelf' sink sink' h m
  told_case planned _ text shelf shelf' sink sink' h (telling.no_memory l) = no_memory h.faults l

  pub outcome : (end : Result code.Answer code_stop.Stop) (how : Status) (shelf shelf' : ShelfTold) (sink sink' : SinkTold)
      → ((files : List File) → shelf.files ≡ Some files → Gives asked files end) → Cause shelf.faults shelf'.faults (end_of_phase end) → IfFailed (FailsAmong (names_in asked) shelf'.last) end
      → TellsEnd shelf'.last end sink sink' how → Outcome asked shelf shelf' sink sink' how
  outcome (Ok a) how shelf shelf' sink sink' r c n t = made_case a.status how a.report.items shelf shelf' sink sink' (record { right = r; faults = c }) t
  outcome (Err (stop.Refused x)) how shelf shelf' sink sink' r c n t =
      told_case (status_of_refusal (refusal_seen x)) how (refusal_line usage (refusal_seen x)) shelf shelf' sink sink' (record { right = r; faults = c }) t
  outcome (Err stop.Failed) how shelf shelf' sink sink' r c n t =
      subst (Outcome asked shelf shelf' sink sink') (sym t.0)
      (shelf_fault n.name (record { rises = c; last = n.told; named = n.among }) (subst (λ o. PutsLast (fault_line (unwrap_or o [])) sink sink') n.told t.1))
  outcome (Err stop.NoMemory) how shelf shelf' sink sink' r c n t = subst (Outcome asked shelf shelf' sink sink') (sym t.0) (no_memory c t.1)

  pub counted : (how : Status) (shelf shelf' : ShelfTold) (sink sink' : SinkTold) → Outcome asked shelf shelf' sink sink' how → how ≢ status.Fault → shelf'.faults ≡ shelf.faults
  counted _ shelf shelf' sink sink' (answered how text h r) n = h.faults
  counted _ shelf shelf' sink sink' (shelf_fault name f l) n = absurd (n refl)
  counted _ shelf shelf' sink sink' (sink_fault how text cut h e f l) n = absurd (n refl)
  counted _ shelf shelf' sink sink' (no_memory c l) n = c
  counted _ shelf shelf' sink sink' (sink_want how text cut h w l) n = h.faults
