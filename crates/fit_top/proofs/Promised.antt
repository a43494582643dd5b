-- From what the work left and what was told comes the case of the top call.
use Rattle.std.proofs.Common.{◌≡◌, sym, refl, subst, ℕ, List, []}
use Rattle.std.specs.Prelude.{Option, Some, None, Result, Ok, Err, unwrap_or}
use Rattle.sg_io.specs.Faults.{Cause}
use Rattle.sg_io.specs.Files.{BothTell}
use Rattle.sg_io.specs.Put.{SinkTold}
use Rattle.fit_words.specs.Words.{Asked}
use Rattle.fit_top.specs.Answer.{Meeting, fault_line}
use Rattle.fit_top.specs.Promises.{HasAnswer, IsFolderOf, IsReached, OthersStay, Outcome, ShelfTold, answered, folder_fault, made_in, no_memory, shelf_fault, sink_fault, sink_want}
use Rattle.fit_top.specs.Putting.{PutsLast}
use Rattle.fit_top.specs.Stops.{IfFailed, IfFolder, end_of, folder_end}
use Rattle.fit_top.specs.Work.{IsNamed, Tells, TellsEnd, WorkLeaves}
use Rattle.fit_top.specs.Work as telling
use Rattle.fit_top.specs.declared.answer.Told as code
use Rattle.fit_top.specs.declared.status.Status.{Status}
use Rattle.fit_top.specs.declared.stop.Stop as code_stop
use Rattle.fit_top.specs.declared.stop.Stop.TheVariants as stop

-- an answer, and how it was told
told_case : (asked : Option Asked) (meeting : Meeting) (planned how : Status) (text : List ℕ) (shelf shelf' : ShelfTold) (folders folders' : ℕ) (sink sink' : SinkTold)
    → HasAnswer asked meeting planned text shelf shelf' folders folders' → Tells text planned sink sink' how → Outcome asked meeting shelf shelf' folders folders' sink sink' how
told_case asked meeting planned _ text shelf shelf' folders folders' sink sink' h (telling.told r) = answered planned text h r
told_case asked meeting planned _ text shelf shelf' folders folders' sink sink' h (telling.fault cut e f l) = sink_fault planned text cut h e f l
told_case asked meeting planned _ text shelf shelf' folders folders' sink sink' h (telling.want cut w l) = sink_want planned text cut h w l

-- of what both tell, what is so of the first is so of both
with_old : {A : Type 0} (P : A → A → Type 0) (Q : Type 0) (old new : Option A) → BothTell old new P → ((x : A) → old ≡ Some x → Q) → BothTell old new (λ x y. Q × P x y)
with_old P Q (Some x) (Some y) p q = (q x refl, p)
with_old P Q None None p q = tt
with_old P Q None (Some y) p q = absurd p
with_old P Q (Some x) None p q = absurd p

pub outcome : (asked : Option Asked) (meeting : Meeting) (end : Result code.Told code_stop.Stop) (how : Status) (shelf shelf' : ShelfTold) (folders folders' : ℕ) (sink sink' : SinkTold)
    → BothTell shelf.files shelf'.files (WorkLeaves asked meeting end) → Cause shelf.faults shelf'.faults (end_of end) → Cause folders folders' (folder_end end)
    → IfFolder (IsFolderOf asked) end → IfFailed (IsNamed asked shelf.files shelf'.last) end → TellsEnd shelf'.last end sink sink' how
    → Outcome asked meeting shelf shelf' folders folders' sink sink' how
outcome asked meeting (Ok end) how shelf shelf' folders folders' sink sink' l c d f n t =
    told_case asked meeting end.status how end.text.items shelf shelf' folders folders' sink sink' (record { files = l; faults = c; folders = d }) t
outcome asked meeting (Err stop.Failed) how shelf shelf' folders folders' sink sink' l c d f n t =
    subst (Outcome asked meeting shelf shelf' folders folders' sink sink') (sym t.0)
    (shelf_fault n.name (record {
      rises = c;
      folders = d;
      told = n.is_last;
      files = with_old (OthersStay (made_in asked)) (IsReached asked n.name) shelf.files shelf'.files l n.among;
    }) (subst (λ o. PutsLast (fault_line (unwrap_or o [])) sink sink') n.is_last t.1))
outcome asked meeting (Err (stop.Folder name)) how shelf shelf' folders folders' sink sink' l c d f n t =
    subst (Outcome asked meeting shelf shelf' folders folders' sink sink') (sym t.0) (folder_fault name.now (record { folder = f; rises = d; faults = c; files = l }) t.1)
outcome asked meeting (Err stop.NoMemory) how shelf shelf' folders folders' sink sink' l c d f n t =
    subst (Outcome asked meeting shelf shelf' folders folders' sink sink') (sym t.0) (no_memory c d l t.1)
