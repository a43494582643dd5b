-- What follows from the case of the top call.
use Rattle.std.proofs.Common.{◌≡◌, ◌≢◌, ap, subst, refl, ℕ, List, [], Bool, true, false, cond}
use Rattle.std.specs.Prelude.{Option, Some, None, ◌&&◌}
use Rattle.sg_io.specs.Files.{File, BothTell, bytes_of}
use Rattle.sg_io.specs.Put.{SinkTold}
use Rattle.fit_words.specs.Words.{Asked, inputs_of}
use Rattle.fit_changes.specs.Lines.{Line}
use Rattle.fit_changes.specs.Report.{are_told, first_told}
use Rattle.fit_changes.specs.Rounds.{written}
use Rattle.fit_sdf.specs.Counts.{SdfCount}
use Rattle.fit_top.specs.Answer.{Answer, IsAnswerFor, IsAnswerTo, IsTextAnswer, Meeting, all_lines, changed_answer, fitted_answer, has_faults, has_files, is_right, is_unfit, meets_one, misses_netlist, misses_sdf, refusal}
use Rattle.fit_top.specs.Promises.{FilesAfter, IsRight, OthersStay, Outcome, ShelfTold, answered, folder_fault, made_in, no_memory, shelf_fault, sink_fault, sink_want}
use Rattle.fit_top.specs.Status.{IsRefusal}
use Rattle.fit_top.specs.declared.status.Status.{Status}
use Rattle.fit_top.specs.declared.status.Status.TheVariants as status
use Rattle.fit_top.proofs.MadeNames.{answer_made, none_made_by}
use Rattle.fit_top.proofs.MakingLaws.{others_after}
use Rattle.fit_top.proofs.Putting.{both_map}

same_others : (names : List (List ℕ)) (old new : List File) → new ≡ old → OthersStay names old new
same_others names old new e q none = ap (bytes_of q) e

right_others : (asked : Option Asked) (meeting : Meeting) (how : Status) (text : List ℕ) (old new : List File) → IsRight asked meeting how text old new → OthersStay (made_in asked) old new
right_others None meeting how text old new r q none = same_others [] old new (subst (λ (a : Answer). FilesAfter a.made old new) r.right r.files) q none
right_others (Some asked) meeting how text old new r q none = others_after r.answer.made old new r.files q (none_made_by asked r.answer.made (answer_made asked meeting old r.answer r.right) q none)

-- an answer whose status is that of a refusal makes nothing
changed_refusal : (asked : Asked) (made sdf : List (List ℕ)) (lines : List Line) (counts : List SdfCount) → IsRefusal (changed_answer asked made sdf lines counts).status → (changed_answer asked made sdf lines counts).made ≡ []
changed_refusal asked made sdf lines counts r = by (asked.is_strict && are_told lines) (are_told lines) r
  where
    by : (b told : Bool) → IsRefusal (cond b (refusal status.Told (first_told (inputs_of asked) lines)) (record (fitted_answer asked made sdf lines counts) { status = cond told status.Told status.Same })).status
        → (cond b (refusal status.Told (first_told (inputs_of asked) lines)) (record (fitted_answer asked made sdf lines counts) { status = cond told status.Told status.Same })).made ≡ []
    by true told h = refl
    by false true h = absurd h
    by false false h = absurd h

text_refusal : (asked : Asked) (texts : List (List ℕ)) (sdf : List File) (answer : Answer) → IsTextAnswer asked texts sdf answer → IsRefusal answer.status → answer.made ≡ []
text_refusal asked texts sdf _ (is_unfit places u) r = refl
text_refusal asked texts sdf _ (has_faults made lines b told f t) r = refl
text_refusal asked texts sdf _ (is_right made lines files counts f t n) r = changed_refusal asked made (written files) (all_lines asked lines files) counts r

refusal_made : (asked : Asked) (meeting : Meeting) (held : List File) (answer : Answer) → IsAnswerFor asked meeting held answer → IsRefusal answer.status → answer.made ≡ []
refusal_made asked meeting held _ (meets_one m) r = refl
refusal_made asked meeting held _ (misses_netlist name m n) r = refl
refusal_made asked meeting held _ (misses_sdf name netlists m n s) r = refl
refusal_made asked meeting held _ (has_files netlists sdf answer m n s t) r = text_refusal asked _ sdf answer t r

made_to : (asked : Option Asked) (meeting : Meeting) (held : List File) (answer : Answer) → IsAnswerTo asked meeting held answer → IsRefusal answer.status → answer.made ≡ []
made_to None meeting held answer e r = ap (λ a. a.made) e
made_to (Some asked) meeting held answer h r = refusal_made asked meeting held answer h r

right_same : (asked : Option Asked) (meeting : Meeting) (how : Status) (text : List ℕ) (old new : List File) → IsRefusal how → IsRight asked meeting how text old new → new ≡ old
right_same asked meeting how text old new f r =
    let none : r.answer.made ≡ [] = made_to asked meeting old r.answer r.right (subst IsRefusal r.status f) in
    subst (λ m. FilesAfter m old new) none r.files

module _ (asked : Option Asked) (meeting : Meeting) (shelf shelf' : ShelfTold) (folders folders' : ℕ) (sink sink' : SinkTold) where
  right_both : (how : Status) (text : List ℕ) → BothTell shelf.files shelf'.files (IsRight asked meeting how text) → BothTell shelf.files shelf'.files (OthersStay (made_in asked))
  right_both how text h = both_map (IsRight asked meeting how text) (OthersStay (made_in asked)) shelf.files shelf'.files h (λ x y r. right_others asked meeting how text x y r)

  pub others : (how : Status) → Outcome asked meeting shelf shelf' folders folders' sink sink' how → BothTell shelf.files shelf'.files (OthersStay (made_in asked))
  others _ (answered how text h r) = right_both how text h.files
  others _ (shelf_fault name f l) = both_map _ (OthersStay (made_in asked)) shelf.files shelf'.files f.files (λ x y p. p.1)
  others _ (folder_fault name f l) = both_map (λ x y. y ≡ x) (OthersStay (made_in asked)) shelf.files shelf'.files f.files (λ x y e. same_others (made_in asked) x y e)
  others _ (sink_fault how text cut h e f l) = right_both how text h.files
  others _ (no_memory c d f l) = f
  others _ (sink_want how text cut h w l) = right_both how text h.files

  pub refused : (how : Status) → Outcome asked meeting shelf shelf' folders folders' sink sink' how → IsRefusal how → BothTell shelf.files shelf'.files (λ x y. y ≡ x)
  refused _ (answered how text h r) i = both_map (IsRight asked meeting how text) (λ x y. y ≡ x) shelf.files shelf'.files h.files (λ x y p. right_same asked meeting how text x y i p)
  refused _ (shelf_fault name f l) i = absurd i
  refused _ (folder_fault name f l) i = absurd i
  refused _ (sink_fault how text cut h e f l) i = absurd i
  refused _ (no_memory c d f l) i = absurd i
  refused _ (sink_want how text cut h w l) i = absurd i

  pub counted : (how : Status) → Outcome asked meeting shelf shelf' folders folders' sink sink' how → how ≢ status.Fault → (shelf'.faults ≡ shelf.faults) × (folders' ≡ folders)
  counted _ (answered how text h r) n = (h.faults, h.folders)
  counted _ (shelf_fault name f l) n = absurd (n refl)
  counted _ (folder_fault name f l) n = absurd (n refl)
  counted _ (sink_fault how text cut h e f l) n = absurd (n refl)
  counted _ (no_memory c d f l) n = (c, d)
  counted _ (sink_want how text cut h w l) n = (h.faults, h.folders)
