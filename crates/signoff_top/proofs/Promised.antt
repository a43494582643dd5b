-- From what the work left and what was told comes the case of the top call; from the case comes all else that it promises.
use Rattle.std.proofs.Common.{◌≡◌, ◌≢◌, ◌∙◌, true, false, sym, ap, refl, subst, inl, inr, ℕ, List, [], ◌∷◌, ◌++◌, Contains, ◌≤◌, arith}
use Rattle.std.specs.Prelude.{Bool, Option, Some, None, Result, Ok, Err, unwrap_or}
use Rattle.sg_io.specs.Files.{File, BothTell}
use Rattle.sg_io.specs.Faults.{Cause, Rises, Rose}
use Rattle.sg_io.specs.Put.{SinkTold}
use Rattle.sg_io.proofs.Tell.{both_told}
use Rattle.sg_model.specs.Machine.{Violation}
use Rattle.wave_out.specs.Files.{IsBegun}
use Rattle.run_report.specs.Spent.{spent_seen}
use Rattle.run_dump.specs.RunEnds.{violations_of}
use Rattle.run_words.specs.Words.{Asked, Writing, a_writing, asked_of, made_in, names_in}
use Rattle.signoff_top.specs.Answer.{Answer, IsAnswer, refusal_answer, status_of_run}
use Rattle.signoff_phases.specs.Telling.{fault_line, whole, till_fault, ShelfTold}
use Rattle.signoff_phases.specs.Phases.{Refusal, words, missing, netlist, save, sdf, stimulus, unwritten, status_of_refusal, refusal_line}
use Rattle.signoff_top.specs.Phases.{usage as own_usage}
use Rattle.signoff_top.specs.Promises.{IsRight, FitsWords, HasAnswer, FaultAt, at_netlist, at_sdf, at_stimulus, at_state, at_made, NamesFaultAt, LeavesUnfinished, Outcome, answered, shelf_fault, sink_fault, no_memory, sink_want, IsExact, IsStatusOf, KeepsBut, KeepsByAnswer, KeepsByWords, IsUsage}
use Rattle.signoff_phases.specs.Putting.{PutsAll, PutsLast}
use Rattle.signoff_phases.specs.Putting as putting
use Rattle.signoff_phases.specs.Status.{IsDecided, IsRunEnd, is_run_end}
use Rattle.signoff_phases.specs.Stops.{refusal_seen, IfFailed, SparesWords, StopWords, end_of_phase}
use Rattle.signoff_top.specs.Work.{LeavesDelays, WorkLeaves, TellsDone, TellsEnd, quiet_violations, settle_status, status_of_done, stop_violations, text_of_done}
use Rattle.signoff_phases.specs.Told.{Tells, TellsMade, TellsStop}
use Rattle.signoff_phases.specs.Told as telling
use Rattle.signoff_phases.specs.declared.status.Status.{Status}
use Rattle.signoff_phases.specs.declared.status.Status.TheVariants as status
use Rattle.signoff_phases.specs.declared.stop.Stop as code_stop
use Rattle.signoff_phases.specs.declared.stop.Stop.TheVariants as stop
use Rattle.signoff_phases.specs.declared.stop.Refusal as code_refusal
use Rattle.signoff_phases.specs.declared.stop.Refusal.TheVariants as refusal
use Rattle.signoff_top.specs.declared.work.Done as code_done
use Rattle.signoff_top.specs.declared.work.Done.TheVariants as done
use Rattle.signoff_top.proofs.OneAnswer.{one_status, one_made}
use Rattle.signoff_top.proofs.MadeNames.{made_to}
use Rattle.signoff_top.proofs.Making.{begun_after, begun_by_words, keeps_same, made_begun, same_by_words}
use Rattle.signoff_phases.proofs.Putting.{both_map}

right_unfinished : (ws : List (List ℕ)) (how : Status) (text : List ℕ) (old new : List File) → IsRight ws how text old new → LeavesUnfinished ws old new
right_unfinished ws how text old new r = inr (r.answer, r.right, made_begun r.answer.made old new r.files)

-- the status of a run, and of a refusal, is decided
run_decided : (spent : Option (ℕ × Option ℕ)) (violations : List Violation) → IsDecided (status_of_run spent violations)
run_decided None [] = tt
run_decided None (v ∷ vs) = tt
run_decided (Some s) violations = tt

run_no_usage : (spent : Option (ℕ × Option ℕ)) (violations : List Violation) → status_of_run spent violations ≢ status.Usage
run_no_usage None [] = λ e. let k : status.Clean ≡ status.Usage = e in cc
run_no_usage None (v ∷ vs) = λ e. let k : status.Violations ≡ status.Usage = e in cc
run_no_usage (Some s) violations = λ e. let k : status.Rounds ≡ status.Usage = e in cc

settle_decided : (cyclic : Bool) → IsDecided (settle_status cyclic)
settle_decided true = tt
settle_decided false = tt

settle_no_usage : (cyclic : Bool) → settle_status cyclic ≢ status.Usage
settle_no_usage true = λ e. let k : status.Violations ≡ status.Usage = e in cc
settle_no_usage false = λ e. let k : status.Clean ≡ status.Usage = e in cc

done_decided : (d : code_done.Done) → IsDecided (status_of_done d)
done_decided (done.Run d) = run_decided (spent_seen d.end.spent) (violations_of d.end)
done_decided (done.Stop d) = run_decided None (stop_violations d)
done_decided (done.Unsaved d) = tt
done_decided (done.Writing d) = tt
done_decided (done.Bounds d) = settle_decided d.cyclic
done_decided (done.Case d) = run_decided (spent_seen d.end.spent) (quiet_violations d.end)

done_no_usage : (d : code_done.Done) → status_of_done d ≢ status.Usage
done_no_usage (done.Run d) = run_no_usage (spent_seen d.end.spent) (violations_of d.end)
done_no_usage (done.Stop d) = run_no_usage None (stop_violations d)
done_no_usage (done.Unsaved d) = λ e. let k : status.Save ≡ status.Usage = e in cc
done_no_usage (done.Writing d) = λ e. let k : status.Clean ≡ status.Usage = e in cc
done_no_usage (done.Bounds d) = settle_no_usage d.cyclic
done_no_usage (done.Case d) = run_no_usage (spent_seen d.end.spent) (quiet_violations d.end)

refusal_decided : (r : Refusal) → IsDecided (status_of_refusal r)
refusal_decided words = tt
refusal_decided (missing name) = tt
refusal_decided (netlist name n kind) = tt
refusal_decided (sdf name n kind) = tt
refusal_decided (stimulus name n kind) = tt
refusal_decided (save name n kind) = tt
refusal_decided (unwritten kind path) = tt

done_fits : (o : Option Asked) (P : Asked → code_done.Done → Type 0) (d : code_done.Done) (text : List ℕ) → StopWords o P (Ok d) → FitsWords o (status_of_done d) text
done_fits None P d text h = absurd h
done_fits (Some asked) P d text h = done_no_usage d

spares_fits : (r : code_refusal.Refusal) → SparesWords (stop.Refused r) → status_of_refusal (refusal_seen r) ≢ status.Usage
spares_fits refusal.Words h = absurd h
spares_fits (refusal.Missing name) h = λ e. let k : status.Missing ≡ status.Usage = e in cc
spares_fits (refusal.Netlist name line kind) h = λ e. let k : status.Netlist ≡ status.Usage = e in cc
spares_fits (refusal.Sdf name line fault) h = λ e. let k : status.Sdf ≡ status.Usage = e in cc
spares_fits (refusal.Stimulus name line kind) h = λ e. let k : status.Stimulus ≡ status.Usage = e in cc
spares_fits (refusal.Save name line kind) h = λ e. let k : status.Save ≡ status.Usage = e in cc
spares_fits (refusal.Unwritten kind path) h = λ e. let k : status.Unwritable ≡ status.Usage = e in cc
spares_fits (refusal.Wave name line kind) h = λ e. let k : status.Stimulus ≡ status.Usage = e in cc

refused_is : (r s : code_refusal.Refusal) → stop.Refused r ≡ stop.Refused s → r ≡ s
refused_is r s e = cc

refused_no_want : (r : code_refusal.Refusal) → stop.Refused r ≡ stop.NoMemory → ⊥
refused_no_want r h = cc

refusal_fits : (o : Option Asked) (P : Asked → code_done.Done → Type 0) (r : code_refusal.Refusal) → StopWords o P (Err (stop.Refused r))
    → FitsWords o (status_of_refusal (refusal_seen r)) (refusal_line own_usage (refusal_seen r))
refusal_fits None P r (inl h) = let e : r ≡ refusal.Words = refused_is r refusal.Words h in (ap (λ x. status_of_refusal (refusal_seen x)) e, ap (λ x. refusal_line own_usage (refusal_seen x)) e)
refusal_fits None P r (inr h) = absurd (refused_no_want r h)
refusal_fits (Some asked) P r h = spares_fits r h

-- a refusal is a right answer
refused_right : (ws : List (List ℕ)) (r : code_refusal.Refusal) (old new : List File) → WorkLeaves ws (Err (stop.Refused r)) old new
    → IsRight ws (status_of_refusal (refusal_seen r)) (refusal_line own_usage (refusal_seen r)) old new
refused_right ws r old new h = record { answer = refusal_answer (refusal_seen r); right = h.0; status = refl; report = refl; files = h.1 }

-- an answer, and how its report was told, which there was memory for
made_case : (ws : List (List ℕ)) (planned how : Status) (text : List ℕ) (shelf shelf' : ShelfTold) (sink sink' : SinkTold)
    → HasAnswer ws planned text shelf shelf' → TellsMade text planned sink sink' how → Outcome ws shelf shelf' sink sink' how
made_case ws planned _ text shelf shelf' sink sink' h (telling.told r) = answered planned text h r
made_case ws planned _ text shelf shelf' sink sink' h (telling.fault cut e f l) = sink_fault planned text cut h e f l
made_case ws planned _ text shelf shelf' sink sink' h (telling.want cut w l) = sink_want planned text cut h w l

-- where a file of delays is asked for, it wasn't begun, or nothing was written to it
abbrev BeginsDelays : List (List ℕ) → ShelfTold → ShelfTold → Type 0
BeginsDelays ws shelf shelf' = (w : Writing) → asked_of ws ≡ Some (a_writing w) → BothTell shelf.files shelf'.files (IsBegun w.out)

-- the same where there may have been none
told_case : (ws : List (List ℕ)) (planned how : Status) (text : List ℕ) (shelf shelf' : ShelfTold) (sink sink' : SinkTold)
    → HasAnswer ws planned text shelf shelf' → BeginsDelays ws shelf shelf' → Tells text planned sink sink' how → Outcome ws shelf shelf' sink sink' how
told_case ws planned _ text shelf shelf' sink sink' h b (telling.made how t) = made_case ws planned how text shelf shelf' sink sink' h t
told_case ws planned _ text shelf shelf' sink sink' h b (telling.no_memory l) =
    no_memory h.faults (both_map (IsRight ws planned text) (LeavesUnfinished ws) shelf.files shelf'.files h.files (λ x y r. right_unfinished ws planned text x y r)) b l

-- what was done, and how it was told
module _ (ws : List (List ℕ)) (how : Status) (shelf shelf' : ShelfTold) (sink sink' : SinkTold) where
  pub done_case : (d : code_done.Done) → HasAnswer ws (status_of_done d) (text_of_done d) shelf shelf' → ((w : Writing) → asked_of ws ≡ Some (a_writing w) → LeavesDelays w.out (Ok d) shelf.files shelf'.files)
      → TellsDone d sink sink' how → Outcome ws shelf shelf' sink sink' how
  done_case (done.Run d) h b t = told_case ws _ how _ shelf shelf' sink sink' h (λ w e. absurd (b w e)) t
  done_case (done.Stop d) h b t = told_case ws _ how _ shelf shelf' sink sink' h (λ w e. absurd (b w e)) t
  done_case (done.Unsaved d) h b t = told_case ws _ how _ shelf shelf' sink sink' h (λ w e. absurd (b w e)) t
  done_case (done.Writing d) h b t = made_case ws _ how _ shelf shelf' sink sink' h t
  done_case (done.Bounds d) h b t = told_case ws _ how _ shelf shelf' sink sink' h (λ w e. absurd (b w e)) t
  done_case (done.Case d) h b t = told_case ws _ how _ shelf shelf' sink sink' h (λ w e. absurd (b w e)) t

failed_case : (ws : List (List ℕ)) (how : Status) (shelf shelf' : ShelfTold) (sink sink' : SinkTold)
    → Rises shelf.faults shelf'.faults → NamesFaultAt ws shelf.files shelf'.files shelf'.last → TellsStop own_usage shelf'.last stop.Failed sink sink' how → Outcome ws shelf shelf' sink sink' how
failed_case ws how shelf shelf' sink sink' c n t =
    subst (Outcome ws shelf shelf' sink sink') (sym t.0) (shelf_fault c n (subst (λ o. PutsLast (fault_line (unwrap_or o [])) sink sink') n.told t.1))

pub outcome : (ws : List (List ℕ)) (end : Result code_done.Done code_stop.Stop) (how : Status) (shelf shelf' : ShelfTold) (sink sink' : SinkTold)
    → BothTell shelf.files shelf'.files (WorkLeaves ws end) → Cause shelf.faults shelf'.faults (end_of_phase end) → IfFailed (NamesFaultAt ws shelf.files shelf'.files shelf'.last) end
    → StopWords (asked_of ws) (λ _ _. Unit {0}) end → ((w : Writing) → asked_of ws ≡ Some (a_writing w) → LeavesDelays w.out end shelf.files shelf'.files) → TellsEnd shelf'.last end sink sink' how
    → Outcome ws shelf shelf' sink sink' how
outcome ws (Ok d) how shelf shelf' sink sink' l c n w b t =
    done_case ws how shelf shelf' sink sink' d (record {
      decided = done_decided d;
      words = done_fits (asked_of ws) (λ _ _. Unit {0}) d (text_of_done d) w;
      faults = c;
      files = l;
    }) b t
outcome ws (Err (stop.Refused r)) how shelf shelf' sink sink' l c n w b t =
    let planned = status_of_refusal (refusal_seen r) in
    let text = refusal_line own_usage (refusal_seen r) in
    told_case ws planned how text shelf shelf' sink sink' (record {
      decided = refusal_decided (refusal_seen r);
      words = refusal_fits (asked_of ws) (λ _ _. Unit {0}) r w;
      faults = c;
      files = both_map (WorkLeaves ws (Err (stop.Refused r))) (IsRight ws planned text) shelf.files shelf'.files l (λ x y h. refused_right ws r x y h);
    }) (λ v e. both_map (WorkLeaves ws (Err (stop.Refused r))) (IsBegun v.out) shelf.files shelf'.files l (λ x y h. inl h.1)) t
outcome ws (Err stop.Failed) how shelf shelf' sink sink' l c n w b t = failed_case ws how shelf shelf' sink sink' c n t
outcome ws (Err stop.NoMemory) how shelf shelf' sink sink' l c n w b t = subst (Outcome ws shelf shelf' sink sink') (sym t.0) (no_memory c l b t.1)

unfinished_by_answer : (ws : List (List ℕ)) (old new : List File) → LeavesUnfinished ws old new → KeepsByAnswer ws old new
unfinished_by_answer ws old new (inl same) = λ answer right. subst (KeepsBut answer.made old) (sym same) (keeps_same answer.made old)
unfinished_by_answer ws old new (inr (begun, its, left)) = λ answer right. subst (λ m. KeepsBut m old new) (one_made ws old begun answer its right) left

unfinished_by_words : (ws : List (List ℕ)) (old new : List File) → LeavesUnfinished ws old new → KeepsByWords (made_in (asked_of ws)) old new
unfinished_by_words ws old new (inl same) = same_by_words (made_in (asked_of ws)) old new same
unfinished_by_words ws old new (inr (begun, its, left)) = begun_by_words (made_in (asked_of ws)) begun.made old new (made_to (asked_of ws) old begun its) left

fault_unfinished : (ws : List (List ℕ)) (old new : List File) (name : List ℕ) → FaultAt ws old new name → LeavesUnfinished ws old new
fault_unfinished ws old new _ (at_netlist asked d before name after texts e is split read same) = inl same
fault_unfinished ws old new _ (at_sdf asked d name circuit e is o c same) = inl same
fault_unfinished ws old new _ (at_stimulus asked c annotated e is o same) = inl same
fault_unfinished ws old new _ (at_state c state task e o same) = inl same
fault_unfinished ws old new _ (at_made answer before made after mid right e were left) = inr (answer, right, subst (λ m. KeepsBut m old new) (sym e) (begun_after before made after old mid new were left))

fits_usage : (o : Option Asked) (how : Status) (text : List ℕ) → FitsWords o how text → IsUsage o how
fits_usage None how text h = inl h.0
fits_usage (Some asked) how text h = h

name_usage : (o : Option Asked) (name : List ℕ) → Contains (names_in o) name → IsUsage o status.Fault
name_usage None name (k, l, e) = absurd (omega arith)
name_usage (Some asked) name h = λ e. let k : status.Fault ≡ status.Usage = e in cc

end_usage : (o : Option Asked) (how : Status) (text : List ℕ) → FitsWords o how text → IsRunEnd how → IsUsage o status.Fault
end_usage None how text h e = let k : false ≡ true = sym (ap is_run_end h.0) ∙ e in absurd (cc)
end_usage (Some asked) how text h e = λ k. let q : status.Fault ≡ status.Usage = k in cc

want_usage : (o : Option Asked) → IsUsage o status.NoMemory
want_usage None = inr refl
want_usage (Some asked) = λ e. let k : status.NoMemory ≡ status.Usage = e in cc

last_later : (text : List ℕ) (old new : SinkTold) → PutsLast text old new → old.faults ≤ new.faults
last_later text old new (putting.whole p) = let e : new.faults ≡ old.faults = p.faults in omega arith
last_later text old new (putting.till_fault p) = p.faults.later
last_later text old new (putting.till_want p) = let e : new.faults ≡ old.faults = p.faults in omega arith

no_run_end : (how : Status) → is_run_end how ≡ false → IsRunEnd how → ⊥
no_run_end how f e = let k : false ≡ true = sym f ∙ e in cc

rose_on : (a b c : ℕ) → Rises a b → b ≤ c → Rose a c
rose_on a b c h l = let r : Rose a b = h.rose in omega arith

-- What follows from the case.
module _ (ws : List (List ℕ)) (shelf shelf' : ShelfTold) (sink sink' : SinkTold) where
  unfinished : (how : Status) → Outcome ws shelf shelf' sink sink' how → BothTell shelf.files shelf'.files (LeavesUnfinished ws)
  unfinished _ (answered how text h r) = both_map (IsRight ws how text) (LeavesUnfinished ws) shelf.files shelf'.files h.files (λ x y q. right_unfinished ws how text x y q)
  unfinished _ (shelf_fault c f l) = both_map (λ x y. FaultAt ws x y f.name) (LeavesUnfinished ws) shelf.files shelf'.files f.place (λ x y q. fault_unfinished ws x y f.name q)
  unfinished _ (sink_fault how text cut h e f l) = both_map (IsRight ws how text) (LeavesUnfinished ws) shelf.files shelf'.files h.files (λ x y q. right_unfinished ws how text x y q)
  unfinished _ (no_memory c f b l) = f
  unfinished _ (sink_want how text cut h w l) = both_map (IsRight ws how text) (LeavesUnfinished ws) shelf.files shelf'.files h.files (λ x y q. right_unfinished ws how text x y q)

  pub kept : (how : Status) → Outcome ws shelf shelf' sink sink' how → BothTell shelf.files shelf'.files (KeepsByAnswer ws)
  kept how h = both_map (LeavesUnfinished ws) (KeepsByAnswer ws) shelf.files shelf'.files (unfinished how h) (λ x y u. unfinished_by_answer ws x y u)

  pub others : (how : Status) → Outcome ws shelf shelf' sink sink' how → BothTell shelf.files shelf'.files (KeepsByWords (made_in (asked_of ws)))
  others how h = both_map (LeavesUnfinished ws) (KeepsByWords (made_in (asked_of ws))) shelf.files shelf'.files (unfinished how h) (λ x y u. unfinished_by_words ws x y u)

  pub answer : (how : Status) → Outcome ws shelf shelf' sink sink' how → IsDecided how → (text : List ℕ) × BothTell shelf.files shelf'.files (IsRight ws how text)
  answer _ (answered how text h r) d = (text, h.files)
  answer _ (shelf_fault c f l) d = absurd d
  answer _ (sink_fault how text cut h e f l) d = absurd d
  answer _ (no_memory c f b l) d = absurd d
  answer _ (sink_want how text cut h w l) d = absurd d

  pub exact : (how : Status) → Outcome ws shelf shelf' sink sink' how → (files : List File) (answer : Answer) → shelf.files ≡ Some files → IsAnswer ws files answer → IsStatusOf answer how
  exact _ (answered how text h r) files answer k right =
      let b = both_told (IsRight ws how text) shelf.files shelf'.files files h.files k in inl (b.2.status ∙ one_status ws files b.2.answer answer b.2.right right)
  exact _ (shelf_fault c f l) files answer k right = inr (inl refl)
  exact _ (sink_fault how text cut h e f l) files answer k right = inr (inl refl)
  exact _ (no_memory c f b l) files answer k right = inr (inr refl)
  exact _ (sink_want how text cut h w l) files answer k right = inr (inr refl)

  pub usage : (how : Status) → Outcome ws shelf shelf' sink sink' how → IsUsage (asked_of ws) how
  usage _ (answered how text h r) = fits_usage (asked_of ws) how text h.words
  usage _ (shelf_fault c f l) = name_usage (asked_of ws) f.name f.among
  usage _ (sink_fault how text cut h e f l) = end_usage (asked_of ws) how text h.words e
  usage _ (no_memory c f b l) = want_usage (asked_of ws)
  usage _ (sink_want how text cut h w l) = want_usage (asked_of ws)

  pub counted : (how : Status) → Outcome ws shelf shelf' sink sink' how → how ≢ status.Fault → shelf'.faults ≡ shelf.faults
  counted _ (answered how text h r) n = h.faults
  counted _ (shelf_fault c f l) n = absurd (n refl)
  counted _ (sink_fault how text cut h e f l) n = h.faults
  counted _ (no_memory c f b l) n = c
  counted _ (sink_want how text cut h w l) n = h.faults

  pub run_end : (how : Status) → Outcome ws shelf shelf' sink sink' how → IsRunEnd how → sink'.faults ≡ sink.faults
  run_end _ (answered how text h (whole p)) e = p.faults
  run_end _ (answered how text h (till_fault n p)) e = absurd (n e)
  run_end _ (shelf_fault c f l) e = absurd (no_run_end status.Fault refl e)
  run_end _ (sink_fault how text cut h k f l) e = absurd (no_run_end status.Fault refl e)
  run_end _ (no_memory c f b l) e = absurd (no_run_end status.NoMemory refl e)
  run_end _ (sink_want how text cut h w l) e = absurd (no_run_end status.NoMemory refl e)

  right_exact : (how : Status) (text : List ℕ) (files : List File) (held : List ℕ) → BothTell shelf.files shelf'.files (IsRight ws how text) → PutsAll text sink sink'
      → shelf.files ≡ Some files → sink.contents ≡ Some held → IsExact ws how files held shelf'.files sink'.contents
  right_exact how text files held h p e k =
      let b = both_told (IsRight ws how text) shelf.files shelf'.files files h e in
      let s = both_told (λ (x y : List ℕ). y ≡ x ++ text) sink.contents sink'.contents held p.contents k in
      let put : s.0 ≡ held ++ text = s.2 in
      record {
        answer = b.2.answer;
        right = b.2.right;
        status = b.2.status;
        after = b.0;
        told = b.1;
        made = b.2.files;
        report = s.1 ∙ ap Some (put ∙ ap (λ t. held ++ t) b.2.report);
      }

  pub headline : (how : Status) → Outcome ws shelf shelf' sink sink' how → (files : List File) (held : List ℕ) → shelf.files ≡ Some files → sink.contents ≡ Some held
      → how ≢ status.NoMemory → (Rose shelf.faults shelf'.faults → ⊥) → (Rose sink.faults sink'.faults → ⊥) → IsExact ws how files held shelf'.files sink'.contents
  headline _ (answered how text h (whole p)) files held e k m a b = right_exact how text files held h.files p e k
  headline _ (answered how text h (till_fault n p)) files held e k m a b = absurd (b p.faults.rose)
  headline _ (shelf_fault c f l) files held e k m a b = absurd (a c.rose)
  headline _ (sink_fault how text cut h r f l) files held e k m a b = absurd (b (rose_on sink.faults cut.faults sink'.faults f.faults (last_later _ cut sink' l)))
  headline _ (no_memory c f u l) files held e k m a b = absurd (m refl)
  headline _ (sink_want how text cut h w l) files held e k m a b = absurd (m refl)
