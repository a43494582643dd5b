-- What a history keeps of a run is what the definition's run tells.
use Rattle.std.proofs.Common.{◌≡◌, ◌∙◌, sym, ap, refl, subst, ℕ, suc, List, [], ◌∷◌, ◌++◌, map, flat_map, arith}
use Rattle.std.proofs.lemmas.Grind.{flat_map-append}
use Rattle.std.proofs.lemmas.List.{append-nil}
use Rattle.std.specs.Prelude.{Option, Some, None, Result, Ok, Err}
use Rattle.sg_logic.specs.declared.values.Value.{Value}
use Rattle.sg_model.specs.Machine.{Violation}
use Rattle.sg_model.specs.Run.{Finished, lasts}
use Rattle.sg_model.specs.Time.{Run}
use Rattle.sim_times.specs.Runs.{HasEnded, Setting, AllCalls, CallsFor, run_for}
use Rattle.sim_times.specs.Watching.{AreCalls, AreTruthful, Call, Got, end_call}
use Rattle.sim_times.specs.declared.runs.SimEnd.{SimEnd}
use Rattle.sim_times.specs.declared.runs.SimEnd.TheVariants.{RoundsSpent, WatchFailed, NoMemory}
use Rattle.sg_circuit.specs.Circuit.{Circuit}
use Rattle.wave_out.proofs.DumpLaws.{spent_whole, whole_run}
use Rattle.wave_out.proofs.RunLaws.{spent_run}
use Rattle.why_history.specs.Events.{AreEvents, events, events_of}
use Rattle.why_history.specs.Ends.{IsEnd, found_in}
use Rattle.why_causes.specs.declared.events.Event.{Event}
use Rattle.why_history.specs.declared.watched.Spent as code_spent

-- one call more
pub events_more : (calls : List Call) (call : Call) (found new : List Event) → found ≡ events calls → new ≡ found ++ events_of call → events (calls ++ call ∷ []) ≡ new
events_more calls call found new e is =
    flat_map-append events_of calls (call ∷ [])
    ∙ (ap (λ es. events calls ++ es) (append-nil (events_of call))
    ∙ (ap (λ es. es ++ events_of call) (sym e) ∙ sym is))

-- the end changes nothing
events_ended : (calls made : List Call) (time : ℕ) (values : List Value) → made ≡ calls ++ end_call time values ∷ [] → events made ≡ events calls
events_ended calls made time values e = ap events e ∙ (flat_map-append events_of calls (end_call time values ∷ []) ∙ append-nil (events calls))

-- up to a spent time, the run has the snapshots of the times before it
spent_snapshots : (s : Setting) (spent : ℕ × Option ℕ) → (run_for s (suc s.end)).spent ≡ Some spent → (run_for s spent.0).run ≡ (run_for s (suc s.end)).run
spent_snapshots s spent some =
    let cut = spent_run (suc s.end) s.bound s.machine s.sets 0 _ spent some in
    let same : spent.0 ≡ cut.times = omega (arith, cut.at) in
    ap (λ n. (run_for s n).run) same ∙ sym cut.is

module _ {W S : Type 0} (kept : W → List Event) (broken : W → S → List Call → Type 0) (w w' : W) (a b : S) (circuit : Circuit) (s : Setting) (start : kept w ≡ []) where
  abbrev Stands : W → S → List Call → Type 0
  Stands = λ w s calls. kept w ≡ events calls

  -- what was kept of calls that were told
  told : (made : List Call) → Got Stands w w' a b made → AreTruthful made → kept w' ≡ events made
  told made got truth = got.each [] start truth

  whole : (made : List Call) → (run_for s (suc s.end)).spent ≡ None → AllCalls s made → Got Stands w w' a b made → AreEvents s.first.values (run_for s (suc s.end)) (kept w')
  whole made none all got = record {
    calls = all.calls;
    are_calls = all.are;
    are_theirs = told made got (whole_run circuit s made none all).0 ∙ events_ended all.calls made s.end _ all.all;
  }

  part : (spent : ℕ × Option ℕ) (made : List Call) → (run_for s (suc s.end)).spent ≡ Some spent → CallsFor s spent.0 made → Got Stands w w' a b made → AreEvents s.first.values (run_for s (suc s.end)) (kept w')
  part spent made some are got = record {
    calls = made;
    are_calls = subst (λ (r : Run). AreCalls s.first.values (lasts r.snapshots) made) (spent_snapshots s spent some) are;
    are_theirs = told made got (spent_whole circuit s spent made some are).0;
  }

  -- by how the run ended
  pub kept_are : (found : List Violation) (changed taken : ℕ) (end : Result (Unit {0}) SimEnd) (spent : Option code_spent.Spent) → HasEnded Stands broken w w' a b s found changed taken end → IsEnd spent end → AreEvents s.first.values (run_for s (suc s.end)) (kept w')
  kept_are found changed taken (Ok u) spent (times, _, (made, all, got)) e = whole made times.unspent all got
  kept_are found changed taken (Err (RoundsSpent time net)) spent (some, _, _, (made, are, got)) e = part (time, Some net) made some are got
  kept_are found changed taken (Err WatchFailed) spent h e = absurd e
  kept_are found changed taken (Err NoMemory) spent h e = absurd e

  pub spent_is : (found : List Violation) (changed taken : ℕ) (end : Result (Unit {0}) SimEnd) (spent : Option code_spent.Spent) → HasEnded Stands broken w w' a b s found changed taken end → IsEnd spent end → found_in spent ≡ (run_for s (suc s.end)).spent
  spent_is found changed taken (Ok u) spent (times, _, _) e = ap found_in e ∙ sym times.unspent
  spent_is found changed taken (Err (RoundsSpent time net)) spent (some, _, _, _) e = ap found_in e ∙ sym some
  spent_is found changed taken (Err WatchFailed) spent h e = absurd e
  spent_is found changed taken (Err NoMemory) spent h e = absurd e

  pub violations_are : (found : List Violation) (changed taken : ℕ) (end : Result (Unit {0}) SimEnd) (spent : Option code_spent.Spent) → HasEnded Stands broken w w' a b s found changed taken end → IsEnd spent end → found ≡ (run_for s (suc s.end)).run.violations
  violations_are found changed taken (Ok u) spent (times, _, _) e = times.violations
  violations_are found changed taken (Err (RoundsSpent time net)) spent (some, times, _, _) e = times.violations ∙ ap (λ (r : Run). r.violations) (spent_snapshots s (time, Some net) some)
  violations_are found changed taken (Err WatchFailed) spent h e = absurd e
  violations_are found changed taken (Err NoMemory) spent h e = absurd e
