-- The text of a run's calls is that of its last snapshots.
use Rattle.std.proofs.Common.{◌≡◌, ◌∙◌, sym, ap, refl, subst, ℕ, suc, ◌+◌, ◌-◌, ◌≤◌, List, [], ◌∷◌, ◌++◌, length, arith, append_assoc}
use Rattle.std.proofs.lemmas.List.{append-nil}
use Rattle.std.proofs.lemmas.List.Elements.{All-head, All-tail}
use Rattle.std.specs.Prelude.{◌==◌, ◌&&◌, Bool, true, false, not, if◌then◌else◌, All, Option, Some, None}
use Rattle.sg_logic.specs.declared.values.Value.{Value}
use Rattle.sg_logic.specs.Values.{is_same}
use Rattle.sg_model.specs.Values.{are_same}
use Rattle.sg_model.specs.Machine.{Snapshot}
use Rattle.sg_model.specs.Values.{value_at}
use Rattle.sg_model.specs.Machine.{State}
use Rattle.sg_model.specs.Time.{Run}
use Rattle.sg_model.specs.Quiet.{IsSeen}
use Rattle.sg_model.specs.Run.{Finished, lasts, lasts_before}
use Rattle.sg_model.proofs.PlacingSteps.{same-self}
use Rattle.sim_times.specs.Runs.{Setting, AllCalls, CallsFor, run_for, start_of}
use Rattle.sg_model.proofs.SnapshotLaws.{Extends}
use Rattle.wave_out.proofs.RunLaws.{IsLong, extends, long_lasts, long_times, seen_run, spent_run}
use Rattle.sg_model.proofs.PlacedLaws.{same-true}
use Rattle.sg_circuit.specs.Circuit.{Circuit, Variable}
use Rattle.sim_times.specs.Watching.{AreCalls, none_yet, at_zero, same_again, AreTruthful, AreTruthfulAfter, Call, IsCall, AreDifferences, NetChange, end_call}
use Rattle.sim_times.specs.Watching as watching
use Rattle.sim_times.proofs.CallLaws.{changed_none}
use Rattle.wave_out.specs.Scopes.{variables_of}
use Rattle.wave_out.specs.Vcd.{Dump, any_variable_differs, dump, dump_text, dump_with, ending, end_line, header, later_block, first_block, vcd_begun, vcd_body, vcd_text, time_line}
use Rattle.wave_out.specs.Writing.{dump_after, later, snapshot_of, text_after, with_call}
use Rattle.wave_out.proofs.CallLaws.{Agree, agree_none, after-append, any_agree_none}

-- lists that are the same
both : (a b : Bool) → (a && b) ≡ true → (a ≡ true) × (b ≡ true)
both true b h = (refl, h)
both false b h = absurd (cc)

same_values : (vs ws : List Value) → are_same vs ws ≡ true → vs ≡ ws
same_values [] [] h = refl
same_values [] (w ∷ ws) h = absurd (cc)
same_values (v ∷ vs) [] h = absurd (cc)
same_values (v ∷ vs) (w ∷ ws) h =
    let p = both (is_same v w) (are_same vs ws) h in
    ap (λ x. x ∷ vs) (same-true v w p.0) ∙ ap (λ xs. w ∷ xs) (same_values vs ws p.1)

-- one time more in the text
pub dump-more : (xs : List Variable) (s : Snapshot) (older : List Snapshot) → dump xs (s ∷ older) ≡ dump_with xs s (dump xs older)
unfolding dump
dump-more xs s older = refl

-- what was written last agrees with the last snapshot
pub record Shows (xs : List Variable) (d : Option Dump) (values : List Value) : Type 0 where
  pub dump : Dump
  pub is : d ≡ Some dump
  pub agree : Agree xs dump.values values

shows_later : (xs : List Variable) (d : Dump) (s : Snapshot) (t : List ℕ) (b : Bool) → any_variable_differs xs d.values s.values ≡ b
    → Shows xs (if b then Some (record { text = t; time = s.time; values = s.values }) else Some d) s.values
shows_later xs d s t true e = record { dump = record { text = t; time = s.time; values = s.values }; is = refl; agree = λ i x l. refl }
shows_later xs d s t false e = record { dump = d; is = refl; agree = agree_none xs d.values s.values e }

shows_more : (xs : List Variable) (s : Snapshot) (o : Option Dump) → Shows xs (dump_with xs s o) s.values
shows_more xs s None = record { dump = record { text = first_block xs s; time = s.time; values = s.values }; is = refl; agree = λ i x l. refl }
shows_more xs s (Some d) = shows_later xs d s (d.text ++ later_block xs d.values s) (any_variable_differs xs d.values s.values) refl

pub shows : (xs : List Variable) (s : Snapshot) (older : List Snapshot) → Shows xs (dump xs (s ∷ older)) s.values
shows xs s older = subst (λ o. Shows xs o s.values) (sym (dump-more xs s older)) (shows_more xs s (dump xs older))

-- a time with the values of the time before adds nothing
again : (xs : List Variable) (s : Snapshot) (d : Dump) (values : List Value) → Agree xs d.values values → s.values ≡ values → dump_with xs s (Some d) ≡ Some d
again xs s d values agree e =
    ap (λ b. if b then Some (record { text = d.text ++ later_block xs d.values s; time = s.time; values = s.values }) else Some d)
    (any_agree_none xs d.values s.values (subst (λ vs. Agree xs d.values vs) (sym e) agree))

pub dump-again : (xs : List Variable) (s t : Snapshot) (older : List Snapshot) → s.values ≡ t.values → dump xs (s ∷ t ∷ older) ≡ dump xs (t ∷ older)
dump-again xs s t older e =
    let h = shows xs t older in
    dump-more xs s (t ∷ older) ∙ (ap (dump_with xs s) h.is ∙ (again xs s h.dump t.values h.agree e ∙ sym h.is))

-- a call tells its snapshot
call_snapshot : (before : List Value) (s : Snapshot) (c : Call) → IsCall before s c → snapshot_of c ≡ s
call_snapshot before s c h = ap (λ t. record { time = t; values = c.values }) h.time ∙ ap (λ vs. record { time = s.time; values = vs }) h.values

-- a call with changes is a time
later_is : (xs : List Variable) (c : Call) (changed : List NetChange) (d : Dump) (s t : Snapshot) → length s.values ≡ length t.values → are_same s.values t.values ≡ false → AreDifferences t.values s.values changed → snapshot_of c ≡ s
    → later xs c changed d ≡ dump_with xs s (Some d)
later_is xs c [] d s t long differ h e = let f : are_same s.values t.values ≡ true = changed_none t.values s.values long h in absurd (cc)
later_is xs c (n ∷ ns) d s t long differ h e = ap (λ x. dump_with xs x (Some d)) e

-- one truthful call more
more_after : (before : List Value) (cs : List Call) (e c : Call) → AreTruthfulAfter before (cs ++ e ∷ []) → AreDifferences e.values c.values c.changed → AreTruthfulAfter before (cs ++ e ∷ [] ++ c ∷ [])
more_after before [] e c h d = (h.0, (d, tt))
more_after before (x ∷ xs) e c h d = (h.0, more_after x.values xs e c h.1 d)

truthful_more : (cs : List Call) (e c : Call) → AreTruthful (cs ++ e ∷ []) → AreDifferences e.values c.values c.changed → AreTruthful (cs ++ e ∷ [] ++ c ∷ [])
truthful_more [] e c h d = (d, tt)
truthful_more (x ∷ xs) e c h d = more_after x.values xs e c h d

-- the calls of a run's times, by the last snapshot and those before it
record Told (xs : List Variable) (s : Snapshot) (older : List Snapshot) (calls : List Call) : Type 0 where
  text : dump_after xs None calls ≡ dump xs (s ∷ older)
  truth : AreTruthful calls
  front : List Call
  last : Call
  is : calls ≡ front ++ last ∷ []
  values : last.values ≡ s.values

abbrev ToldOf : List Variable → List Snapshot → List Call → Type 0
ToldOf xs [] calls = calls ≡ []
ToldOf xs (s ∷ older) calls = Told xs s older calls

told_zero : (xs : List Variable) (first : List Value) (s : Snapshot) (c : Call) → IsCall first s c → Told xs s [] (c ∷ [])
unfolding dump
told_zero xs first s c h = record { text = ap (λ x. dump_with xs x None) (call_snapshot first s c h); truth = tt; front = []; last = c; is = refl; values = h.values }

told_again : (xs : List Variable) (s t : Snapshot) (older : List Snapshot) (calls : List Call) → are_same s.values t.values ≡ true → Told xs t older calls → Told xs s (t ∷ older) calls
told_again xs s t older calls same h =
    let e : s.values ≡ t.values = same_values s.values t.values same in
    record { text = h.text ∙ sym (dump-again xs s t older e); truth = h.truth; front = h.front; last = h.last; is = h.is; values = h.values ∙ sym e }

truth_of : (before : List Value) (s : Snapshot) (c : Call) → IsCall before s c → AreDifferences before c.values c.changed
truth_of before s c h = subst (λ vs. AreDifferences before vs c.changed) (sym h.values) h.changed

told_more : (xs : List Variable) (s t : Snapshot) (older : List Snapshot) (calls : List Call) (c : Call) → length s.values ≡ length t.values → are_same s.values t.values ≡ false → Told xs t older calls → IsCall t.values s c
    → Told xs s (t ∷ older) (calls ++ c ∷ [])
told_more xs s t older calls c long differ h call =
    let v = shows xs t older in
    record {
      text = after-append xs None calls c
          ∙ (ap (with_call xs c) (h.text ∙ v.is)
          ∙ (later_is xs c c.changed v.dump s t long differ call.changed (call_snapshot t.values s c call)
          ∙ (ap (dump_with xs s) (sym v.is) ∙ sym (dump-more xs s (t ∷ older)))));
      truth = subst (λ cs. AreTruthful (cs ++ c ∷ [])) (sym h.is)
          (truthful_more h.front h.last c (subst AreTruthful h.is h.truth) (subst (λ vs. AreDifferences vs c.values c.changed) (sym h.values) (truth_of t.values s c call)));
      front = calls;
      last = c;
      is = refl;
      values = call.values;
    }

told : (xs : List Variable) (n : ℕ) (first : List Value) (seen : List Snapshot) (calls : List Call) → All (λ s. length s.values ≡ n) seen → AreCalls first seen calls → ToldOf xs seen calls
told xs n first seen calls h none_yet = refl
told xs n first seen calls h (at_zero s c is) = told_zero xs first s c is
told xs n first seen calls h (same_again s t older cs same more) =
    told_again xs s t older cs same (told xs n first (t ∷ older) cs (All-tail (λ (x : Snapshot). length x.values ≡ n) s (t ∷ older) h) more)
told xs n first seen calls h (watching.one_more s t older cs c differ more is) =
    let rest : All (λ (x : Snapshot). length x.values ≡ n) (t ∷ older) = All-tail (λ (x : Snapshot). length x.values ≡ n) s (t ∷ older) h in
    told_more xs s t older cs c (All-head (λ (x : Snapshot). length x.values ≡ n) s (t ∷ older) h ∙ sym (All-head (λ (x : Snapshot). length x.values ≡ n) t older rest)) differ
    (told xs n first (t ∷ older) cs rest more) is

-- the end, after calls that wrote something
ended_text : (d : Dump) (end : ℕ) (b : Bool) → (if b then d else record d { text = d.text ++ time_line end; time = end }).text ≡ d.text ++ (if b then [] else time_line end)
ended_text d end true = sym (append-nil d.text)
ended_text d end false = refl

end_is : (xs : List Variable) (end : ℕ) (values : List Value) (o : Option Dump) (d : Dump) → o ≡ Some d → dump_text (with_call xs (end_call end values) o) ≡ dump_text o ++ end_line end o
end_is xs end values o d is =
    ap (λ x. dump_text (with_call xs (end_call end values) x)) is ∙ (ended_text d end (d.time == end) ∙ ap (λ x. dump_text x ++ end_line end x) (sym is))

no_change : (values : List Value) → AreDifferences values values []
no_change values = record { nets = record { each = λ k. ap (λ b. if b then 1 else 0) (sym (ap not (same-self (value_at values k) (value_at values k) refl))) }; values = λ i d l. absurd (omega arith) }

pub whole_calls : (circuit : Circuit) (n end : ℕ) (first : List Value) (f : Finished) (calls made : List Call) (seen : IsSeen f.run) → All (λ s. length s.values ≡ n) (lasts f.run.snapshots) → f.spent ≡ None
    → AreCalls first (lasts f.run.snapshots) calls → made ≡ calls ++ end_call end f.run.state.values ∷ [] → AreTruthful made × (text_after circuit made ≡ vcd_text circuit end f)
unfolding vcd_text
whole_calls circuit n end first f calls made seen long none are all =
    let xs = variables_of circuit in
    let s : Snapshot = record { time = seen.last; values = f.run.state.values } in
    let older = lasts_before seen.last seen.older in
    let e : lasts f.run.snapshots ≡ s ∷ older = ap lasts seen.is in
    let h : Told xs s older calls = subst (λ ss. ToldOf xs ss calls) e (told xs n first (lasts f.run.snapshots) calls long are) in
    let v = shows xs s older in
    let t : dump_after xs None calls ≡ dump xs (lasts f.run.snapshots) = h.text ∙ ap (dump xs) (sym e) in
    let some : dump xs (lasts f.run.snapshots) ≡ Some v.dump = ap (dump xs) e ∙ v.is in (
      subst AreTruthful (sym (all ∙ ap (λ cs. cs ++ end_call end f.run.state.values ∷ []) h.is))
          (truthful_more h.front h.last (end_call end f.run.state.values) (subst AreTruthful h.is h.truth) (subst (λ vs. AreDifferences vs f.run.state.values []) (sym h.values) (no_change f.run.state.values))),
      ap (λ d. header circuit ++ d)
          (ap (λ cs. dump_text (dump_after xs None cs)) all
          ∙ (ap dump_text (after-append xs None calls (end_call end f.run.state.values) ∙ ap (with_call xs (end_call end f.run.state.values)) t)
          ∙ (end_is xs end f.run.state.values (dump xs (lasts f.run.snapshots)) v.dump some
          ∙ ap (λ o. dump_text (dump xs (lasts f.run.snapshots)) ++ ending end (dump xs (lasts f.run.snapshots)) o) (sym none)))),
    )

pub spent_calls : (circuit : Circuit) (n end : ℕ) (first : List Value) (f : Finished) (spent : ℕ × Option ℕ) (calls : List Call) → All (λ s. length s.values ≡ n) (lasts f.run.snapshots) → f.spent ≡ Some spent
    → AreCalls first (lasts f.run.snapshots) calls → AreTruthful calls × (text_after circuit calls ≡ vcd_text circuit end f)
unfolding vcd_text dump
spent_calls circuit n end first f spent calls long some are = at (lasts f.run.snapshots) refl (told xs n first (lasts f.run.snapshots) calls long are)
  where
    xs : List Variable
    xs = variables_of circuit

    text : dump_after xs None calls ≡ dump xs (lasts f.run.snapshots) → text_after circuit calls ≡ header circuit ++ vcd_body xs end f
    text e =
        ap (λ d. header circuit ++ dump_text d) e
        ∙ ap (λ t. header circuit ++ t) (sym (append-nil (dump_text (dump xs (lasts f.run.snapshots)))) ∙ ap (λ o. dump_text (dump xs (lasts f.run.snapshots)) ++ ending end (dump xs (lasts f.run.snapshots)) o) (sym some))

    at : (seen : List Snapshot) → lasts f.run.snapshots ≡ seen → ToldOf xs seen calls → AreTruthful calls × (text_after circuit calls ≡ header circuit ++ vcd_body xs end f)
    at [] e h = (subst AreTruthful (sym h) tt, text (ap (dump_after xs None) h ∙ ap (dump xs) (sym e)))
    at (s ∷ older) e h = (h.truth, text (h.text ∙ ap (dump xs) (sym e)))

-- the calls of whole runs and of spent ones, as the engine makes them
start_long : (first : State) → IsLong (length first.values) (start_of first)
start_long first = record { values = refl; snapshots = λ i d l. absurd (omega arith) }

run_long : (s : Setting) (n : ℕ) → All (λ x. length x.values ≡ length s.first.values) (lasts (run_for s n).run.snapshots)
run_long s n = long_lasts (length s.first.values) (run_for s n).run.snapshots (long_times (length s.first.values) n s.bound s.machine s.sets 0 (start_of s.first) (start_long s.first)).snapshots

pub whole_run : (circuit : Circuit) (s : Setting) (made : List Call) → (run_for s (suc s.end)).spent ≡ None → AllCalls s made → AreTruthful made × (text_after circuit made ≡ vcd_text circuit s.end (run_for s (suc s.end)))
whole_run circuit s made none all =
    whole_calls circuit (length s.first.values) s.end s.first.values (run_for s (suc s.end)) all.calls made (seen_run s.end s.bound s.machine s.sets 0 (start_of s.first) none) (run_long s (suc s.end)) none all.are all.all

pub spent_whole : (circuit : Circuit) (s : Setting) (spent : ℕ × Option ℕ) (made : List Call) → (run_for s (suc s.end)).spent ≡ Some spent → CallsFor s spent.0 made → AreTruthful made × (text_after circuit made ≡ vcd_text circuit s.end (run_for s (suc s.end)))
spent_whole circuit s spent made some are =
    let cut = spent_run (suc s.end) s.bound s.machine s.sets 0 (start_of s.first) spent some in
    let same : spent.0 ≡ cut.times = omega (arith, cut.at) in
    let run : (run_for s spent.0).run ≡ (run_for s (suc s.end)).run = ap (λ n. (run_for s n).run) same ∙ sym cut.is in
    spent_calls circuit (length s.first.values) s.end s.first.values (run_for s (suc s.end)) spent made (run_long s (suc s.end)) some (subst (λ (r : Run). AreCalls s.first.values (lasts r.snapshots) made) run are)

-- later times add to the text
adds_more : (xs : List Variable) (s : Snapshot) (d : Dump) (t : List ℕ) (b : Bool) → (rest : List ℕ) × (dump_text (if b then Some (record { text = d.text ++ t; time = s.time; values = s.values }) else Some d) ≡ d.text ++ rest)
adds_more xs s d t true = (t, refl)
adds_more xs s d t false = ([], sym (append-nil d.text))

dumped-adds : (xs : List Variable) (s : Snapshot) (o : Option Dump) → (rest : List ℕ) × (dump_text (dump_with xs s o) ≡ dump_text o ++ rest)
dumped-adds xs s None = (first_block xs s, refl)
dumped-adds xs s (Some d) = adds_more xs s d (later_block xs d.values s) (any_variable_differs xs d.values s.values)

dump-adds : (xs : List Variable) (newer seen : List Snapshot) → (rest : List ℕ) × (dump_text (dump xs (newer ++ seen)) ≡ dump_text (dump xs seen) ++ rest)
dump-adds xs [] seen = ([], sym (append-nil (dump_text (dump xs seen))))
dump-adds xs (s ∷ newer) seen =
    let before = dump-adds xs newer seen in
    let more = dumped-adds xs s (dump xs (newer ++ seen)) in (
      before.0 ++ more.0,
      ap dump_text (dump-more xs s (newer ++ seen))
          ∙ (more.1
          ∙ (ap (λ t. t ++ more.0) before.1
          ∙ append_assoc (dump_text (dump xs seen)) before.0 more.0)),
    )

-- the text of calls is that of the snapshots
text_told : (xs : List Variable) (seen : List Snapshot) (calls : List Call) → ToldOf xs seen calls → AreTruthful calls × (dump_after xs None calls ≡ dump xs seen)
unfolding dump
text_told xs [] calls h = (subst AreTruthful (sym h) tt, ap (dump_after xs None) h)
text_told xs (s ∷ older) calls h = (h.truth, h.text)

pub begun_calls : (circuit : Circuit) (n end : ℕ) (first : List Value) (f : Finished) (seen : List Snapshot) (calls : List Call) → All (λ s. length s.values ≡ n) seen → Extends (lasts f.run.snapshots) seen → AreCalls first seen calls
    → AreTruthful calls × ((rest : List ℕ) × (vcd_text circuit end f ≡ text_after circuit calls ++ rest))
unfolding vcd_text
begun_calls circuit n end first f seen calls long more are =
    let xs = variables_of circuit in
    let h = text_told xs seen calls (told xs n first seen calls long are) in
    let adds = dump-adds xs more.later seen in
    let tail = ending end (dump xs (lasts f.run.snapshots)) f.spent in
    let whole : dump_text (dump xs (lasts f.run.snapshots)) ≡ dump_text (dump_after xs None calls) ++ adds.0 = ap (λ ss. dump_text (dump xs ss)) more.is ∙ (adds.1 ∙ ap (λ o. dump_text o ++ adds.0) (sym h.1)) in (
      h.0,
      (
        adds.0 ++ tail,
        ap (λ t. header circuit ++ (t ++ tail)) whole
            ∙ (ap (λ t. header circuit ++ t) (append_assoc (dump_text (dump_after xs None calls)) adds.0 tail)
            ∙ sym (append_assoc (header circuit) (dump_text (dump_after xs None calls)) (adds.0 ++ tail))),
      ),
    )

pub begun_run : (circuit : Circuit) (s : Setting) (n : ℕ) (made : List Call) → n ≤ suc s.end → (run_for s n).spent ≡ None → CallsFor s n made
    → AreTruthful made × ((rest : List ℕ) × (vcd_text circuit s.end (run_for s (suc s.end)) ≡ text_after circuit made ++ rest))
begun_run circuit s n made l none are =
    let k : ℕ = suc s.end - n in
    let e : n + k ≡ suc s.end = omega arith in
    let more : Extends (lasts (run_for s (suc s.end)).run.snapshots) (lasts (run_for s n).run.snapshots) =
    subst (λ j. Extends (lasts (run_for s j).run.snapshots) (lasts (run_for s n).run.snapshots)) e (extends n k s.bound s.machine s.sets 0 (start_of s.first) tt none) in
    begun_calls circuit (length s.first.values) s.end s.first.values (run_for s (suc s.end)) (lasts (run_for s n).run.snapshots) made (run_long s n) more are

-- the calls of a run that is stopped
stop_calls : (circuit : Circuit) (s : Setting) (n : ℕ) (made : List Call) → CallsFor s n made → AreTruthful made × (text_after circuit made ≡ vcd_begun circuit (run_for s n))
stop_calls circuit s n made are =
    let seen : List Snapshot = lasts (run_for s n).run.snapshots in
    let xs = variables_of circuit in
    let h = text_told xs seen made (told xs (length s.first.values) s.first.values seen made (run_long s n) are) in
    (h.0, ap (λ o. header circuit ++ dump_text o) h.1)

pub stopped_run : (circuit : Circuit) (s : Setting) (n : ℕ) (made : List Call) → n ≤ suc s.end → (run_for s n).spent ≡ None → CallsFor s n made → AreTruthful made × (text_after circuit made ≡ vcd_begun circuit (run_for s n))
stopped_run circuit s n made l none are = stop_calls circuit s n made are

pub spent_stop : (circuit : Circuit) (s : Setting) (n : ℕ) (spent : ℕ × Option ℕ) (made : List Call) → (run_for s n).spent ≡ Some spent → CallsFor s spent.0 made → AreTruthful made × (text_after circuit made ≡ vcd_begun circuit (run_for s n))
spent_stop circuit s n spent made some are =
    let cut = spent_run n s.bound s.machine s.sets 0 (start_of s.first) spent some in
    let same : spent.0 ≡ cut.times = omega (arith, cut.at) in
    let run : (run_for s spent.0).run ≡ (run_for s n).run = ap (λ k. (run_for s k).run) same ∙ sym cut.is in
    let h = stop_calls circuit s spent.0 made are in
    (h.0, h.1 ∙ ap (λ (r : Run). header circuit ++ dump_text (dump (variables_of circuit) (lasts r.snapshots))) run)

pub stop_begun : (circuit : Circuit) (s : Setting) (n k : ℕ) (made : List Call) → n ≤ k → (run_for s n).spent ≡ None → CallsFor s n made
    → AreTruthful made × ((rest : List ℕ) × (vcd_begun circuit (run_for s k) ≡ text_after circuit made ++ rest))
stop_begun circuit s n k made l none are =
    let j : ℕ = k - n in
    let e : n + j ≡ k = omega arith in
    let seen : List Snapshot = lasts (run_for s n).run.snapshots in
    let xs = variables_of circuit in
    let more : Extends (lasts (run_for s k).run.snapshots) seen = subst (λ i. Extends (lasts (run_for s i).run.snapshots) seen) e (extends n j s.bound s.machine s.sets 0 (start_of s.first) tt none) in
    let grown = dump-adds xs more.later seen in
    let h = stop_calls circuit s n made are in (
      h.0,
      (
        grown.0,
        ap (λ ss. header circuit ++ dump_text (dump xs ss)) more.is
            ∙ (ap (λ t. header circuit ++ t) grown.1
            ∙ (sym (append_assoc (header circuit) (dump_text (dump xs seen)) grown.0)
            ∙ ap (λ t. t ++ grown.0) (sym h.1))),
      ),
    )
